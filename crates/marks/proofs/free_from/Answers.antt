-- `free_from`: each slot from `from` on before `slot` is marked.
use Rattle.std.proofs.Common.{refl}
use Rattle.marks.proofs.Frees.{slot_low, free_more, free_stop}
use Rattle.marks.proofs.Kept.{further}
use Rattle.marks.proofs.free_from.Goals as goal

pub bounds-marks-from : goal.bounds-marks-from
bounds-marks-from g c = slot_low g.row.S c.args.marks.now c.args.from c.requires.1

pub returns-then-marks-from-eq0 : goal.returns-then-marks-from-eq0
returns-then-marks-from-eq0 g c = free_stop g.row.S c.args.marks.now c.args.from _ c.requires.0 refl c.requires.1 c.if-marks-from-eq0.true

pub loop-slot-init : goal.loop-slot-init
loop-slot-init g c = (c.requires.1, refl, slot_low g.row.S c.args.marks.now c.args.from c.requires.1)

pub loop-slot-preserved : goal.loop-slot-preserved
loop-slot-preserved g c =
    let v = c.loop-slot.invariant in
    let m = c.args.marks.now in (
      v.0,
      free_more g.row.S m c.loop-slot.slot _ c.requires.0 v.1 v.0 c.loop-slot-test.true,
      further g.row.S m c.loop-slot.slot _ c.requires.0 v.1 v.0 c.loop-slot-test.true,
    )

pub returns : goal.returns
returns g c =
    let v = c.loop-slot.invariant in
    free_stop g.row.S c.args.marks.now c.loop-slot.slot _ c.requires.0 v.1 v.0 c.loop-slot-test.false
