-- `parity_scan::scan::scan_from` meets its contract: each frame checked, and its shard noted.
use Rattle.std.proofs.Common.{refl, arith, rules}
use Rattle.frames.specs.PartLaws.{lies}
use Rattle.parity_scan.specs.ScanLaws.{seen_none, seen_stop, frame_long, seen_next, seen_all}
use Rattle.parity_scan.proofs.scan.scan_from.Goals as goal

pub loop-n-init : goal.loop-n-init
loop-n-init c = seen_none _ _ _ _ _

pub overflow_add-frame : goal.overflow_add-frame
overflow_add-frame c =
    let l = lies _ _ _ _ _ c.args.frames.whole c.loop-n-test.true c.loop-n.invariant.place c.from-size.ensures in
    record { fits = omega arith }

pub slice_bounds-frame-end : goal.slice_bounds-frame-end
slice_bounds-frame-end c =
    let l = lies _ _ _ _ _ c.args.frames.whole c.loop-n-test.true c.loop-n.invariant.place c.from-size.ensures in
    search rules

pub returns-then-not-frame_ok : goal.returns-then-not-frame_ok
returns-then-not-frame_ok c = (
  seen_stop _ _ _ _ _ _ _ _ _ _ c.loop-n.invariant c.args.frames.whole c.loop-n-test.true c.from-size.ensures refl
      c.if-not-frame_ok.ensures,
  refl,
)

pub overflow_add-shard : goal.overflow_add-shard
overflow_add-shard c =
    let i = lies _ _ _ _ _ c.args.frames.whole c.loop-n-test.true c.loop-n.invariant.place c.from-size.ensures in
    let l = frame_long _ _ _ _ _ _ _ _ _ _ c.loop-n.invariant c.args.frames.whole c.loop-n-test.true c.from-size.ensures refl
    c.if-not-frame_ok.ensures in
    record { fits = omega arith }

pub overflow_sub-shard : goal.overflow_sub-shard
overflow_sub-shard c =
    let l = frame_long _ _ _ _ _ _ _ _ _ _ c.loop-n.invariant c.args.frames.whole c.loop-n-test.true c.from-size.ensures refl
    c.if-not-frame_ok.ensures in
    omega arith

pub place_in-requires : goal.place_in-requires
place_in-requires c =
    let i = lies _ _ _ _ _ c.args.frames.whole c.loop-n-test.true c.loop-n.invariant.place c.from-size.ensures in
    let l = frame_long _ _ _ _ _ _ _ _ _ _ c.loop-n.invariant c.args.frames.whole c.loop-n-test.true c.from-size.ensures refl
    c.if-not-frame_ok.ensures in
    (omega (arith, i.size), c.args.shape.few)

pub invariant_of-shard : goal.invariant_of-shard
invariant_of-shard c =
    let l = frame_long _ _ _ _ _ _ _ _ _ _ c.loop-n.invariant c.args.frames.whole c.loop-n-test.true c.from-size.ensures refl
    c.if-not-frame_ok.ensures in
    record { some = omega arith }

pub loop-n-preserved : goal.loop-n-preserved
loop-n-preserved c =
    rw c.note.ensures (seen_next _ _ _ _ _ _ _ _ _ _ c.loop-n.invariant c.args.frames.whole c.loop-n-test.true c.from-size.ensures refl _ _
    c.if-not-frame_ok.ensures c.place_in.ensures.0 (search rules) refl refl)

pub returns : goal.returns
returns c = seen_all _ _ _ _ _ _ _ _ c.loop-n.invariant c.loop-n-test.false
