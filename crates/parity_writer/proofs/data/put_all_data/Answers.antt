-- `parity_writer::data::put_all_data` meets its contract: the frames of the places passed stand one behind the other.
use Rattle.std.proofs.Common.{arith, rules}
use Rattle.frames.specs.PartLaws.{lies}
use Rattle.parity_writer.specs.WriterLaws.{filled_none, filled_next}
use Rattle.parity_writer.proofs.data.put_all_data.Goals as goal

pub loop-p-init : goal.loop-p-init
loop-p-init c = filled_none _ _ _ _ _

pub overflow_add-from : goal.overflow_add-from
overflow_add-from c =
    let l = lies _ _ _ _ _ c.requires.whole c.loop-p-test.true c.loop-p.invariant.read c.from-size.ensures in
    record { fits = omega arith }

pub slice_bounds-put_data-end : goal.slice_bounds-put_data-end
slice_bounds-put_data-end c =
    let l = lies _ _ _ _ _ c.requires.whole c.loop-p-test.true c.loop-p.invariant.read c.from-size.ensures in
    search rules

pub put_data-requires : goal.put_data-requires
put_data-requires c =
    let l = lies _ _ _ _ _ c.requires.whole c.loop-p-test.true c.loop-p.invariant.read c.from-size.ensures in
    let t = c.loop-p.invariant.place in
    (omega (arith, l.size, c.loop-p.invariant.room), omega (arith, l.size))

pub overflow_add-out_lengths : goal.overflow_add-out_lengths
overflow_add-out_lengths c =
    let l = lies _ _ _ _ _ c.requires.whole c.loop-p-test.true c.loop-p.invariant.read c.from-size.ensures in
    record { fits = omega arith }

pub overflow_add-at-in-loop-p : goal.overflow_add-at-in-loop-p
overflow_add-at-in-loop-p c =
    let l = lies _ _ _ _ _ c.requires.whole c.loop-p-test.true c.loop-p.invariant.read c.from-size.ensures in
    let t = c.loop-p.invariant.place in
    record { fits = omega arith }

pub loop-p-preserved : goal.loop-p-preserved
loop-p-preserved c =
    let l = lies _ _ _ _ _ c.requires.whole c.loop-p-test.true c.loop-p.invariant.read c.from-size.ensures in
    filled_next _ _ _ _ _ _ _ _ _ _ _ _ _ _ c.loop-p.invariant c.requires.whole c.loop-p-test.true c.from-size.ensures
    (search rules) l.part c.put_data.ensures
