-- `parity_writer::shards::parity_row` meets its contract: each shard added, from the last place to the first.
use Rattle.std.proofs.Common.{sym, ap, ◌∙◌, ◌-◌, take_all, arith, rules}
use Rattle.frames.specs.Lists.{add_up}
use Rattle.frames.specs.PartLaws.{lies}
use Rattle.parity_writer.specs.ShardLaws.{add_up_back, parity_none, parity_next, parity_done}
use Rattle.parity_writer.proofs.shards.parity_row.Goals as goal

pub loop-p-init : goal.loop-p-init
loop-p-init c = (
  c.requires.0 ∙ ap add_up (sym (take_all _ c.args.datagrams.lengths.now (omega arith))),
  parity_none _ _ _ c.args.datagrams.small _ _ _ c.requires.1 c.clear.ensures,
)

pub overflow_sub-from : goal.overflow_sub-from
overflow_sub-from c = (add_up_back _ c.loop-p.p _ _ c.loop-p-test.true c.loop-p.auto.p c.loop-p.invariant.0 c.from-size.ensures).0

pub slice_bounds-add_shard-end : goal.slice_bounds-add_shard-end
slice_bounds-add_shard-end c =
    let b = add_up_back _ c.loop-p.p _ _ c.loop-p-test.true c.loop-p.auto.p c.loop-p.invariant.0 c.from-size.ensures in
    let l = lies _ _ (c.loop-p.p - 1) _ _ c.args.datagrams.whole (omega arith) b.1 c.from-size.ensures in
    search rules

pub add_shard-requires : goal.add_shard-requires
add_shard-requires c =
    let b = add_up_back _ c.loop-p.p _ _ c.loop-p-test.true c.loop-p.auto.p c.loop-p.invariant.0 c.from-size.ensures in
    let l = lies _ _ (c.loop-p.p - 1) _ _ c.args.datagrams.whole (omega arith) b.1 c.from-size.ensures in
    (omega (arith, l.size, c.step.ensures.size, c.loop-p.invariant.1.size), omega (arith, l.size))

pub loop-p-preserved : goal.loop-p-preserved
loop-p-preserved c =
    let b = add_up_back _ c.loop-p.p _ _ c.loop-p-test.true c.loop-p.auto.p c.loop-p.invariant.0 c.from-size.ensures in
    let l = lies _ _ (c.loop-p.p - 1) _ _ c.args.datagrams.whole (omega arith) b.1 c.from-size.ensures in
    (b.1, parity_next _ _ _ c.args.datagrams.small c.loop-p.p (c.loop-p.p - 1) _ _ _ _ _ (omega arith) (omega arith) l.part c.loop-p.invariant.1 c.step.ensures c.add_shard.ensures)

pub returns : goal.returns
returns c = parity_done _ _ _ c.args.datagrams.small _ _ c.args.datagrams.whole (search rules) c.loop-p.invariant.1
