-- A refusal of the checks; else the records are gathered from the table, and those that the core left are put back.
use Rattle.std.proofs.Common.{rules}
use Rattle.std.proofs.lemmas.Result.{err_from_is_err_and}
use Rattle.promises.specs.Parts.{parts_of, flush_parts_of}
use Rattle.calls.proofs.Written.{unwritten, flushable, written}
use Rattle.calls.proofs.write.Goals as goal

pub returns-in_err-check_gathered-clause-writes : goal.returns-in_err-check_gathered-clause-writes
returns-in_err-check_gathered-clause-writes c =
    let parts = parts_of c.args.send_pool.now c.args.receive_pool.now c.args.table.now c.args.acks.now in
    let made = rw c.gather.ensures.1 at c.check_gathered.ensures in
    let into = flush_parts_of c.args.output.now c.args.lengths.now in
    let p = err_from_is_err_and c.from_residual.result c.from_residual.ensures.1 in
    rw (p.1, p.2) (unwritten c.args.link.now parts into _ (rw c.lent_lengths-lent.ensures at c.enough_to_flush-long.ensures) _ _ _
    made _ c.in_err-check_gathered.was (search rules) c.args.paced c.args.t)

pub flush_checked-flushed-requires : goal.flush_checked-flushed-requires
flush_checked-flushed-requires c =
    let parts = parts_of c.args.send_pool.now c.args.receive_pool.now c.args.table.now c.args.acks.now in
    let made = rw c.gather.ensures.1 at c.check_gathered.ensures in
    let into = flush_parts_of c.args.output.now c.args.lengths.now in
    flushable c.args.link.now parts into _ (rw c.lent_lengths-lent.ensures at c.enough_to_flush-long.ensures) _ _ _ made
    c.in_ok-check_gathered.was _ c.gather.ensures.1

pub returns-clause-writes : goal.returns-clause-writes
returns-clause-writes c =
    let parts = parts_of c.args.send_pool.now c.args.receive_pool.now c.args.table.now c.args.acks.now in
    let made = rw c.gather.ensures.1 at c.check_gathered.ensures in
    let into = flush_parts_of c.args.output.now c.args.lengths.now in
    let filled = flush_parts_of c.flush_checked-flushed.new.output c.flush_checked-flushed.new.lengths in
    written c.args.link.now parts into _ (rw c.lent_lengths-lent.ensures at c.enough_to_flush-long.ensures) _ _ _ made
    c.in_ok-check_gathered.was _ c.gather.ensures.1 c.args.paced c.args.t c.flush_checked-flushed.result _ _ filled _ c.whole.ensures (search rules)
    c.scatter.ensures c.flush_checked-flushed.ensures.runs
