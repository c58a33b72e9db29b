-- The checks of 7 and 13, then what sending leaves of the block.
use Rattle.std.proofs.lemmas.Result.{err_from_is_err_and}
use Rattle.promises.specs.Parts.{parts_of}
use Rattle.block_check.specs.Lent.{lent_records}
use Rattle.calls.proofs.Checks.{long_of, sendable, not_sent, sent}
use Rattle.calls.proofs.send.Goals as goal

pub returns-in_err-check-clause-promise : goal.returns-in_err-check-clause-promise
returns-in_err-check-clause-promise c =
    let h = c.args.link.now in
    let p = parts_of c.args.send_pool.now c.args.receive_pool.now c.args.table.now c.args.acks.now in
    let q = err_from_is_err_and c.from_residual.result c.from_residual.ensures.1 in
    rw (q.1, q.2) (not_sent h p c.enough-long.result (long_of h p _ _ c.enough-long.ensures c.lent_lengths-lent.ensures)
    c.check.new.send_marks c.check.new.receive_marks c.check.result c.check.ensures c.args.message.now _ c.in_err-check.was)

pub send_checked-requires : goal.send_checked-requires
send_checked-requires c =
    let h = c.args.link.now in
    let p = parts_of c.args.send_pool.now c.args.receive_pool.now c.args.table.now c.args.acks.now in (
      lent_records h p.table,
      sendable h p c.enough-long.result (long_of h p _ _ c.enough-long.ensures c.lent_lengths-lent.ensures)
          c.check.new.send_marks c.check.new.receive_marks c.check.result c.check.ensures c.in_ok-check.was,
    )

pub returns-clause-promise : goal.returns-clause-promise
returns-clause-promise c =
    let h = c.args.link.now in
    let p = parts_of c.args.send_pool.now c.args.receive_pool.now c.args.table.now c.args.acks.now in
    let long = long_of h p _ _ c.enough-long.ensures c.lent_lengths-lent.ensures in
    let marks = c.check.new in
    sent h p c.enough-long.result long marks.send_marks marks.receive_marks c.check.result c.check.ensures c.in_ok-check.was
    c.args.message.now c.send_checked.result c.send_checked.new.link c.send_checked.new.pool
    (c.send_checked.ensures.sends (lent_records h p.table) p.acks
    (sendable h p c.enough-long.result long marks.send_marks marks.receive_marks c.check.result c.check.ensures c.in_ok-check.was))
