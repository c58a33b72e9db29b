-- The checks of 7 and 13, then the size of the message at the front.
use Rattle.std.proofs.lemmas.Result.{err_from_is_err_and}
use Rattle.promises.specs.Parts.{parts_of}
use Rattle.block_check.specs.Lent.{lent_records}
use Rattle.calls.proofs.Checks.{long_of, readable, untold, told}
use Rattle.calls.proofs.size.Goals as goal

pub returns-in_err-check : goal.returns-in_err-check
returns-in_err-check c =
    let h = c.args.link.now in
    let p = parts_of c.args.send_pool.now c.args.receive_pool.now c.args.table.now c.args.acks.now in
    let q = err_from_is_err_and c.from_residual.result c.from_residual.ensures.1 in
    rw (q.1, q.2) (untold h p c.enough-long.result (long_of h p _ _ c.enough-long.ensures c.lent_lengths-lent.ensures)
    c.check.new.send_marks c.check.new.receive_marks c.check.result c.check.ensures _ c.in_err-check.was)

pub size_checked-requires : goal.size_checked-requires
size_checked-requires c =
    let h = c.args.link.now in
    let p = parts_of c.args.send_pool.now c.args.receive_pool.now c.args.table.now c.args.acks.now in
    (readable h p c.enough-long.result (long_of h p _ _ c.enough-long.ensures c.lent_lengths-lent.ensures)
    c.check.new.send_marks c.check.new.receive_marks c.check.result c.check.ensures c.in_ok-check.was).counts

pub returns : goal.returns
returns c =
    let h = c.args.link.now in
    let p = parts_of c.args.send_pool.now c.args.receive_pool.now c.args.table.now c.args.acks.now in
    told h p c.enough-long.result (long_of h p _ _ c.enough-long.ensures c.lent_lengths-lent.ensures)
    c.check.new.send_marks c.check.new.receive_marks c.check.result c.check.ensures c.in_ok-check.was
    c.size_checked.result (c.size_checked.ensures (lent_records h p.table) p.acks)
