-- The block is checked, the records gathered, and those that the core left are put back.
use Rattle.std.proofs.Common.{rules}
use Rattle.std.proofs.lemmas.Result.{err_from_is_err_and}
use Rattle.control.specs.Views.{Whole, arrays_of}
use Rattle.promises.specs.Parts.{parts_of}
use Rattle.calls.proofs.Taking.{input_refused, input_hearable, input_not_taken, input_taken}
use Rattle.calls.proofs.input.Goals as goal

pub returns-in_err-check_gathered-clause-promise : goal.returns-in_err-check_gathered-clause-promise
returns-in_err-check_gathered-clause-promise c =
    let a = c.args in
    let p = parts_of a.send_pool.now a.receive_pool.now a.table.now a.acks.now in
    let made = rw c.gather.ensures.1 at c.check_gathered.ensures in
    let x = err_from_is_err_and c.from_residual.result c.from_residual.ensures.1 in
    let whole : Whole (arrays_of a.link.now) = search rules in
    rw (x.1, x.2) (input_refused a.datagram.now a.link.now p _ _ c.enough-long.result c.check_gathered.result
    (rw c.lent_lengths-lent.ensures at c.enough-long.ensures) made whole _ c.in_err-check_gathered.was)

pub input_checked-requires : goal.input_checked-requires
input_checked-requires c =
    let a = c.args in
    let p = parts_of a.send_pool.now a.receive_pool.now a.table.now a.acks.now in
    let made = rw c.gather.ensures.1 at c.check_gathered.ensures in
    rw c.gather.ensures.1 (input_hearable a.datagram.now a.link.now p _ _ c.enough-long.result c.check_gathered.result
    (rw c.lent_lengths-lent.ensures at c.enough-long.ensures) made c.in_ok-check_gathered.was)

pub returns-in_err-changed-clause-promise : goal.returns-in_err-changed-clause-promise
returns-in_err-changed-clause-promise c =
    let a = c.args in
    let p = parts_of a.send_pool.now a.receive_pool.now a.table.now a.acks.now in
    let made = rw c.gather.ensures.1 at c.check_gathered.ensures in
    let x = err_from_is_err_and c.from_residual-in_err-changed.result c.from_residual-in_err-changed.ensures.1 in
    let n = c.input_checked.new in
    let left = rw (c.in_err-changed.was, c.gather.ensures.1) at c.input_checked.ensures.takes.0 in
    rw (x.1, x.2) (input_not_taken a.datagram.now a.link.now p _ _ c.enough-long.result c.check_gathered.result
    (rw c.lent_lengths-lent.ensures at c.enough-long.ensures) made c.in_ok-check_gathered.was n.link n.records n.pool n.acks
    c.input_checked.ensures.takes.1 c.input_checked.ensures.takes.2 _ left)

pub scatter-requires : goal.scatter-requires
scatter-requires c = (c.input_checked.ensures.takes.1.whole_outstanding, c.input_checked.ensures.takes.2)

pub returns-clause-promise : goal.returns-clause-promise
returns-clause-promise c =
    let a = c.args in
    let p = parts_of a.send_pool.now a.receive_pool.now a.table.now a.acks.now in
    let made = rw c.gather.ensures.1 at c.check_gathered.ensures in
    let n = c.input_checked.new in
    let left = rw (c.in_ok-changed.was, c.gather.ensures.1) at c.input_checked.ensures.takes.0 in
    input_taken a.datagram.now a.link.now p _ _ c.enough-long.result c.check_gathered.result
    (rw c.lent_lengths-lent.ensures at c.enough-long.ensures) made c.in_ok-check_gathered.was n.link n.records n.pool n.acks
    c.input_checked.ensures.takes.1 c.input_checked.ensures.takes.2 _ left c.scatter.new.table c.scatter.ensures
