-- A refusal of the checks; else the records are gathered, and the time that the core names is the one that is promised.
use Rattle.std.proofs.lemmas.Result.{err_from_is_err_and}
use Rattle.promises.specs.Parts.{parts_of}
use Rattle.calls.proofs.Named.{unnamed, counted, named}
use Rattle.calls.proofs.check.Goals as goal

pub returns-in_err-check_gathered : goal.returns-in_err-check_gathered
returns-in_err-check_gathered c =
    let parts = parts_of c.args.send_pool.now c.args.receive_pool.now c.args.table.now c.args.acks.now in
    let made = rw c.gather.ensures.1 at c.check_gathered.ensures in
    let p = err_from_is_err_and c.from_residual.result c.from_residual.ensures.1 in
    rw (p.1, p.2) (unnamed c.args.link.now parts _ (rw c.lent_lengths-lent.ensures at c.enough-long.ensures) _ _ _ made c.args.t _
    c.in_err-check_gathered.was)

pub next_update-requires : goal.next_update-requires
next_update-requires c =
    let parts = parts_of c.args.send_pool.now c.args.receive_pool.now c.args.table.now c.args.acks.now in
    let made = rw c.gather.ensures.1 at c.check_gathered.ensures in
    counted c.args.link.now parts _ (rw c.lent_lengths-lent.ensures at c.enough-long.ensures) _ _ _ made c.args.t c.in_ok-check_gathered.was

pub returns : goal.returns
returns c =
    let parts = parts_of c.args.send_pool.now c.args.receive_pool.now c.args.table.now c.args.acks.now in
    let made = rw c.gather.ensures.1 at c.check_gathered.ensures in
    named c.args.link.now parts _ (rw c.lent_lengths-lent.ensures at c.enough-long.ensures) _ _ _ made c.args.t c.in_ok-check_gathered.was
    _ c.gather.ensures.1 _ c.next_update.ensures
