-- What the core leaves is what opening promises.
use Rattle.std.proofs.Common.{length, refl}
use Rattle.promises.specs.Parts.{parts_of}
use Rattle.from_cores.proofs.Opening.{open_promised}
use Rattle.calls.proofs.open.Goals as goal

pub returns-clause-promise : goal.returns-clause-promise
returns-clause-promise c =
    let p = parts_of c.args.send_pool.now c.args.receive_pool.now c.args.table.now c.args.acks.now in
    open_promised c.args.new c.args.link.now p c.open.result c.open.new.link (length p.table) refl
    (rw c.lent_lengths.ensures at c.open.ensures.opens)
