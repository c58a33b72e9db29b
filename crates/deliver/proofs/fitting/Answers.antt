-- `fitting`: the size of the message at the front, where there is room for it.
use Rattle.std.proofs.lemmas.Result.{err_from_is_err_and}
use Rattle.words.specs.Words.{held_in}
use Rattle.deliver.proofs.Sizes.{fits, too_long, none}
use Rattle.deliver.proofs.fitting.Goals as goal

pub returns : goal.returns
returns c = fits (held_in c.args.ready.now c.args.n) _ _ c.in_ok-size.ensures c.if-room-size.false

pub returns-then-room-size : goal.returns-then-room-size
returns-then-room-size c = too_long (held_in c.args.ready.now c.args.n) _ _ c.in_ok-size.ensures c.if-room-size.true

pub returns-in_err-size : goal.returns-in_err-size
returns-in_err-size c =
    let p = err_from_is_err_and c.from_residual.result c.from_residual.ensures.1 in
    rw (p.1, p.2) (none (held_in c.args.ready.now c.args.n) _ _ c.in_err-size.ensures)
