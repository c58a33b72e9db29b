-- `push` notes, then keeps.
use borrow.Author.Rules.{rules}
use Rattle.receive.proofs.Pushed.{heard}
use Rattle.receive.proofs.push.Goals as goal

pub returns-clause-hears : goal.returns-clause-hears
returns-clause-hears c =
    let h = c.args.half.now in
    heard h.arrival h.ready.now h.waiting.now h.numbers.now _ _ _ _ _ _ _ _ c.requires.1 (search rules) (search rules) _ _
    c.note-half.ensures _ _ _ _ c.keep.ensures.whole _ _ c.keep.ensures.keeps
