-- `open`: of the table the records that are lent.
use mathlib.Core.Path.{◌≡◌}
use borrow.Author.Rules.{rules}
use lib.ListN.{length}
use Rattle.lists.proofs.Loops.{length_mapped}
use Rattle.value_calls.proofs.Front.{front}
use Rattle.value_calls.proofs.open.Goals as goal

pub returns : goal.returns
returns c =
    let t = c.args.table in
    let whole : length t ≡ 128 = search (rules, length_mapped, c.well_formed.1.1.1.1.0) in
    rw (front t c.args.lent _ whole c.min.ensures) c.open-answer.ensures.promise
