-- `flush`: of the table the records that are lent.
use mathlib.Core.Path.{◌≡◌}
use borrow.Author.Rules.{rules}
use lib.ListN.{length}
use Rattle.lists.proofs.Loops.{length_mapped}
use Rattle.value_calls.proofs.Front.{front, fronted, behind}
use Rattle.value_calls.proofs.flush.Goals as goal

pub returns : goal.returns
returns c =
    let t = c.args.table in
    let whole : length t ≡ 128 = search (rules, length_mapped, c.well_formed.1.1.1.0) in
    let e = c.min.ensures in
    let next = c.flush-answer.new.table in
    let many = c.flush-answer.auto.table in (
      rw (front t c.args.lent _ whole e, fronted t c.args.lent _ whole e next many) c.flush-answer.ensures.promise,
      behind t c.args.lent _ whole e next many,
    )
