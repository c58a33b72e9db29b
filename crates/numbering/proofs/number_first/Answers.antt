-- `number_first`: i segments stand behind the outstanding ones.
use native.Mathlib.Omega.{arith}
use borrow.Author.Rules.{rules}
use Rattle.numbering.proofs.NumberLaws.{numbering_start, numbering_more, numbering_as, numbering_done}
use Rattle.numbering.proofs.number_first.Goals as goal

pub loop-i-init : goal.loop-i-init
loop-i-init c =
    numbering_as _ _ _ _ _ _ _ _ _ _ _ _ _
    (numbering_start _ _ _ _ _ _ _ (search rules) (search rules) (search rules) (search rules)) _ (omega arith)

pub loop-i-preserved : goal.loop-i-preserved
loop-i-preserved c =
    numbering_as _ _ _ _ _ _ _ _ _ _ _ _ _
    (numbering_more _ _ _ _ _ _ _ _ _ _ _ _ _ c.loop-i.invariant _ _ c.told-queued c.requires c.loop-i-test.true
    c.numbered_record.ensures c.sum-number.ensures) _ (omega arith)

pub returns : goal.returns
returns c = numbering_done _ _ _ _ _ _ _ _ _ _ _ _ _ c.loop-i.invariant c.loop-i-test.false
