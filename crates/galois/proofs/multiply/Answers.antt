-- `galois::multiply` meets its contract: 2 to the sum of the logarithms.
use mathlib.Core.Path.{◌∙◌, sym}
use borrow.Author.Rules.{rules}
use Rattle.galois.specs.FieldLaws.{zero_mul, mul_zero}
use Rattle.galois.proofs.TableLaws.{product_of}
use Rattle.galois.proofs.multiply.Goals.{then-a-eq0-via-then-a-eq0, then-a-eq0-via-else-a-eq0+then-b-eq0}
use Rattle.galois.proofs.multiply.Goals as goal

pub returns-then-a-eq0 : goal.returns-then-a-eq0
returns-then-a-eq0 c = elim c.then-a-eq0.branch [
  | then-a-eq0-via-then-a-eq0 w ↦ rw w.if-a-eq0.true (sym (zero_mul _))
  | then-a-eq0-via-else-a-eq0+then-b-eq0 w ↦ rw w.if-b-eq0.true (sym (mul_zero _))
]

pub returns : goal.returns
returns c = c.power.ensures ∙ product_of _ _ _ _ c.logarithm.ensures c.logarithm-2.ensures (search rules)
    (search rules)
