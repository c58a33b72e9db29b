-- `galois::inverse` meets its contract: 2 to 255 less the logarithm.
use mathlib.Core.Path.{◌∙◌, sym}
use borrow.Author.Rules.{rules}
use Rattle.galois.proofs.TableLaws.{inverse_of, inverse_zero}
use Rattle.galois.proofs.inverse.Goals as goal

pub returns-then-a-eq0 : goal.returns-then-a-eq0
returns-then-a-eq0 c = rw c.if-a-eq0.true (sym inverse_zero)

pub returns : goal.returns
returns c = c.power.ensures ∙ inverse_of _ _ c.logarithm.ensures (search rules)
