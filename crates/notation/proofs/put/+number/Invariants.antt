-- `notation::put::number`: a tenth of the number is smaller.
use Rattle.notation.proofs.put.+number.Given as goal

abbrev pub decreases-number : goal.decreases-number
decreases-number l = l.n
