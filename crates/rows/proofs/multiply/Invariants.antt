-- `rows::multiply` meets its contract: the bytes passed are products.
use Rattle.std.proofs.Common.{get_or}
use Rattle.galois.specs.Field.{mul}
use Rattle.rows.specs.RowLaws.{Done}
use Rattle.rows.proofs.multiply.Given as goal

abbrev pub invariant-loop-b : goal.invariant-loop-b
invariant-loop-b l = Done (λ x. mul l.c (get_or l.initial.row x 0)) l.b-index l.initial.row l.row
