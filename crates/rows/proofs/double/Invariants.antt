-- `rows::double` meets its contract: the bytes passed are doubled.
use Rattle.std.proofs.Common.{get_or}
use Rattle.galois.specs.Field.{double}
use Rattle.rows.specs.RowLaws.{Done}
use Rattle.rows.proofs.double.Given as goal

abbrev pub invariant-loop-b : goal.invariant-loop-b
invariant-loop-b l = Done (λ x. double (get_or l.initial.row x 0)) l.b-index l.initial.row l.row
