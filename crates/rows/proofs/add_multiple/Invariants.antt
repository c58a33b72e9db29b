-- `rows::add_multiple` meets its contract: the bytes passed are sums with products.
use Rattle.std.proofs.Common.{get_or}
use Rattle.galois.specs.Field.{plus, mul}
use Rattle.rows.specs.RowLaws.{Done}
use Rattle.rows.proofs.add_multiple.Given as goal

abbrev pub invariant-loop-i : goal.invariant-loop-i
invariant-loop-i l = Done (λ x. plus (get_or l.initial.row x 0) (mul l.c (get_or l.other x 0))) l.i l.initial.row l.row
