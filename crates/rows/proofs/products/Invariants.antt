-- `rows::products` meets its contract: the entries passed are products.
use Rattle.std.proofs.Common.{◌≡◌, length}
use Rattle.galois.specs.Field.{mul}
use Rattle.rows.specs.RowLaws.{Done}
use Rattle.rows.proofs.products.Given as goal

abbrev pub invariant-loop-b : goal.invariant-loop-b
invariant-loop-b l = (length l.initial.table ≡ 256) × Done (mul l.c) l.b l.initial.table l.table
