-- `parity_restore::rest_row` meets its contract: what the places from p on give, p weighed as place 0; then the parity shard.
use Rattle.std.proofs.Common.{length}
use Rattle.rows.specs.Rows.{Row}
use Rattle.frames.specs.WeightLaws.{tail}
use Rattle.parity_restore.specs.RestoreLaws.{held_byte}
use Rattle.parity_restore.proofs.rest_row.Given as goal

abbrev pub invariant-loop-p : goal.invariant-loop-p
invariant-loop-p l = Row (λ x. tail l.w (held_byte l.s l.held x) l.p l.k) (length l.initial.row) l.row
