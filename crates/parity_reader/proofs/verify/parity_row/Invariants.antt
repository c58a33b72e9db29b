-- `parity_reader::verify::parity_row` meets its contract: what the places from p on give, p weighed as place 0.
use Rattle.std.proofs.Common.{◌+◌}
use Rattle.rows.specs.Rows.{Row}
use Rattle.frames.specs.Lists.{lengths_of, largest}
use Rattle.frames.specs.WeightLaws.{tail}
use Rattle.parity_found.specs.Ready.{found_in}
use Rattle.parity_reader.specs.VerifyLaws.{found_byte}
use Rattle.parity_reader.proofs.verify.parity_row.Given as goal

abbrev pub invariant-loop-p : goal.invariant-loop-p
invariant-loop-p l = Row (λ x. tail l.w (found_byte l.g x) l.p l.g.shape.k) (largest (lengths_of (found_in l.g)) + 2) l.row
