-- `transcript::row` meets its contract: after i turns the first i numbers are put.
use Rattle.std.proofs.Common.{take}
use Rattle.notation.specs.Puts.{Put}
use Rattle.transcript.specs.Lines.{row}
use Rattle.transcript.proofs.row.Given as goal

abbrev pub invariant-loop-n : goal.invariant-loop-n
invariant-loop-n l = Put l.initial.out l.at (row (take l.n-index l.numbers)) l.here l.out
