-- `mark`: the words before the index are marked.
use Rattle.std.proofs.Common.{eqb}
use Rattle.marks.proofs.Turns.{Marking}
use Rattle.marks.proofs.mark.Given as goal

abbrev pub invariant-loop-word : goal.invariant-loop-word
invariant-loop-word g l = Marking g.row.S l.initial.marks l.words l.marks (eqb l.twice 0) l.word-index
