-- `in_line`: the words before the index are tested.
use Rattle.std.proofs.Common.{◌≡◌, ◌&&◌, ◌+◌, drop}
use Rattle.checking.specs.Tests.{in_line}
use Rattle.checking.proofs.full.in_line.Given as goal

abbrev pub invariant-loop-i : goal.invariant-loop-i
invariant-loop-i l = in_line l.from l.words ≡ (l.fit && in_line (l.from + l.i) (drop l.i l.words))
