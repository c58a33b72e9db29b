-- `ascend`: the neighbours before index i are tested.
use Rattle.std.proofs.Common.{◌≡◌, ◌&&◌, ◌-◌, drop}
use Rattle.checking.specs.Tests.{neighbours}
use Rattle.checking.proofs.ahead.ascend.Given as goal

abbrev pub invariant-loop-i : goal.invariant-loop-i
invariant-loop-i l = neighbours l.numbers ≡ (l.fit && neighbours (drop (l.i - 1) l.numbers))
