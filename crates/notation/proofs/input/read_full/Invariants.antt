-- `input::read_full`: the bytes read are within the room, and each turn reads one at least.
use Rattle.std.proofs.Common.{length, ◌-◌, ◌≤◌}
use Rattle.notation.proofs.input.read_full.Given as goal

abbrev pub invariant-loop-n : goal.invariant-loop-n
invariant-loop-n g l = l.n ≤ length l.room

abbrev pub decreases-loop-n : goal.decreases-loop-n
decreases-loop-n g l = length l.room - l.n
