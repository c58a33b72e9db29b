-- `place`: the numbers before index i have smaller offsets.
use Rattle.std.proofs.Common.{ℕ, ◌<◌, get_or}
use Rattle.protocol.specs.Serial.{minus}
use Rattle.words.proofs.place.Given as goal

abbrev pub invariant-loop-i : goal.invariant-loop-i
invariant-loop-i l = (j : ℕ) → j < l.i → minus (get_or l.numbers j 0) l.base < l.offset
