-- `hear`: what has been heard, with the segments that remain, is the whole.
use mathlib.Core.Path.{◌≡◌}
use Prim.Native.Nat.{◌-◌}
use lib.ListN.{length}
use Rattle.acknowledge.specs.Flights.{view}
use Rattle.acknowledge.proofs.Walks.{Walking}
use Rattle.acknowledge.proofs.hear.Given as goal

abbrev pub invariant-loop-segment : goal.invariant-loop-segment
invariant-loop-segment l =
    (length l.records ≡ 32)
    × Walking l.settings l.current l.s (view l.initial.f l.initial.outstanding l.initial.transmissions l.initial.records)
    (view l.f l.outstanding l.transmissions l.records) l.furthest l.at

abbrev pub decreases-loop-segment : goal.decreases-loop-segment
decreases-loop-segment l =
    length l.s - l.at
