-- `hear`: what has been heard, with the segments that remain, is the whole.
use mathlib.Core.Path.{◌≡◌}
use Prim.Native.Nat.{◌-◌}
use lib.ListN.{length}
use Rattle.protocol.specs.Ranges.{mss}
use Rattle.arriving.specs.Arrivals.{Same, Whole}
use Rattle.keeping.specs.Keeping.{SameSlots}
use Rattle.receive.proofs.Walks.{Walking}
use Rattle.receive.specs.Halves.{half_in}
use Rattle.receive.specs.Pushes.{Marked}
use Rattle.receive.proofs.hear.Given as goal

abbrev pub invariant-loop-segment : goal.invariant-loop-segment
invariant-loop-segment l = record {
  same : Same l.initial.half l.half;
  slots : SameSlots l.initial.slots l.slots;
  whole : Whole l.half;
  length : l.slots.mss ≡ mss l.fn.settings;
  walking : Walking l.fn.settings l.s (half_in l.initial.half) l.initial.acks l.initial.slots.pool.now (half_in l.half) l.acks
      l.slots.pool.now l.at;
  marked : Marked (half_in l.half) l.slots.marks.now l.slots.from;
}

abbrev pub decreases-loop-segment : goal.decreases-loop-segment
decreases-loop-segment l = length l.s - l.at
