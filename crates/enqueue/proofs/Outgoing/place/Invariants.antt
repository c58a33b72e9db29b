-- `place`: what is still to be placed, placed from here, completes the whole.
use Prim.Native.Nat.{◌+◌, ◌-◌, ◌≤◌}
use lib.ListN.{length, drop}
use Rattle.session.specs.Cutting.{pieces}
use Rattle.session.specs.Sending.{place}
use Rattle.words.specs.Words.{held_in}
use Rattle.enqueue.specs.Enqueueing.{Marked, Placeable, Same}
use Rattle.enqueue.proofs.Places.{Placing}
use Rattle.enqueue.proofs.Outgoing.place.Given as goal

abbrev pub invariant-loop-i : goal.invariant-loop-i
invariant-loop-i l = record {
  same : Same l.initial.self l.self;
  within : l.at ≤ length l.message;
  placeable : Placeable l.mss l.initial.self.queued.now l.n l.marks l.initial.self.pool.now l.count;
  placing : (h : Marked l.marks (128 - l.count))
      → Placing l.stream l.mss l.marks (place l.stream l.mss h.now l.initial.self.pool.now (pieces l.mss l.count (drop l.fn.from l.message)))
      (held_in l.initial.self.queued.now l.n) l.self.queued.now l.self.pool.now (drop l.at l.message) (l.n + l.i) l.slot (l.count - l.i);
}
