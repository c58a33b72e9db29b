-- `remaining` writes the segments that stay to the front, with their transmissions and records.
use mathlib.Core.Path.{◌≡◌}
use lib.ListN.{length, take, drop}
use Rattle.lists.specs.Acknowledging.{filter}
use Rattle.lists.proofs.Loops.{Packed}
use Rattle.acknowledge.specs.Hearing.{stays_by}
use Rattle.acknowledge.proofs.Removal.{beside}
use Rattle.acknowledge.proofs.remaining.Given as goal

abbrev pub invariant-loop-i : goal.invariant-loop-i
invariant-loop-i l =
    (length l.words ≡ 32)
    × (length l.transmissions ≡ 32)
    × (length l.records ≡ 32)
    × Packed 32 l.n (beside l.initial.words l.initial.transmissions l.initial.records)
    (beside l.words l.transmissions l.records)
    (filter (stays_by l.next l.h) (drop l.i (take l.n (beside l.initial.words l.initial.transmissions l.initial.records))))
    (filter (stays_by l.next l.h) (take l.n (beside l.initial.words l.initial.transmissions l.initial.records))) l.i l.j
