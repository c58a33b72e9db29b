-- `skip_before` replaces each record in its place.
use mathlib.Core.Path.{◌≡◌}
use mathlib.Core.List.{map}
use lib.ListN.{length, take, drop}
use Rattle.lists.proofs.Loops.{Packed}
use Rattle.acknowledge.specs.Hearing.{skip_record}
use Rattle.acknowledge.proofs.skip_before.Given as goal

abbrev pub invariant-loop-i : goal.invariant-loop-i
invariant-loop-i l =
    (length l.records ≡ 32)
    × Packed 32 l.n l.initial.records l.records
    (map (skip_record l.number) (drop l.i (take l.n l.initial.records)))
    (map (skip_record l.number) (take l.n l.initial.records)) l.i l.i
