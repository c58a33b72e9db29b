-- `free_from`: each slot from `from` on before `slot` is marked.
use Rattle.std.proofs.Common.{◌≡◌, ◌-◌, ◌<◌}
use Rattle.marks.specs.Marks.{next_free}
use Rattle.marks.proofs.free_from.Given as goal

abbrev pub invariant-loop-slot : goal.invariant-loop-slot
invariant-loop-slot g l =
    (next_free l.marks l.from < g.row.S) × (next_free l.marks l.from ≡ next_free l.marks l.slot) × (l.slot < g.row.S)

abbrev pub decreases-loop-slot : goal.decreases-loop-slot
decreases-loop-slot g l = g.row.S - l.slot
