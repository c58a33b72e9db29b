-- `number_first`: i segments stand behind the outstanding ones.
use Prim.Native.Nat.{◌+◌}
use Rattle.numbering.proofs.NumberLaws.{Numbering}
use Rattle.numbering.proofs.number_first.Given as goal

abbrev pub invariant-loop-i : goal.invariant-loop-i
invariant-loop-i l =
    Numbering l.queued l.k l.n l.next l.initial.outstanding l.initial.transmissions l.initial.records
    l.outstanding l.transmissions l.records l.number l.i (l.n + l.i)
