-- `insert_at` carries the words from index i on one place further.
use Rattle.std.proofs.Common.{◌≡◌, ◌∷◌, ◌-◌, drop, get_or}
use lib.Seq.{paste}
use Rattle.words.proofs.insert_at.Given as goal

abbrev pub invariant-loop-j : goal.invariant-loop-j
invariant-loop-j g l = (l.list ≡ paste l.initial.list l.i (l.word ∷ drop l.i l.initial.list) (l.j - l.i))
    × (l.carried ≡ get_or (l.word ∷ drop l.i l.initial.list) (l.j - l.i) 0)
