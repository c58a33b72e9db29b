-- Laws that nothing here cites, kept since they stood.
-- Assumes nothing.
use mathlib.Core.Path.{◌≡◌, refl}
use mathlib.Core.Bool.{true}
use mathlib.Core.List.{List}
use Prim.Native.Nat.{ℕ, ◌+◌, ◌*◌, ◌≤◌, ◌<◌}
use native.Mathlib.Nat.{mul-le-mul_right}
use native.Mathlib.Omega.{arith}
use lib.ListN.{length, get_or}
use Rattle.marks.specs.Marks.{next_free}
use Rattle.marks.proofs.Turns.{Marking}
use Rattle.marks.proofs.Frees.{slot_low, free_more}

-- nothing is marked yet
pub marking_start : (size : ℕ) (before ws : List ℕ) → length before ≡ size → Marking size before ws before true 0
marking_start size before ws e = record { whole = e; marked = refl; unmarked = refl }

pub further : (m : ℕ) (marks : List ℕ) (k total : ℕ) → m ≤ 256 → total ≡ next_free marks k → total < m → (get_or marks k 0 ≡ 0 → ⊥)
    → k + 1 < m
further m marks k total w e h n = let q = free_more m marks k total w e h n in slot_low m marks (k + 1) (rw (← q) h)

-- the payload fits the slot
pub slot_inside : (slots mss slot len size : ℕ) → slot < slots → len ≤ mss → slots * mss ≤ size → slot * mss + len ≤ size
slot_inside slots mss slot len size h g b = omega (arith, mul-le-mul_right {m = slot + 1} {n = slots} mss (omega arith))
