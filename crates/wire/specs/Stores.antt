-- A run of stores after a run of stores, and a part that is overwritten.
-- Assumes nothing.
use Rattle.std.specs.Prelude.{◌≡◌, List, [], ◌∷◌, ◌++◌, ℕ, suc, ◌+◌, ◌≤◌, length, set}
use borrow.Rule.Slice.PartMut.{put_mid}
use Rattle.std.proofs.Common.{add-zero, add-suc, suc-add, append_assoc, arith, drop-drop}
use Rattle.std.proofs.lemmas.List.Edits.{sets, sets-eq}

-- what is stored behind what is stored
pub sets_append : {A : Type 0} (l : List A) (i : ℕ) (xs ys : List A) → sets l i (xs ++ ys) ≡ sets (sets l i xs) (i + length xs) ys
sets_append l i [] ys = rw add-zero
sets_append l i (x ∷ xs) ys = rw (add-suc, ← suc-add) (sets_append (set l i x) (suc i) xs ys)

-- a part that is overwritten holds what is stored
pub part_stored : {A : Type 0} (l : List A) (i k : ℕ) (ys zs : List A) → ys ≡ zs → k ≡ length zs → i + k ≤ length l →
    put_mid i k l ys ≡ sets l i zs
part_stored l i k ys zs e n h = rw (e, n, sets-eq zs l i (omega (arith, n)), drop-drop, append_assoc)
