-- The slots' own notions are those of the link's definitions: what occurs, the lowest free slot, and slots held once.
-- Assumes nothing.
use Rattle.std.specs.Prelude.{◌≡◌, refl, ◌&&◌, List, [], ◌∷◌, ℕ, zero, suc, ◌+◌, ltb}
use Rattle.std.proofs.Common.{ap₂, add-one}
use Rattle.lists.specs.declared.Held.{Held}
use Rattle.session.specs.Slots as session
use Rattle.session.specs.Valid as valid
use Rattle.slots.specs.SlotLaws.{eqb_sym}
use Rattle.slots.specs.Slots.{slots_of, is_used, first_not, free_from, lowest_free, all_below, once, distinct}

pub used_occurs : (k : ℕ) (l : List ℕ) → is_used k l ≡ session.occurs k l
unfolding is_used session.occurs
used_occurs k [] = refl
used_occurs k (s ∷ l) = rw (eqb_sym s k, used_occurs k l)

pub first_lowest : (used : List ℕ) (k f : ℕ) → free_from used k f ≡ session.lowest_from used k f
unfolding first_not session.lowest_from
first_lowest used k zero = refl
first_lowest used k (suc f) = rw (used_occurs k used, first_lowest used (k + 1) f, add-one)

pub free_agrees : (used : List ℕ) (n : ℕ) → lowest_free used n ≡ session.lowest_free used n
unfolding session.lowest_free
free_agrees used n = first_lowest used 0 n

below_agrees : (n : ℕ) (l : List Held) → all_below n (slots_of l) ≡ valid.all (λ (h : Held). ltb h.slot n) l
unfolding all_below
below_agrees n [] = refl
below_agrees n (h ∷ l) = rw (below_agrees n l)

once_agrees : (l : List ℕ) → once l ≡ valid.once l
unfolding once
once_agrees [] = refl
once_agrees (s ∷ l) = rw (used_occurs s l, once_agrees l)

pub distinct_agrees : (n : ℕ) (l : List Held) → distinct n (slots_of l) ≡ valid.slots_fit n l
distinct_agrees n l = ap₂ ◌&&◌ (below_agrees n l) (once_agrees (slots_of l))
