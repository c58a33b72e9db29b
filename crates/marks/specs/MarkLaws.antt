-- Laws of `Marks`: each slot is unmarked when its turn comes exactly where no slot stands twice, and a slot is marked where it is held.
-- Assumes nothing.
use Rattle.std.specs.Prelude.{◌≡◌, refl, Bool, true, false, not, ◌&&◌, ◌||◌, List, [], ◌∷◌, ◌++◌, ℕ, zero, suc, ◌<◌, eqb, ltb, length, get_or, set, replicate}
use Rattle.std.proofs.Common.{sym, ◌∙◌, arith, eqb-true, ne_eqb, ltb-true, length-set, get_or-set_same, get_or-set_other}
use Rattle.std.proofs.Math.Bool.{or-false, and_assoc}
use Rattle.std.proofs.lemmas.Bool.{eqb-false}
use Rattle.std.specs.Int.Bits.{bit_or, or_zero_l, or_add_and}
use Rattle.std.proofs.lemmas.Nat.{and_le_r}
use Rattle.std.proofs.lemmas.List.{length-replicate}
use Rattle.session.specs.Decides.{and_parts}
use Rattle.slots.specs.Slots.{is_used, all_below, once}
use Rattle.slots.specs.SlotLaws.{walked_start}
use Rattle.marks.specs.Marks.{none_of, marked_all, unmarked_all, is_marked, Free}

-- ---- the flag

-- none of these slots is marked
abbrev free : List ℕ → List ℕ → Bool
free m [] = true
free m (s ∷ l) = eqb (get_or m s 0) 0 && free m l

free_set : (m : List ℕ) (s : ℕ) (l : List ℕ) → s < length m → free (set m s 1) l ≡ (not (is_used s l) && free m l)
unfolding is_used
free_set m s [] h = refl
free_set m s (t ∷ l) h = go (eqb t s) refl (free_set m s l h)
  where
    swap : (a b c : Bool) → (a && (b && c)) ≡ (b && (a && c))
    swap true true c = refl
    swap true false c = refl
    swap false true c = refl
    swap false false c = refl

    go : (z : Bool) → eqb t s ≡ z → free (set m s 1) l ≡ (not (is_used s l) && free m l)
        → (eqb (get_or (set m s 1) t 0) 0 && free (set m s 1) l) ≡ (not (z || is_used s l) && (eqb (get_or m t 0) 0 && free m l))
    go true e ih = let q : t ≡ s = eqb-true t s e in rw (q, get_or-set_same m s 1 0 h)
    go false e ih = rw (get_or-set_other m s t 1 0 (eqb-false t s e), ih) (swap (eqb (get_or m t 0) 0) (not (is_used s l)) (free m l))

none_at : (n i : ℕ) → ◌≡◌ {A = ℕ} (get_or (replicate n 0) i 0) 0
none_at zero i = refl
none_at (suc n) zero = refl
none_at (suc n) (suc i) = none_at n i

none_free : (n : ℕ) (l : List ℕ) → free (replicate n 0) l ≡ true
none_free n [] = refl
none_free n (s ∷ l) = rw (none_at n s) (none_free n l)

flag_once : (l m : List ℕ) → all_below (length m) l ≡ true → unmarked_all m l ≡ (free m l && once l)
unfolding unmarked_all all_below once
flag_once [] m h = refl
flag_once (s ∷ l) m h =
    let parts = and_parts (ltb s (length m)) (all_below (length m) l) h in
    let w : s < length m = ltb-true s (length m) parts.0 in
    rw (flag_once l (set m s 1) (rw (length-set m s 1) parts.1), free_set m s l w)
    (turn (eqb (get_or m s 0) 0) (is_used s l) (free m l) (once l))
  where
    turn : (e u f o : Bool) → (e && (not u && f && o)) ≡ (e && f && (not u && o))
    turn false u f o = refl
    turn true true true o = refl
    turn true true false o = refl
    turn true false f o = refl

pub once_flagged : (n : ℕ) (l : List ℕ) → all_below n l ≡ true → unmarked_all (none_of n) l ≡ once l
once_flagged n l h = flag_once l (replicate n 0) (rw (length-replicate) h) ∙ rw (none_free n l)

-- one list after the other: the flags are joined
pub flag_append : (m a b : List ℕ) → unmarked_all m (a ++ b) ≡ (unmarked_all m a && unmarked_all (marked_all m a) b)
unfolding unmarked_all marked_all
flag_append m [] b = refl
flag_append m (s ∷ a) b = rw (flag_append (set m s 1) a b)
    (sym (and_assoc (eqb (get_or m s 0) 0) (unmarked_all (set m s 1) a) (unmarked_all (marked_all (set m s 1) a) b)))

-- an or is 0 exactly where both are
pub or_none : (a b : ℕ) → eqb (bit_or a b) 0 ≡ (eqb a 0 && eqb b 0)
or_none a b = go (eqb a 0) refl
  where
    go : (z : Bool) → eqb a 0 ≡ z → eqb (bit_or a b) 0 ≡ (z && eqb b 0)
    go true e = let q : a ≡ 0 = eqb-true a 0 e in rw (q, or_zero_l b)
    go false e = ne_eqb (bit_or a b) 0 (λ q. eqb-false a 0 e (omega (arith, or_add_and a b, and_le_r a b)))

-- ---- the marks

-- one list after the other
pub marked_append : (m a b : List ℕ) → marked_all (marked_all m a) b ≡ marked_all m (a ++ b)
unfolding marked_all
marked_append m [] b = refl
marked_append m (s ∷ a) b = marked_append (set m s 1) a b

marked_set : (m : List ℕ) (s i : ℕ) → s < length m → is_marked (set m s 1) i ≡ (eqb s i || is_marked m i)
marked_set m s i h = go (eqb s i) refl
  where
    go : (z : Bool) → eqb s i ≡ z → is_marked (set m s 1) i ≡ (z || is_marked m i)
    go true e = let q : s ≡ i = eqb-true s i e in rw (← q, get_or-set_same m s 1 0 h)
    go false e = rw (get_or-set_other m s i 1 0 (λ q. eqb-false s i e (sym q)))

marked_used : (l m : List ℕ) (i : ℕ) → all_below (length m) l ≡ true → is_marked (marked_all m l) i ≡ (is_used i l || is_marked m i)
unfolding marked_all all_below is_used
marked_used [] m i h = refl
marked_used (s ∷ l) m i h =
    let parts = and_parts (ltb s (length m)) (all_below (length m) l) h in
    marked_used l (set m s 1) i (rw (length-set m s 1) parts.1) ∙ rw (marked_set m s i (ltb-true s (length m) parts.0))
    (turn (is_used i l) (eqb s i) (is_marked m i))
  where
    turn : (a b c : Bool) → (a || (b || c)) ≡ (b || a || c)
    turn true true c = refl
    turn true false c = refl
    turn false b c = rw (or-false b)

used_marked : (n : ℕ) (l : List ℕ) (i : ℕ) → all_below n l ≡ true → is_marked (marked_all (replicate n 0) l) i ≡ is_used i l
used_marked n l i h = marked_used l (replicate n 0) i (rw (length-replicate) h) ∙ rw (none_at n i) (or-false (is_used i l))

-- the marks of the slots held tell the free ones from 0 on
pub free_start : (n : ℕ) (l : List ℕ) → all_below n l ≡ true → Free (marked_all (none_of n) l) l 0
free_start n l h = record { used = l; marked = λ i. used_marked n l i h; walked = walked_start l; within = omega arith }
