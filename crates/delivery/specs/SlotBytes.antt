-- A pool of slots, slot i from i x size on: what is stored in one slot is there, and leaves the others as they were.
-- Assumes nothing.
use Rattle.std.specs.Prelude.{◌≡◌, refl, Bool, true, false, List, [], ◌∷◌, ◌++◌, ℕ, zero, suc, ◌+◌, ◌-◌, ◌*◌, ◌≤◌, ltb, length, take, drop}
use Rattle.std.proofs.Common.{sym, ap, ap₂, ◌∙◌, append_assoc, mul-le-mul_right, add-zero, zero-add, arith, ltb-true, ltb-false, length-take, length-drop, take-take, drop-drop, drop_at}
use Rattle.std.proofs.Math.Nat.{sub-zero, zero-sub, suc-sub-suc}
use Rattle.std.proofs.lemmas.List.{drop-append-le, take-append-le}
use Rattle.std.proofs.Math.Seq.{drop-append-add, take-append_seam, take-nil}
use Rattle.std.proofs.lemmas.List.Edits.{sets, sets-eq}

drop_take : {A : Type 0} (a b : ℕ) (l : List A) → drop a (take b l) ≡ take (b - a) (drop a l)
drop_take zero b l = rw (sub-zero b)
drop_take (suc a) zero l = rw (zero-sub (suc a))
drop_take (suc a) (suc b) [] = sym (take-nil (suc b - suc a))
drop_take (suc a) (suc b) (x ∷ l) = rw (suc-sub-suc b a) (drop_take a b l)

module _ {A : Type 0} (pool : List A) (at : ℕ) (bs : List A) (fits : at + length bs ≤ length pool) where
  front : length (take at pool) ≡ at
  front = simp length-take (omega arith)

  -- the pool then: what stands before, what is stored, what stands behind
  whole : sets pool at bs ≡ take at pool ++ (bs ++ drop (at + length bs) pool)
  whole = sets-eq bs pool at fits ∙ append_assoc (take at pool) bs (drop (at + length bs) pool)

  pub stored : take (length bs) (drop at (sets pool at bs)) ≡ bs
  stored = rw (whole, drop_at (take at pool) (bs ++ drop (at + length bs) pool) at front) (take-append_seam bs (drop (at + length bs) pool))

  pub stays_before : (a n : ℕ) → a + n ≤ at → take n (drop a (sets pool at bs)) ≡ take n (drop a pool)
  stays_before a n h =
      rw (
        whole,
        drop-append-le a (take at pool) (bs ++ drop (at + length bs) pool) (omega (arith, front)),
        drop_take a at pool,
        take-append-le n (take (at - a) (drop a pool)) (bs ++ drop (at + length bs) pool) (simp (length-take, length-drop) (omega arith)),
      )
      (take-take n (at - a) (drop a pool) (omega arith))

  pub stays_behind : (a n : ℕ) → at + length bs ≤ a → take n (drop a (sets pool at bs)) ≡ take n (drop a pool)
  stays_behind a n h =
      let i : ℕ = a - (at + length bs) in
      let e : a ≡ length (take at pool) + (length bs + i) = omega (arith, front) in
      let f : at + length bs + i ≡ a = omega arith in
      ap (take n)
      (ap (drop a) whole
      ∙ ap (λ (x : ℕ). drop x (take at pool ++ (bs ++ drop (at + length bs) pool))) e
      ∙ drop-append-add (take at pool) (bs ++ drop (at + length bs) pool) (length bs + i)
      ∙ drop-append-add bs (drop (at + length bs) pool) i
      ∙ drop-drop i (at + length bs) pool
      ∙ ap (λ (x : ℕ). drop x pool) f)

-- stored in one slot from `from` on, another slot keeps its elements
pub other_part :
    {A : Type 0} (size : ℕ) (pool bs : List A) (slot from other n : ℕ) →
    slot * size + from + length bs ≤ length pool →
    from + length bs ≤ size →
    n ≤ size →
    (other ≡ slot → ⊥) →
    take n (drop (other * size) (sets pool (slot * size + from) bs)) ≡ take n (drop (other * size) pool)
other_part size pool bs slot from other n fits short few apart = at (ltb slot other) refl
  where
    at : (t : Bool) → ltb slot other ≡ t →
        take n (drop (other * size) (sets pool (slot * size + from) bs)) ≡ take n (drop (other * size) pool)
    at true e = stays_behind pool (slot * size + from) bs fits (other * size) n
        (omega (arith, mul-le-mul_right size (ltb-true slot other e)))
    at false e =
        let less : suc other ≤ slot = omega (arith, ltb-false slot other e) in
        stays_before pool (slot * size + from) bs fits (other * size) n (omega (arith, mul-le-mul_right size less))

-- stored from the slot's start on
pub other_slot :
    {A : Type 0} (size : ℕ) (pool bs : List A) (slot other n : ℕ) →
    slot * size + length bs ≤ length pool →
    length bs ≤ size →
    n ≤ size →
    (other ≡ slot → ⊥) →
    take n (drop (other * size) (sets pool (slot * size) bs)) ≡ take n (drop (other * size) pool)
other_slot size pool bs slot other n fits short few apart =
    rw (add-zero (slot * size)) at (other_part size pool bs slot 0 other n (rw (add-zero (slot * size)) fits) (omega arith) few apart)

-- what is stored right behind a payload makes it longer
pub behind : {A : Type 0} (pool bs : List A) (at len : ℕ) → at + len + length bs ≤ length pool
    → take (len + length bs) (drop at (sets pool (at + len) bs)) ≡ take len (drop at pool) ++ bs
behind pool bs at len fits =
    take_more len (length bs) (drop at (sets pool (at + len) bs))
    ∙ ap₂ (λ a b. a ++ b) (stays_before pool (at + len) bs fits at len (omega arith))
    (ap (take (length bs)) (drop-drop len at (sets pool (at + len) bs)) ∙ stored pool (at + len) bs fits)
  where
    take_more : {A : Type 0} (a b : ℕ) (l : List A) → take (a + b) l ≡ take a l ++ take b (drop a l)
    take_more zero b l = rw (zero-add b)
    take_more (suc a) b [] = let e : suc a + b ≡ suc (a + b) = omega arith in rw e (sym (take-nil b))
    take_more {A} (suc a) b (x ∷ l) = let e : suc a + b ≡ suc (a + b) = omega arith in
        rw e (ap {B = List A} (λ (t : List A). x ∷ t) (take_more a b l))
