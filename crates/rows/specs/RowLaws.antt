-- Laws of rows: a loop that goes through one byte by byte.
-- Assumes nothing.
use Rattle.std.specs.Prelude.{◌≡◌, refl, Bool, true, false, List, ℕ, zero, suc, ◌+◌, ◌-◌, ◌≤◌, ◌<◌, eqb, ltb, get_or, set}
use Rattle.std.proofs.Common.{sym, ap, ◌∙◌, add_assoc, eqb-true, lt-ltb, le-ltb, ltb-true, ltb-false, length-set, get_or-set_same, get_or-set_other}
use native.Mathlib.Omega.{arith}
use Rattle.std.proofs.lemmas.Bool.{eqb-false}
use Rattle.std.proofs.Math.ListN.{length, get_or-eq_default}
use Rattle.galois.specs.Field.{plus, double}
use Rattle.galois.specs.FieldLaws.{plus_zero}
use Rattle.rows.specs.Rows.{Row, behind, stepped}

-- the bytes below i are f's, the others as they were
pub record Done (f : ℕ → ℕ) (i : ℕ) (was row : List ℕ) : Type 0 where
  pub size : length row ≡ length was
  pub done : (x : ℕ) → x < i → get_or row x 0 ≡ f x
  pub unchanged : (x : ℕ) → i ≤ x → get_or row x 0 ≡ get_or was x 0

module _ (f : ℕ → ℕ) where
  pub done_none : (was : List ℕ) → Done f 0 was was
  done_none was = record { size = refl; done = λ x l. absurd (omega arith); unchanged = λ x l. refl }

  pub done_next : (i : ℕ) (was row : List ℕ) (v : ℕ) → Done f i was row → i < length was → v ≡ f i → Done f (i + 1) was (set row i v)
  done_next i was row v d l e =
      record {
        size = length-set row i v ∙ d.size;
        done = λ x m. go x m (eqb x i) refl;
        unchanged = λ x m. get_or-set_other row i x v 0 (λ q. omega arith) ∙ d.unchanged x (omega arith);
      }
    where
      inside : i < length row
      inside = rw d.size l

      go : (x : ℕ) → x < i + 1 → (b : Bool) → eqb x i ≡ b → get_or (set row i v) x 0 ≡ f x
      go x m true q = let z : x ≡ i = eqb-true x i q in rw z (get_or-set_same row i v 0 inside ∙ e)
      go x m false q = let z : x ≡ i → ⊥ = eqb-false x i q in get_or-set_other row i x v 0 z ∙ d.done x (omega arith)

  pub done_all : (i : ℕ) (was row : List ℕ) → Done f i was row → length was ≤ i → Row f (length was) row
  done_all i was row d l = record { size = d.size; byte = λ x m. d.done x (omega arith) }

  -- from i on f says what was there
  pub done_part : (i : ℕ) (was row : List ℕ) → Done f i was row → ((x : ℕ) → i ≤ x → get_or was x 0 ≡ f x) → Row f (length was) row
  done_part i was row d h = record { size = d.size; byte = λ x m. go x (ltb x i) refl }
    where
      go : (x : ℕ) (b : Bool) → ltb x i ≡ b → get_or row x 0 ≡ f x
      go x true e = d.done x (ltb-true x i e)
      go x false e = let l : i ≤ x = ltb-false x i e in d.unchanged x l ∙ h x l

-- ---- a sum with what starts at `at`

-- byte x of the sum
abbrev pub sum : List ℕ → ℕ → List ℕ → ℕ → ℕ
sum was at l x = plus (get_or was x 0) (behind at l x)

module _ (was : List ℕ) (at : ℕ) (l : List ℕ) where
  sum_below : (x : ℕ) → x < at → get_or was x 0 ≡ sum was at l x
  unfolding behind
  sum_below x h = rw (lt-ltb x at h) (sym (plus_zero (get_or was x 0)))

  pub sum_at : (i : ℕ) → plus (get_or was (at + i) 0) (get_or l i 0) ≡ sum was at l (at + i)
  unfolding behind
  sum_at i =
      let e : at + i - at ≡ i = omega arith in
      rw (le-ltb (at + i) at (omega arith), e)

  sum_past : (x : ℕ) → at + length l ≤ x → get_or was x 0 ≡ sum was at l x
  unfolding behind
  sum_past x h =
      let m : length l ≤ x - at = omega arith in
      rw (le-ltb x at (omega arith), get_or-eq_default l 0 m) (sym (plus_zero (get_or was x 0)))

  pub sum_none : Done (sum was at l) (at + 0) was was
  sum_none = record { size = refl; done = λ x h. sum_below x (omega arith); unchanged = λ x h. refl }

  pub sum_next : (i : ℕ) (row : List ℕ) (v : ℕ) → Done (sum was at l) (at + i) was row → at + i < length was
      → v ≡ plus (get_or row (at + i) 0) (get_or l i 0) → Done (sum was at l) (at + (i + 1)) was (set row (at + i) v)
  sum_next i row v d h e =
      rw (← add_assoc) (done_next (sum was at l) (at + i) was row v d h
      (e ∙ ap (λ (b : ℕ). plus b (get_or l i 0)) (d.unchanged (at + i) (omega arith)) ∙ sum_at i))

  pub sum_all : (i : ℕ) (row : List ℕ) → Done (sum was at l) (at + i) was row → length l ≤ i → i ≤ length l
      → Row (sum was at l) (length was) row
  sum_all i row d h g = done_part (sum was at l) (at + i) was row d (λ x m. sum_past x (omega arith))

-- ---- steps

pub stepped_second : (w v : ℕ) → (w ≡ 0 → ⊥) → stepped w v ≡ double v
unfolding stepped
stepped_second zero v d = absurd (d refl)
stepped_second (suc w) v d = refl
