-- None of a list stands twice: the statement, and that `once` decides it.
-- Assumes nothing.
use Rattle.std.specs.Prelude.{◌≡◌, refl, Bool, true, false, ◌||◌, List, [], ◌∷◌, ℕ, zero, suc, ◌<◌, eqb, length, get_or}
use Rattle.std.proofs.Common.{sym, ap, ◌∙◌, true≢false, arith, eqb-true, eq-eqb}
use Rattle.std.proofs.lemmas.Bool.{false≢true}
use Rattle.std.proofs.Math.Bool.{or-true}
use Rattle.session.specs.Slots.{occurs}
use Rattle.session.specs.Valid.{once}
use Rattle.session.specs.Decides.{Decides, not_decides, and_decides, via}

-- no two different places of the list have one entry
abbrev pub Once : List ℕ → Type 0
Once l = (i j : ℕ) → i < length l → j < length l → get_or l i 0 ≡ get_or l j 0 → i ≡ j

-- the same, as proofs go through a list: none occurs again behind its place
abbrev pub Distinct : List ℕ → Type 0
Distinct [] = Unit {0}
Distinct (x ∷ l) = (occurs x l ≡ false) × Distinct l

pub distinct_decides : (l : List ℕ) → Decides (once l) (Distinct l)
distinct_decides [] = record { holds = λ e. tt; passes = λ x. refl }
distinct_decides (x ∷ l) = and_decides (not_decides (occurs x l)) (distinct_decides l)

-- ---- where an entry stands

-- n stands at a place of the list
record At (n : ℕ) (l : List ℕ) : Type 0 where
  place : ℕ
  inside : place < length l
  there : get_or l place 0 ≡ n

occurs_at : (n : ℕ) (l : List ℕ) → occurs n l ≡ true → At n l
unfolding occurs
occurs_at n [] e = absurd (false≢true e)
occurs_at n (x ∷ l) e = go (eqb n x) refl e (occurs_at n l)
  where
    go : (b : Bool) → eqb n x ≡ b → (b || occurs n l) ≡ true → (occurs n l ≡ true → At n l) → At n (x ∷ l)
    go true p e later = record { place = 0; inside = omega arith; there = sym (eqb-true n x p) }
    go false p e later = let a = later e in record { place = suc a.place; inside = omega (arith, a.inside); there = a.there }

at_occurs : (l : List ℕ) (i : ℕ) → i < length l → occurs (get_or l i 0) l ≡ true
unfolding occurs
at_occurs [] i h = absurd (omega arith)
at_occurs (x ∷ l) zero h = rw (eq-eqb x x refl)
at_occurs (x ∷ l) (suc i) h = rw (at_occurs l i (omega arith)) (or-true (eqb (get_or l i 0) x))

-- ---- the two statements are one

pub distinct_once : (l : List ℕ) → Distinct l → Once l
distinct_once [] d i j hi hj e = absurd (omega arith)
distinct_once (x ∷ l) d zero zero hi hj e = refl
distinct_once (x ∷ l) d (suc i) (suc j) hi hj e = ap suc (distinct_once l d.1 i j (omega arith) (omega arith) e)
distinct_once (x ∷ l) d zero (suc j) hi hj e =
    absurd (true≢false (sym (at_occurs l j (omega arith)) ∙ ap (λ (n : ℕ). occurs n l) (sym e) ∙ d.0))
distinct_once (x ∷ l) d (suc i) zero hi hj e = absurd (true≢false (sym (at_occurs l i (omega arith)) ∙ ap (λ (n : ℕ). occurs n l) e ∙ d.0))

pub once_distinct : (l : List ℕ) → Once l → Distinct l
once_distinct [] o = tt
once_distinct (x ∷ l) o = (
  apart (occurs x l) refl,
  once_distinct l (λ i j hi hj e. rest i j (o (suc i) (suc j) (omega arith) (omega arith) e)),
)
  where
    rest : (i j : ℕ) → suc i ≡ suc j → i ≡ j
    rest i j e = omega arith

    apart : (b : Bool) → occurs x l ≡ b → b ≡ false
    apart true p =
        let a = occurs_at x l p in
        let e : 0 ≡ suc a.place = o 0 (suc a.place) (omega arith) (omega (arith, a.inside)) (sym a.there) in
        absurd (omega (arith, e))
    apart false p = refl

-- ---- the test decides the statement

pub once_decides : (l : List ℕ) → Decides (once l) (Once l)
once_decides l = via (distinct_decides l) (distinct_once l) (once_distinct l)
