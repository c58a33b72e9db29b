-- Laws of slots: what occurs in a list, lists of distinct numbers, and that the lowest free slot is free while there is one.
-- Assumes nothing.
use Rattle.std.specs.Prelude.{◌≡◌, refl, Bool, true, false, cond, ◌||◌, List, [], ◌∷◌, ◌++◌, ℕ, zero, suc, ◌+◌, ◌≤◌, ◌<◌, eqb, ltb, length}
use Rattle.std.proofs.Common.{sym, ap, ◌∙◌, true≢false, zero-le, le_refl, arith, ltb-true, ltb-false, eqb-true, eq-eqb, ne_eqb}
use Rattle.std.proofs.lemmas.Bool.{false≢true, eqb-false}
use Rattle.std.proofs.Math.Bool.{or-true}
use Rattle.session.specs.Slots.{occurs, lowest_from, lowest_free}
use Rattle.session.specs.Once.{Distinct}

-- ---- what occurs

pub none_occurs : (n : ℕ) → occurs n [] ≡ false
unfolding occurs
none_occurs n = refl

pub occurs_first : (n : ℕ) (l : List ℕ) → occurs n (n ∷ l) ≡ true
unfolding occurs
occurs_first n l = rw (eq-eqb n n refl)

pub occurs_later : (n k : ℕ) (l : List ℕ) → occurs n l ≡ true → occurs n (k ∷ l) ≡ true
unfolding occurs
occurs_later n k l e = rw e (or-true (eqb n k))

-- n is neither the first nor among the others
pub not_first : (n k : ℕ) (l : List ℕ) → occurs n (k ∷ l) ≡ false → n ≡ k → ⊥
not_first n k l e q = true≢false (sym (occurs_first k l) ∙ ap (λ (x : ℕ). occurs x (k ∷ l)) (sym q) ∙ e)

pub not_later : (n k : ℕ) (l : List ℕ) → occurs n (k ∷ l) ≡ false → occurs n l ≡ false
not_later n k l e = go (occurs n l) refl
  where
    go : (b : Bool) → occurs n l ≡ b → b ≡ false
    go true p = sym (occurs_later n k l p) ∙ e
    go false p = refl

pub not_either : (n k : ℕ) (l : List ℕ) → (n ≡ k → ⊥) → occurs n l ≡ false → occurs n (k ∷ l) ≡ false
unfolding occurs
not_either n k l d e = rw (ne_eqb n k d) e

pub occurs_cases : (n k : ℕ) (l : List ℕ) → occurs n (k ∷ l) ≡ true → (n ≡ k → ⊥) → occurs n l ≡ true
unfolding occurs
occurs_cases n k l e d = rw (ne_eqb n k d) at e

pub occurs_append : (n : ℕ) (a b : List ℕ) → occurs n (a ++ b) ≡ (occurs n a || occurs n b)
unfolding occurs
occurs_append n [] b = refl
occurs_append n (k ∷ a) b = go (eqb n k) (occurs_append n a b)
  where
    go : (t : Bool) → occurs n (a ++ b) ≡ (occurs n a || occurs n b) → (t || occurs n (a ++ b)) ≡ ((t || occurs n a) || occurs n b)
    go true i = refl
    go false i = i

pub not_append : (n : ℕ) (a b : List ℕ) → occurs n a ≡ false → occurs n b ≡ false → occurs n (a ++ b) ≡ false
not_append n a b p q = rw (occurs_append, p, q)

pub occurs_left : (n : ℕ) (a b : List ℕ) → occurs n a ≡ true → occurs n (a ++ b) ≡ true
occurs_left n a b e = rw (occurs_append n a b, e)

pub occurs_right : (n : ℕ) (a b : List ℕ) → occurs n b ≡ true → occurs n (a ++ b) ≡ true
occurs_right n a b e = rw (occurs_append n a b, e) (or-true (occurs n a))

-- ---- distinct numbers

pub distinct_right : (a b : List ℕ) → Distinct (a ++ b) → Distinct b
distinct_right [] b d = d
distinct_right (x ∷ a) b d = distinct_right a b d.1

-- the two parts have none in common
pub distinct_apart : (a b : List ℕ) → Distinct (a ++ b) → (n : ℕ) → occurs n a ≡ true → occurs n b ≡ false
distinct_apart [] b d n e = absurd (false≢true (sym (none_occurs n) ∙ e))
distinct_apart (x ∷ a) b d n e = go (eqb n x) refl (distinct_apart a b d.1 n)
  where
    away : (t : Bool) → occurs x b ≡ t → t ≡ false
    away true f = absurd (true≢false (sym (occurs_right x a b f) ∙ d.0))
    away false f = refl

    go : (t : Bool) → eqb n x ≡ t → (occurs n a ≡ true → occurs n b ≡ false) → occurs n b ≡ false
    go true f later = ap (λ (k : ℕ). occurs k b) (eqb-true n x f) ∙ away (occurs x b) refl
    go false f later = later (occurs_cases n x a e (eqb-false n x f))

-- two lists of distinct numbers that have none in common
pub distinct_append : (a b : List ℕ) → Distinct a → Distinct b → ((n : ℕ) → occurs n b ≡ true → occurs n a ≡ false) → Distinct (a ++ b)
distinct_append [] b p q d = q
distinct_append (x ∷ a) b p q d =
    (not_append x a b p.0 (apart (occurs x b) refl), distinct_append a b p.1 q (λ n e. not_later n x a (d n e)))
  where
    apart : (t : Bool) → occurs x b ≡ t → t ≡ false
    apart true e = absurd (true≢false (sym (occurs_first x a) ∙ d x e))
    apart false e = refl

-- ---- as many numbers as there are slots

-- the list without the first n
without : ℕ → List ℕ → List ℕ
without n [] = []
without n (x ∷ l) = cond (eqb n x) l (x ∷ without n l)

without_length : (n : ℕ) (l : List ℕ) → occurs n l ≡ true → length l ≡ suc (length (without n l))
unfolding without occurs
without_length n [] h = absurd (false≢true h)
without_length n (x ∷ l) h = go (eqb n x) h (without_length n l)
  where
    go : (t : Bool) →
        (t || occurs n l) ≡ true →
        (occurs n l ≡ true → length l ≡ suc (length (without n l))) →
        suc (length l) ≡ suc (length (cond t l (x ∷ without n l)))
    go true h later = refl
    go false h later = ap suc (later h)

without_other : (n i : ℕ) (l : List ℕ) → (i ≡ n → ⊥) → occurs i l ≡ true → occurs i (without n l) ≡ true
unfolding without
without_other n i [] d h = h
without_other n i (x ∷ l) d h = go (eqb n x) refl (without_other n i l d)
  where
    go : (t : Bool) → eqb n x ≡ t → (occurs i l ≡ true → occurs i (without n l) ≡ true) → occurs i (cond t l (x ∷ without n l)) ≡ true
    go true e later = occurs_cases i x l h (λ q. d (q ∙ sym (eqb-true n x e)))
    go false e later = at (eqb i x) refl
      where
        at : (t : Bool) → eqb i x ≡ t → occurs i (x ∷ without n l) ≡ true
        at true p = ap (λ (k : ℕ). occurs k (x ∷ without n l)) (eqb-true i x p) ∙ occurs_first x (without n l)
        at false p = occurs_later i x (without n l) (later (occurs_cases i x l h (eqb-false i x p)))

-- a list in which every number below n occurs has at least n
pub all_occur : (n : ℕ) (l : List ℕ) → ((i : ℕ) → i < n → occurs i l ≡ true) → n ≤ length l
all_occur zero l a = zero-le
all_occur (suc n) l a =
    let e = without_length n l (a n (le_refl (suc n))) in
    omega (arith, e, all_occur n (without n l) (λ i h. without_other n i l (omega arith) (a i (omega arith))))

-- ---- the lowest free slot

-- all below it are used
lowest_used : (used : List ℕ) (n k i : ℕ) → n ≤ i → i < lowest_from used n k → occurs i used ≡ true
unfolding lowest_from
lowest_used used n zero i h u = absurd (omega arith)
lowest_used used n (suc k) i h u = go (occurs n used) refl u (lowest_used used (suc n) k i)
  where
    go : (t : Bool) →
        occurs n used ≡ t →
        i < cond t (lowest_from used (suc n) k) n →
        (suc n ≤ i → i < lowest_from used (suc n) k → occurs i used ≡ true) →
        occurs i used ≡ true
    go false e u later = absurd (omega arith)
    go true e u later = at (eqb i n) refl
      where
        at : (t : Bool) → eqb i n ≡ t → occurs i used ≡ true
        at true p = ap (λ (x : ℕ). occurs x used) (eqb-true i n p) ∙ e
        at false p = later (omega (arith, eqb-false i n p)) u

-- below the end of the search, it is not used
lowest_unused : (used : List ℕ) (n k : ℕ) → lowest_from used n k < n + k → occurs (lowest_from used n k) used ≡ false
unfolding lowest_from
lowest_unused used n zero h = absurd (omega arith)
lowest_unused used n (suc k) h = go (occurs n used) refl h (lowest_unused used (suc n) k)
  where
    go : (t : Bool) →
        occurs n used ≡ t →
        cond t (lowest_from used (suc n) k) n < n + suc k →
        (lowest_from used (suc n) k < suc n + k → occurs (lowest_from used (suc n) k) used ≡ false)
        → occurs (cond t (lowest_from used (suc n) k) n) used ≡ false
    go true e u later = later (omega arith)
    go false e u later = e

-- while fewer than n slots are used, a free one is found
pub record Free (used : List ℕ) (n : ℕ) : Type 0 where
  pub low : lowest_free used n < n
  pub unused : occurs (lowest_free used n) used ≡ false

pub free : (used : List ℕ) (n : ℕ) → length used < n → Free used n
unfolding lowest_free
free used n h = go (ltb (lowest_from used 0 n) n) refl
  where
    go : (t : Bool) → ltb (lowest_from used 0 n) n ≡ t → Free used n
    go true e =
        let low : lowest_from used 0 n < n = ltb-true (lowest_from used 0 n) n e in
        record { low = low; unused = lowest_unused used 0 n (omega arith) }
    go false e =
        let full = all_occur n used (λ i u. lowest_used used 0 n i zero-le (omega (arith, ltb-false (lowest_from used 0 n) n e))) in
        absurd (omega arith)
