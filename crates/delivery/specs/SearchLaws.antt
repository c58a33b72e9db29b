-- The search for the lowest number that is not in a list (`lowest_from`): where it starts, how far it goes, what it passes.
-- Assumes nothing.
use Rattle.std.specs.Prelude.{◌≡◌, refl, Bool, true, false, cond, ◌||◌, List, [], ◌∷◌, ◌++◌, ℕ, zero, suc, ◌+◌, ◌≤◌, ◌<◌, eqb}
use Rattle.std.proofs.Common.{sym, ◌∙◌, true≢false, not-suc-le-zero, le_of_suc-le-suc, le_refl, zero-add, add-zero, suc-add, add-suc, arith, eqb-true, eq-eqb, ne_eqb}
use Rattle.std.proofs.lemmas.Bool.{eqb-false}
use Rattle.session.specs.Slots.{occurs, lowest_from}
use Rattle.delivery.specs.FreeSlots.{occurs_later, occurs_append}

-- every number of the first list is in the second
abbrev pub Within : List ℕ → List ℕ → Type 0
Within l m = (n : ℕ) → occurs n l ≡ true → occurs n m ≡ true

-- ---- members

pub occurs_other : (n k : ℕ) (l : List ℕ) → (n ≡ k → ⊥) → occurs n (k ∷ l) ≡ occurs n l
unfolding occurs
occurs_other n k l d = rw (ne_eqb n k d)

pub occurs_here : (n k : ℕ) (l : List ℕ) → n ≡ k → occurs n (k ∷ l) ≡ true
unfolding occurs
occurs_here n k l e = rw (eq-eqb n k e)

pub occurs_between : (n k : ℕ) (a b : List ℕ) → (n ≡ k → ⊥) → occurs n (a ++ k ∷ b) ≡ occurs n (a ++ b)
unfolding occurs
occurs_between n k [] b d = occurs_other n k b d
occurs_between n k (x ∷ a) b d = rw (occurs_between n k a b d)

-- the first, or one of the others
pub occurs_either : (C : Type 0) (n k : ℕ) (l : List ℕ) → occurs n (k ∷ l) ≡ true → (n ≡ k → C) → (occurs n l ≡ true → C) → C
unfolding occurs
occurs_either C n k l e first other = go (eqb n k) refl e
  where
    go : (b : Bool) → eqb n k ≡ b → (b || occurs n l) ≡ true → C
    go true q e = first (eqb-true n k q)
    go false q e = other e

pub within_cons : (l m : List ℕ) (k : ℕ) → Within l m → Within (k ∷ l) (k ∷ m)
within_cons l m k w n e = occurs_either (occurs n (k ∷ m) ≡ true) n k l e (occurs_here n k m) (λ o. occurs_later n k m (w n o))

-- in neither of two lists
pub occurs_apart : (n : ℕ) (a b : List ℕ) → occurs n (a ++ b) ≡ false → (occurs n a ≡ false) × (occurs n b ≡ false)
occurs_apart n a b e = go (occurs n a) (occurs n b) refl refl (sym (occurs_append n a b) ∙ e)
  where
    go : (x y : Bool) → occurs n a ≡ x → occurs n b ≡ y → (x || y) ≡ false → (occurs n a ≡ false) × (occurs n b ≡ false)
    go true y p q e = absurd (true≢false e)
    go false y p q e = (p, q ∙ e)

-- ---- the search from n on, n + k at most

pub lowest_from_lem : (l : List ℕ) (n k : ℕ) → n ≤ lowest_from l n k
unfolding lowest_from
lowest_from_lem l n zero = le_refl n
lowest_from_lem l n (suc k) = go (occurs n l) (lowest_from_lem l (suc n) k)
  where
    go : (b : Bool) → suc n ≤ lowest_from l (suc n) k → n ≤ cond b (lowest_from l (suc n) k) n
    go true i = omega arith
    go false i = le_refl n

pub lowest_most : (l : List ℕ) (n k : ℕ) → lowest_from l n k ≤ n + k
unfolding lowest_from
lowest_most l n zero = omega arith
lowest_most l n (suc k) = go (occurs n l) (lowest_most l (suc n) k)
  where
    go : (b : Bool) → lowest_from l (suc n) k ≤ suc n + k → cond b (lowest_from l (suc n) k) n ≤ n + suc k
    go true i = omega arith
    go false i = omega arith

-- all below it are in the list
pub lowest_passed : (l : List ℕ) (n k j : ℕ) → n ≤ j → j < lowest_from l n k → occurs j l ≡ true
unfolding lowest_from
lowest_passed l n zero j f h = absurd (omega arith)
lowest_passed l n (suc k) j f h = go (occurs n l) refl h (lowest_passed l (suc n) k j)
  where
    go : (b : Bool) → occurs n l ≡ b → j < cond b (lowest_from l (suc n) k) n → (suc n ≤ j → j < lowest_from l (suc n) k → occurs j l ≡ true)
        → occurs j l ≡ true
    go true e i rest = at (eqb j n) refl
      where
        at : (b : Bool) → eqb j n ≡ b → occurs j l ≡ true
        at true q = rw (eqb-true j n q) e
        at false q = rest (omega (arith, eqb-false j n q)) i
    go false e i rest = absurd (omega arith)

-- it is not in the list itself, unless the search ended
pub lowest_stops : (l : List ℕ) (n k : ℕ) → lowest_from l n k < n + k → occurs (lowest_from l n k) l ≡ false
unfolding lowest_from
lowest_stops l n zero h = absurd (omega arith)
lowest_stops l n (suc k) h = go (occurs n l) refl h (lowest_stops l (suc n) k)
  where
    go : (b : Bool) → occurs n l ≡ b → cond b (lowest_from l (suc n) k) n < n + suc k
        → (lowest_from l (suc n) k < suc n + k → occurs (lowest_from l (suc n) k) l ≡ false)
        → occurs (cond b (lowest_from l (suc n) k) n) l ≡ false
    go true e i rest = rest (omega arith)
    go false e i rest = e

-- the search may start at any number below which all are in the list
pub lowest_skips : (l : List ℕ) (n j k : ℕ) → ((i : ℕ) → n ≤ i → i < n + j → occurs i l ≡ true)
    → lowest_from l n (j + k) ≡ lowest_from l (n + j) k
unfolding lowest_from
lowest_skips l n zero k a = rw (zero-add k, add-zero n)
lowest_skips l n (suc j) k a =
    rw (suc-add j k, a n (le_refl n) (omega arith), add-suc n j, ← suc-add n j)
    (lowest_skips l (suc n) j k (λ i f h. a i (omega arith) (omega arith)))

-- more in the list and a longer search: no lower
pub lowest_mono : (l m : List ℕ) → Within l m → (n k k' : ℕ) → k ≤ k' → lowest_from l n k ≤ lowest_from m n k'
unfolding lowest_from
lowest_mono l m w n zero k' h = lowest_from_lem m n k'
lowest_mono l m w n (suc k) zero h = absurd (not-suc-le-zero h)
lowest_mono l m w n (suc k) (suc k') h = go (occurs n l) refl (lowest_mono l m w (suc n) k k' (le_of_suc-le-suc h))
  where
    go : (b : Bool) → occurs n l ≡ b → lowest_from l (suc n) k ≤ lowest_from m (suc n) k'
        → cond b (lowest_from l (suc n) k) n ≤ lowest_from m n (suc k')
    go true e i = rw (w n e) i
    go false e i = lowest_from_lem m n (suc k')
