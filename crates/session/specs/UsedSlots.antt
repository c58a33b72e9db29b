-- Slots held once: there are as many in use as the list is long, so it is no longer than there are slots.
-- Assumes nothing.
use Rattle.std.specs.Prelude.{◌≡◌, refl, Bool, true, false, cond, ◌||◌, List, [], ◌∷◌, ℕ, zero, suc, ◌≤◌, ◌<◌, eqb, length}
use Rattle.std.proofs.Common.{ap, ◌∙◌, arith, eqb-true, ne_eqb}
use Rattle.std.proofs.lemmas.Bool.{eqb-false}
use Rattle.session.specs.Slots.{occurs, used_below}
use Rattle.session.specs.Decides.{All}
use Rattle.session.specs.Once.{Distinct}

used_above : (n x : ℕ) (l : List ℕ) → n ≤ x → used_below n (x ∷ l) ≡ used_below n l
unfolding used_below occurs
used_above zero x l h = refl
used_above (suc n) x l h = rw (ne_eqb n x (omega arith), used_above n x l (omega arith))

used_more : (n x : ℕ) (l : List ℕ) → x < n → occurs x l ≡ false → used_below n (x ∷ l) ≡ suc (used_below n l)
unfolding used_below occurs
used_more zero x l h e = absurd (omega arith)
used_more (suc n) x l h e = go (eqb n x) refl (used_more n x l)
  where
    go : (b : Bool) → eqb n x ≡ b → (x < n → occurs x l ≡ false → used_below n (x ∷ l) ≡ suc (used_below n l)) →
        cond (b || occurs n l) (suc (used_below n (x ∷ l))) (used_below n (x ∷ l)) ≡ suc
        (cond (occurs n l) (suc (used_below n l)) (used_below n l))
    go true q later =
        let none : occurs n l ≡ false = ap (λ (j : ℕ). occurs j l) (eqb-true n x q) ∙ e in
        rw (none, used_above n x l (omega (arith, eqb-true n x q)))
    go false q later = rw (later (omega (arith, eqb-false n x q)) e) (at (occurs n l))
      where
        at : (b : Bool) → cond b (suc (suc (used_below n l))) (suc (used_below n l)) ≡ suc (cond b (suc (used_below n l)) (used_below n l))
        at true = refl
        at false = refl

used_none : (n : ℕ) → used_below n [] ≡ 0
unfolding used_below occurs
used_none zero = refl
used_none (suc n) = used_none n

pub used_all : (n : ℕ) (l : List ℕ) → Distinct l → All (λ (x : ℕ). x < n) l → used_below n l ≡ length l
used_all n [] d a = used_none n
used_all n (x ∷ l) d a = used_more n x l a.0 d.0 ∙ ap suc (used_all n l d.1 a.1)

used_most : (n : ℕ) (l : List ℕ) → used_below n l ≤ n
unfolding used_below
used_most zero l = omega arith
used_most (suc n) l = go (occurs n l) (used_most n l)
  where
    go : (b : Bool) → used_below n l ≤ n → cond b (suc (used_below n l)) (used_below n l) ≤ suc n
    go true h = omega arith
    go false h = omega arith

pub distinct_few : (n : ℕ) (l : List ℕ) → Distinct l → All (λ (x : ℕ). x < n) l → length l ≤ n
distinct_few n l d a = omega (arith, used_all n l d a, used_most n l)
