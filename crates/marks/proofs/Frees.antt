-- Free slots by marks that are not updated.
-- Assumes nothing.
use mathlib.Core.Path.{◌≡◌, refl, sym, ◌∙◌}
use mathlib.Core.Bool.{Bool, true, false, cond}
use mathlib.Core.List.{List, ◌∷◌}
use Prim.Native.Nat.{ℕ, zero, suc, ◌+◌, ◌-◌, ◌≤◌, ◌<◌}
use native.Mathlib.Omega.{arith}
use borrow.Author.Tests.{eq-eqb, ne_eqb}
use lib.ListN.{length, get_or}
use Rattle.session.specs.Slots as session
use Rattle.slots.specs.Slots.{is_used, first_not, free_from, lowest_free}
use Rattle.slots.specs.SlotLaws.{first_least, first_same, walked_as, walked_free, walked_next, free_room}
use Rattle.slots.specs.Agree.{free_agrees}
use Rattle.marks.specs.Marks.{is_marked, next_free, Free}

-- ---- the turns of the search

module _ (test : ℕ → Bool) (n k : ℕ) (h : k < n) where
  next : n - k ≡ suc (n - (k + 1))
  next = omega arith

  first_more : test k ≡ true → first_not test k (n - k) ≡ first_not test (k + 1) (n - (k + 1))
  unfolding first_not
  first_more t = rw (next, t)

  first_stop : test k ≡ false → first_not test k (n - k) ≡ k
  unfolding first_not
  first_stop t = rw (next, t)

-- one that is found is found among more
first_wider : (test : ℕ → Bool) (k f g : ℕ) → f ≤ g → first_not test k f < k + f → first_not test k g ≡ first_not test k f
unfolding first_not
first_wider test k zero g h l = absurd (omega arith)
first_wider test k (suc f) zero h l = absurd (omega arith)
first_wider test k (suc f) (suc g) h l = go (test k) l (first_wider test (k + 1) f g (omega arith))
  where
    go : (t : Bool) → cond t (first_not test (k + 1) f) k < k + suc f
        → (first_not test (k + 1) f < k + 1 + f → first_not test (k + 1) g ≡ first_not test (k + 1) f)
        → cond t (first_not test (k + 1) g) k ≡ cond t (first_not test (k + 1) f) k
    go true l ih = ih (omega arith)
    go false l ih = refl

-- there is one not marked from k on among the first m, so k is a slot
pub slot_low : (m : ℕ) (marks : List ℕ) (k : ℕ) → next_free marks k < m → k < m
slot_low m marks k h = omega (arith, first_least (is_marked marks) k (256 - k))

pub free_more : (m : ℕ) (marks : List ℕ) (k total : ℕ) → m ≤ 256 → total ≡ next_free marks k → total < m → (get_or marks k 0 ≡ 0 → ⊥)
    → total ≡ next_free marks (k + 1)
free_more m marks k total w e h n =
    e ∙ first_more (is_marked marks) 256 k (omega (arith, slot_low m marks k (rw (← e) h))) (rw (ne_eqb _ _ n) refl)

pub free_stop : (m : ℕ) (marks : List ℕ) (k total : ℕ) → m ≤ 256 → total ≡ next_free marks k → total < m → get_or marks k 0 ≡ 0 → k ≡ total
free_stop m marks k total w e h n =
    sym (e ∙ first_stop (is_marked marks) 256 k (omega (arith, slot_low m marks k (rw (← e) h))) (rw (eq-eqb _ _ n) refl))

-- ---- what the marks tell

module _ {marks now : List ℕ} {k : ℕ} (f : Free marks now k) where
  by_used : next_free marks k ≡ free_from f.used k (256 - k)
  by_used = first_same (is_marked marks) (λ i. is_used i f.used) k (256 - k) (λ i g b. f.marked i)

  lowest : next_free marks k ≡ lowest_free now 256
  lowest = by_used ∙ sym (walked_free now f.used 256 k f.within f.walked)

  -- the first that is not marked is the lowest free one
  pub free_lowest : next_free marks k ≡ session.lowest_free now 256
  free_lowest = lowest ∙ free_agrees now 256

  -- of n slots too, where one of these is free
  pub free_lowest_of : (n : ℕ) → n ≤ 256 → length now < n → next_free marks k ≡ session.lowest_free now n
  free_lowest_of n h l = lowest ∙ first_wider (λ i. is_used i now) 0 n 256 h (omega (arith, free_room n now l)) ∙ free_agrees now n

  pub free_low_of : (n : ℕ) → n ≤ 256 → length now < n → next_free marks k < n
  free_low_of n h l = rw (free_lowest_of n h l, ← free_agrees now n) (free_room n now l)

  pub free_low : length now < 256 → next_free marks k < 256
  free_low l = free_low_of 256 (omega arith) l

  -- it is taken
  pub free_next : (s : ℕ) → s ≡ next_free marks k → s < 256 → (now' : List ℕ) → ((i : ℕ) → is_used i now' ≡ is_used i (s ∷ now))
      → Free marks now' (s + 1)
  free_next s e h now' same =
      record {
        used = f.used;
        marked = f.marked;
        walked = walked_as now' same (walked_next now f.used 256 k s (e ∙ by_used) f.walked);
        within = omega arith;
      }
