-- Entries that ascend, by their offsets from a base: the statement, and that `ascending` decides it.
-- Assumes nothing.
use Rattle.std.proofs.Math.Path.{refl}
use mathlib.Core.List.{List, [], ◌∷◌, map}
use Rattle.std.specs.Prelude.{ℕ, zero, suc, ◌+◌, ◌≤◌, ◌<◌, length, get_or}
use Rattle.std.proofs.Common.{arith}
use Rattle.lists.specs.Orders.{ascending}
use Rattle.session.specs.Decides.{Decides, All, leb_decides, ltb_decides, and_decides, via}

-- from each place to a later one the numbers rise
abbrev pub Rising : List ℕ → Type 0
Rising l = (i j : ℕ) → i < j → j < length l → get_or l i 0 < get_or l j 0

-- the offsets rise, and each is below the limit
pub record Ascending {A : Type 0} (offset : A → ℕ) (limit : ℕ) (l : List A) : Type 0 where
  pub rising : Rising (map offset l)
  pub below : All (λ (x : A). offset x < limit) l

module _ {A : Type 0} (offset : A → ℕ) where
  -- the same, as proofs go through a list: each offset is above the one before it, the first is at least `least`
  abbrev pub Ascends : ℕ → ℕ → List A → Type 0
  Ascends least limit [] = Unit {0}
  Ascends least limit (x ∷ l) = (least ≤ offset x) × (offset x < limit) × Ascends (offset x + 1) limit l

  pub ascends_decides : (least limit : ℕ) (l : List A) → Decides (ascending offset least limit l) (Ascends least limit l)
  unfolding ascending
  ascends_decides least limit [] = record { holds = λ e. tt; passes = λ x. refl }
  ascends_decides least limit (x ∷ l) =
      via (and_decides (and_decides (leb_decides least (offset x)) (ltb_decides (offset x) limit)) (ascends_decides (offset x + 1) limit l))
      (λ h. (h.0.0, h.0.1, h.1))
      (λ h. ((h.0, h.1), h.2))

  -- ---- the two statements are one

  least_at : (least limit : ℕ) (l : List A) → Ascends least limit l → (i : ℕ) → i < length (map offset l) → least ≤ get_or (map offset l) i 0
  least_at least limit [] a i h = absurd (omega arith)
  least_at least limit (x ∷ l) a zero h = a.0
  least_at least limit (x ∷ l) a (suc i) h = omega (arith, a.0, least_at (offset x + 1) limit l a.2 i (omega arith))

  ascends_rising : (least limit : ℕ) (l : List A) → Ascends least limit l → Rising (map offset l)
  ascends_rising least limit [] a i j h k = absurd (omega arith)
  ascends_rising least limit (x ∷ l) a i zero h k = absurd (omega arith)
  ascends_rising least limit (x ∷ l) a zero (suc j) h k = omega (arith, least_at (offset x + 1) limit l a.2 j (omega arith))
  ascends_rising least limit (x ∷ l) a (suc i) (suc j) h k = ascends_rising (offset x + 1) limit l a.2 i j (omega arith) (omega arith)

  ascends_below : (least limit : ℕ) (l : List A) → Ascends least limit l → All (λ (x : A). offset x < limit) l
  ascends_below least limit [] a = tt
  ascends_below least limit (x ∷ l) a = (a.1, ascends_below (offset x + 1) limit l a.2)

  rising_ascends : (least limit : ℕ) (l : List A) →
      Ascending offset limit l →
      ((i : ℕ) → i < length (map offset l) → least ≤ get_or (map offset l) i 0) →
      Ascends least limit l
  rising_ascends least limit [] a from = tt
  rising_ascends least limit (x ∷ l) a from =
      let rest : Ascending offset limit l =
      record { rising = λ i j h k. a.rising (suc i) (suc j) (omega arith) (omega arith); below = a.below.1 } in
      let above : (i : ℕ) → i < length (map offset l) → offset x + 1 ≤ get_or (map offset l) i 0 =
      λ i h. omega (arith, a.rising 0 (suc i) (omega arith) (omega arith)) in
      (from 0 (omega arith), a.below.0, rising_ascends (offset x + 1) limit l rest above)

  pub ascends_ascending : (limit : ℕ) (l : List A) → Ascends 0 limit l → Ascending offset limit l
  ascends_ascending limit l a = record { rising = ascends_rising 0 limit l a; below = ascends_below 0 limit l a }

  pub ascending_ascends : (limit : ℕ) (l : List A) → Ascending offset limit l → Ascends 0 limit l
  ascending_ascends limit l a = rising_ascends 0 limit l a (λ i h. omega arith)

  -- ---- the test decides the statement

  pub ascending_decides : (limit : ℕ) (l : List A) → Decides (ascending offset 0 limit l) (Ascending offset limit l)
  ascending_decides limit l = via (ascends_decides 0 limit l) (ascends_ascending limit l) (ascending_ascends limit l)
