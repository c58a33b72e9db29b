-- Laws of the count of new segments.
-- Assumes nothing.
use mathlib.Core.Path.{◌≡◌, refl}
use mathlib.Core.Bool.{Bool, true, false}
use Prim.Native.Nat.{ℕ, zero, suc, ◌+◌, ◌-◌, ◌/◌, ◌≤◌, ◌<◌}
use native.Mathlib.Nat.{div-eq_of_lt, add-div_right, div-le_self, max-eq_right}
use native.Mathlib.Omega.{arith}
use Rattle.session.specs.Cutting.{fragment_count, segment_count}

module _ (stream : Bool) (m n : ℕ) (h : 0 < m) where
  quotient_none : n ≡ 0 → (n + (m - 1)) / m ≡ 0
  quotient_none e = div-eq_of_lt (omega arith)

  quotient_some : (n ≡ 0 → ⊥) → (n + (m - 1)) / m ≡ (n - 1) / m + 1
  quotient_some g = let q : n + (m - 1) ≡ n - 1 + m = omega arith in rw q (add-div_right (n - 1) h)

  -- of no bytes, none in stream mode
  pub count_empty : stream ≡ true → n ≡ 0 → segment_count stream m n ≡ 0
  unfolding segment_count
  count_empty s e = rw (s, quotient_none e)

  -- and else one
  pub count_none : stream ≡ false → n ≡ 0 → segment_count stream m n ≡ 1
  unfolding segment_count fragment_count
  count_none s e = rw (s, quotient_none e)

  -- of others, one for the first byte, and one for each mss bytes before the last byte
  pub count_some : (n ≡ 0 → ⊥) → segment_count stream m n ≡ (n - 1) / m + 1
  unfolding segment_count fragment_count
  count_some g = go stream
    where
      go : (b : Bool) → segment_count b m n ≡ (n - 1) / m + 1
      go true = quotient_some g
      go false = rw (quotient_some g) (max-eq_right (omega arith))

-- at most one for each byte, and one
pub count_most : (stream : Bool) (m n : ℕ) → 0 < m → segment_count stream m n ≤ n + 1
count_most true m zero h = omega (arith, count_empty true m 0 h refl refl)
count_most false m zero h = omega (arith, count_none false m 0 h refl refl)
count_most stream m (suc n) h = omega (arith, count_some stream m (suc n) h (λ q. omega arith), div-le_self (suc n - 1) m)
