-- Laws of `Decimal`: one digit more, how many there are, and what they are read as.
-- Assumes nothing.
use Rattle.std.specs.Prelude.{◌≡◌, refl, List, [], ◌∷◌, ◌++◌, ℕ, zero, suc, ◌+◌, ◌*◌, ◌-◌, ◌/◌, ◌%◌, ◌^◌, ◌≤◌, ◌<◌, length, get_or}
use Rattle.std.proofs.Math.Nat.{pow-succ'}
use Rattle.std.proofs.Math.Decide.{dec_lt}
use Rattle.std.proofs.Common.{arith, lt-ltb, le-ltb, length-append}
use Rattle.std.proofs.Math.ListN.{get_or-append}
use Rattle.notation.specs.Decimal.{digit, digits, decimal, value}

digits_low : (k n : ℕ) → n < 10 → digits (suc k) n ≡ digit n ∷ []
unfolding digits
digits_low k n h = rw (lt-ltb n 10 h)

digits_more : (k n : ℕ) → 10 ≤ n → digits (suc k) n ≡ digits k (n / 10) ++ (digit (n % 10) ∷ [])
unfolding digits
digits_more k n h = rw (le-ltb n 10 h)

-- enough digits are all digits
digits_enough : (k m n : ℕ) → n < k → n < m → digits k n ≡ digits m n
digits_enough zero m n h g = absurd (omega arith)
digits_enough (suc k) zero n h g = absurd (omega arith)
digits_enough (suc k) (suc m) n h g = go (dec_lt n 10) (digits_enough k m (n / 10))
  where
    go : Dec (n < 10) → (n / 10 < k → n / 10 < m → digits k (n / 10) ≡ digits m (n / 10)) → digits (suc k) n ≡ digits (suc m) n
    go (yes p) again = rw (digits_low k n p, digits_low m n p)
    go (no p) again =
        let more : 10 ≤ n = omega arith in
        rw (digits_more k n more, digits_more m n more, again (omega arith) (omega arith))

-- a number below 10 is its digit
pub decimal_low : (n : ℕ) → n < 10 → decimal n ≡ digit n ∷ []
unfolding decimal
decimal_low n h = digits_low n n h

-- and any other has the digits of a tenth of it, and then the last
pub decimal_more : (n : ℕ) → 10 ≤ n → decimal n ≡ decimal (n / 10) ++ (digit (n % 10) ∷ [])
unfolding decimal
decimal_more n h = rw (digits_more n n h, digits_enough n (suc (n / 10)) (n / 10) (omega arith) (omega arith))

pub length_low : (n : ℕ) → n < 10 → length (decimal n) ≡ 1
length_low n h = rw (decimal_low n h)

pub length_more : (n : ℕ) → 10 ≤ n → length (decimal n) ≡ length (decimal (n / 10)) + 1
length_more n h = rw (decimal_more n h, length-append)

-- a number below 10^k has at most k digits
pub length_decimal : (k n : ℕ) → 0 < k → n < 10 ^ k → length (decimal n) ≤ k
length_decimal zero n p h = absurd (omega arith)
length_decimal (suc k) n p h = go (dec_lt n 10) (dec_lt 0 k) (length_decimal k (n / 10))
  where
    go : Dec (n < 10) → Dec (0 < k) → (0 < k → n / 10 < 10 ^ k → length (decimal (n / 10)) ≤ k) → length (decimal n) ≤ suc k
    go (yes low) d again = omega (arith, length_low n low)
    go (no low) (yes some) again =
        let below : n / 10 < 10 ^ k = omega (arith, pow-succ' 10 k) in
        let more : 10 ≤ n = omega arith in
        omega (arith, length_more n more, again some below)
    go (no low) (no none) again =
        let last : k ≡ 0 = omega arith in
        absurd (omega (arith, rw last at h))

-- ---- what the digits are read as

value_append : (a : ℕ) (xs : List ℕ) (d : ℕ) → value a (xs ++ (d ∷ [])) ≡ 10 * value a xs + (d - 48)
unfolding value
value_append a [] d = refl
value_append a (x ∷ xs) d = value_append (10 * a + (x - 48)) xs d

value_digits : (k n : ℕ) → n < k → value 0 (digits k n) ≡ n
unfolding value
value_digits zero n h = absurd (omega arith)
value_digits (suc k) n h = go (dec_lt n 10) (value_digits k (n / 10))
  where
    go : Dec (n < 10) → (n / 10 < k → value 0 (digits k (n / 10)) ≡ n / 10) → value 0 (digits (suc k) n) ≡ n
    go (yes p) again = rw (digits_low k n p) (omega arith)
    go (no p) again = rw (digits_more k n (omega arith), value_append, again (omega arith)) (omega arith)

-- the number comes back
pub value_decimal : (n : ℕ) → value 0 (decimal n) ≡ n
unfolding decimal
value_decimal n = value_digits (suc n) n (omega arith)

-- the first byte of digits: not that of a 0, and there is one
record NoZero (ds : List ℕ) : Type 0 where
  first : 48 < get_or ds 0 0
  some : 0 < length ds

no_zero_digits : (k n : ℕ) → n < k → 0 < n → NoZero (digits k n)
no_zero_digits zero n h p = absurd (omega arith)
no_zero_digits (suc k) n h p = go (dec_lt n 10) (no_zero_digits k (n / 10))
  where
    go : Dec (n < 10) → (n / 10 < k → 0 < n / 10 → NoZero (digits k (n / 10))) → NoZero (digits (suc k) n)
    go (yes q) again = rw (digits_low k n q) (record { first = omega arith; some = omega arith })
    go (no q) again =
        let z = again (omega arith) (omega arith) in
        let e = get_or-append (digits k (n / 10)) (digit (n % 10) ∷ []) 0 0 z.some in
        rw (digits_more k n (omega arith)) (record { first = rw e z.first; some = rw length-append (omega arith) })

-- no leading zero
pub no_leading_zero : (n : ℕ) → 0 < n → 48 < get_or (decimal n) 0 0
unfolding decimal
no_leading_zero n h = (no_zero_digits (suc n) n (omega arith) h).first
