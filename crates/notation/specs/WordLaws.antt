-- Laws of `Words`: when a word is a number and when not, and that reading and printing numbers undo each other.
-- Assumes nothing.
use Rattle.std.specs.Prelude.{◌≡◌, refl, Bool, true, false, Some, None, not, ◌&&◌, List, [], ◌∷◌, ◌++◌, ℕ, zero, suc, ◌+◌, ◌*◌, ◌-◌, ◌/◌, ◌%◌, ◌≤◌, ◌<◌, leb, ltb, length, get_or, drop}
use Rattle.std.proofs.Common.{sym, ◌∙◌, ap, append_assoc, append-nil, add-one, arith, lt-ltb, le-ltb, le-leb, leb-true, ne_eqb, drop_of_length-le, drop-cons}
use Rattle.std.proofs.Math.Bool.{and-false, and_assoc}
use Rattle.std.proofs.Math.Decide.{dec_lt}
use Rattle.std.proofs.lemmas.Bool.{lt-leb, eqb-false, not-true}
use Rattle.notation.specs.Decimal.{digit, decimal, value}
use Rattle.notation.specs.DecimalLaws.{decimal_low, decimal_more, length_low, length_more, value_decimal, no_leading_zero}
use Rattle.notation.specs.Words.{is_digit, every, leading_zero, is_decimal, number_of}

-- ---- digits

pub and_both : (a b : Bool) → a && b ≡ true → (a ≡ true) × (b ≡ true)
and_both true true h = (refl, refl)
and_both true false h = (refl, h)
and_both false b h = (h, absurd (false_true h))
  where
    false_true : ◌≡◌ {A = Bool} false true → ⊥
    false_true e = let z : ◌≡◌ {A = ℕ} 0 1 = cc in omega arith

pub digit_range : (c : ℕ) → is_digit c ≡ true → (48 ≤ c) × (c ≤ 57)
digit_range c h = let b = and_both _ _ h in (leb-true _ _ b.0, leb-true _ _ b.1)

-- ---- when a word is a number

pub is_empty : (w : List ℕ) → length w ≡ 0 → number_of w ≡ None
unfolding number_of is_decimal
is_empty w h = rw (le-ltb 0 (length w) (omega arith))

pub has_zero : (w : List ℕ) → leading_zero w ≡ true → number_of w ≡ None
unfolding number_of is_decimal
has_zero w h = rw (h, and-false)

pub no_digits : (w : List ℕ) → every is_digit w ≡ false → number_of w ≡ None
unfolding number_of is_decimal
no_digits w h = rw (h, and-false)

pub too_large : (w : List ℕ) → 4294967295 < value 0 w → number_of w ≡ None
unfolding number_of
too_large w h = rw (lt-leb _ _ h, and-false)

pub is_number : (w : List ℕ) → 0 < length w → leading_zero w ≡ false → every is_digit w ≡ true → value 0 w ≤ 4294967295
    → number_of w ≡ Some (value 0 w)
unfolding number_of is_decimal
is_number w some no_zero digits small = rw (lt-ltb _ _ some, no_zero, digits, le-leb _ _ small)

-- ---- byte by byte

pub every_more : (test : ℕ → Bool) (s : List ℕ) (i : ℕ) → i < length s → test (get_or s i 0) ≡ true
    → every test (drop i s) ≡ every test (drop (i + 1) s)
every_more test s i h e = rw (drop-cons s i 0, add-one, e)

pub every_stop : (test : ℕ → Bool) (s : List ℕ) (i : ℕ) → i < length s → test (get_or s i 0) ≡ false → every test (drop i s) ≡ false
every_stop test s i h e = rw (drop-cons s i 0, e)

pub every_end : (test : ℕ → Bool) (s : List ℕ) (i : ℕ) → length s ≤ i → every test (drop i s) ≡ true
every_end test s i h = rw (drop_of_length-le s h)

pub value_more : (s : List ℕ) (i n : ℕ) → i < length s → value n (drop i s) ≡ value (10 * n + (get_or s i 0 - 48)) (drop (i + 1) s)
unfolding value
value_more s i n h = rw (drop-cons s i 0, add-one)

pub value_end : (s : List ℕ) (i n : ℕ) → length s ≤ i → value n (drop i s) ≡ n
unfolding value
value_end s i n h = rw (drop_of_length-le s h)

-- further digits make a number no smaller
pub value_grows : (a : ℕ) (w : List ℕ) → a ≤ value a w
unfolding value
value_grows a [] = omega arith
value_grows a (c ∷ w) = omega (arith, value_grows (10 * a + (c - 48)) w)

-- one digit more is too many
pub too_many : (s : List ℕ) (i n : ℕ) → i < length s → value 0 s ≡ value n (drop i s) → 4294967295 < 10 * n + (get_or s i 0 - 48)
    → number_of s ≡ None
too_many s i n h e more =
    too_large s (omega (arith, e, value_more s i n h, value_grows (10 * n + (get_or s i 0 - 48)) (drop (i + 1) s)))

-- ---- printed and read again

digit_is : (d : ℕ) → d < 10 → is_digit (digit d) ≡ true
digit_is d h = rw (le-leb 48 (48 + d) (omega arith), le-leb (48 + d) 57 (omega arith))

every_append : (test : ℕ → Bool) (xs ys : List ℕ) → every test (xs ++ ys) ≡ every test xs && every test ys
every_append test [] ys = refl
every_append test (x ∷ xs) ys = rw (every_append test xs ys) (sym (and_assoc (test x) (every test xs) (every test ys)))

every_one : (d : ℕ) → d < 10 → every is_digit (digit d ∷ []) ≡ true
every_one d p = rw (digit_is d p)

every_decimal : (k n : ℕ) → n < k → every is_digit (decimal n) ≡ true
every_decimal zero n h = absurd (omega arith)
every_decimal (suc k) n h = go (dec_lt n 10) (every_decimal k (n / 10))
  where
    go : Dec (n < 10) → (n / 10 < k → every is_digit (decimal (n / 10)) ≡ true) → every is_digit (decimal n) ≡ true
    go (yes p) again = rw (decimal_low n p) (every_one n p)
    go (no p) again =
        let more : 10 ≤ n = omega arith in
        rw (decimal_more n more, every_append, again (omega arith)) (every_one (n % 10) (omega arith))

-- a number has a digit
decimal_some : (n : ℕ) → 0 < length (decimal n)
decimal_some n = go (dec_lt n 10)
  where
    go : Dec (n < 10) → 0 < length (decimal n)
    go (yes p) = omega (arith, length_low n p)
    go (no p) = omega (arith, length_more n (omega arith))

decimal_plain : (n : ℕ) → leading_zero (decimal n) ≡ false
decimal_plain n = go (dec_lt n 10)
  where
    go : Dec (n < 10) → leading_zero (decimal n) ≡ false
    go (yes p) = rw (lt-ltb (length (decimal n)) 2 (omega (arith, length_low n p)))
    go (no p) =
        rw (ne_eqb (get_or (decimal n) 0 0) 48 (λ e. omega (arith, no_leading_zero n (omega arith))), and-false)

-- a number that is printed is read again
pub read_printed : (n : ℕ) → n ≤ 4294967295 → number_of (decimal n) ≡ Some n
read_printed n h =
    rw (value_decimal n) at
    (is_number (decimal n) (decimal_some n) (decimal_plain n) (every_decimal (suc n) n (omega arith)) (rw (value_decimal n) h))

-- digits behind a number that is not 0
decimal_behind : (a : ℕ) (ds : List ℕ) → 0 < a → every is_digit ds ≡ true → decimal (value a ds) ≡ decimal a ++ ds
unfolding value
decimal_behind a [] p h = sym (append-nil (decimal a))
decimal_behind a (d ∷ ds) p h =
    let digits = and_both _ _ h in
    let range = digit_range d digits.0 in
    let high : (10 * a + (d - 48)) / 10 ≡ a = omega arith in
    let low : digit ((10 * a + (d - 48)) % 10) ≡ d = omega arith in
    let one : decimal (10 * a + (d - 48)) ≡ decimal a ++ (d ∷ []) = rw (decimal_more (10 * a + (d - 48)) (omega arith), high, low) in
    rw (decimal_behind (10 * a + (d - 48)) ds (omega arith) digits.1, one, append_assoc)

-- a digit by itself
decimal_one : (c : ℕ) → is_digit c ≡ true → decimal (10 * 0 + (c - 48)) ≡ c ∷ []
decimal_one c h =
    let range = digit_range c h in
    decimal_low (10 * 0 + (c - 48)) (omega arith) ∙ ap (λ (x : ℕ). x ∷ []) (omega arith)

decimal_value : (w : List ℕ) → is_decimal w ≡ true → decimal (value 0 w) ≡ w
unfolding is_decimal value
decimal_value [] h = absurd (let z : ◌≡◌ {A = ℕ} 0 1 = cc in omega arith)
decimal_value (c ∷ []) h =
    let parts = and_both (ltb 0 (length (c ∷ [])) && not (leading_zero (c ∷ []))) (every is_digit (c ∷ [])) h in
    decimal_one c (and_both (is_digit c) true parts.1).0
decimal_value (c ∷ d ∷ ds) h =
    let parts = and_both (ltb 0 (length (c ∷ d ∷ ds)) && not (leading_zero (c ∷ d ∷ ds))) (every is_digit (c ∷ d ∷ ds)) h in
    let digits = and_both (is_digit c) (every is_digit (d ∷ ds)) parts.1 in
    let range = digit_range c digits.0 in
    let plain = not-true (leading_zero (c ∷ d ∷ ds))
    (and_both (ltb 0 (length (c ∷ d ∷ ds))) (not (leading_zero (c ∷ d ∷ ds))) parts.0).1 in
    let first : c ≡ 48 → ⊥ = eqb-false c 48 (rw (le-ltb (length (c ∷ d ∷ ds)) 2 (omega arith)) at plain) in
    rw (decimal_behind (10 * 0 + (c - 48)) (d ∷ ds) (omega arith) digits.1, decimal_one c digits.0)

-- a word that is read is the one that printing gives
pub printed_read : (w : List ℕ) (n : ℕ) → number_of w ≡ Some n → decimal n ≡ w
unfolding number_of
printed_read w n h = go (is_decimal w && leb (value 0 w) 4294967295) refl
  where
    go : (b : Bool) → is_decimal w && leb (value 0 w) 4294967295 ≡ b → decimal n ≡ w
    go true e =
        let same : value 0 w ≡ n = let f : Some (value 0 w) ≡ Some n = rw e at h in cc in
        rw (← same) (decimal_value w (and_both (is_decimal w) (leb (value 0 w) 4294967295) e).0)
    go false e = absurd (let f : None ≡ Some n = rw e at h in let z : ◌≡◌ {A = ℕ} 0 1 = cc in omega arith)
