-- Laws of `Hex`: when a word stands for bytes and when not, and that reading and printing bytes undo each other.
-- Assumes nothing.
use Rattle.std.specs.Prelude.{◌≡◌, refl, Bool, true, false, Some, None, ◌&&◌, List, [], ◌∷◌, ◌++◌, ℕ, ◌+◌, ◌*◌, ◌-◌, ◌/◌, ◌%◌, ◌≤◌, ◌<◌, leb, ltb, eqb, length, get_or, set, take, drop}
use Rattle.std.proofs.Common.{sym, ◌∙◌, ap, add-one, arith, lt-ltb, le-ltb, le-leb, ltb-true, leb-true, eqb-true, eq-eqb, ne_eqb, length-drop, drop-cons, take-suc}
use Rattle.std.proofs.Math.Bool.{and-false}
use Rattle.std.proofs.Math.Decide.{dec_lt}
use Rattle.std.proofs.lemmas.Bool.{lt-leb}
use Rattle.std.proofs.lemmas.List.Edits.{sets}
use Rattle.notation.specs.Words.{is_digit, every}
use Rattle.notation.specs.WordLaws.{and_both, digit_range}
use Rattle.notation.specs.Hex.{hex_digit, hex_of, bytes_word, is_hex_digit, hex_value, is_hex, unhex, is_dash, bytes_of, is_bytes, ReadBytes}

-- ---- digits

pub hex_range : (c : ℕ) → is_digit c ≡ false → is_hex_digit c ≡ true → (97 ≤ c) × (c ≤ 102)
hex_range c other h = let b = and_both _ _ (rw other at h) in (leb-true _ _ b.0, leb-true _ _ b.1)

pub value_digit : (c : ℕ) → is_digit c ≡ true → (c - 48 ≡ hex_value c) × (c - 48 < 16)
unfolding hex_value
value_digit c h = (rw h, omega (arith, digit_range c h))

pub value_letter : (c : ℕ) → is_digit c ≡ false → is_hex_digit c ≡ true → (c - 87 ≡ hex_value c) × (c - 87 < 16)
unfolding hex_value
value_letter c other h = (rw (other, rw other at h), omega (arith, hex_range c other h))

-- ---- printed

hex_of_append : (xs ys : List ℕ) → hex_of (xs ++ ys) ≡ hex_of xs ++ hex_of ys
unfolding hex_of
hex_of_append [] ys = refl
hex_of_append (x ∷ xs) ys = rw (hex_of_append xs ys)

pub hex_of_next : (s : List ℕ) (n : ℕ) → n < length s → hex_of (take (n + 1) s) ≡ hex_of (take n s) ++ hex_of (get_or s n 0 ∷ [])
hex_of_next s n h = rw (add-one, take-suc s n 0, hex_of_append)

pub word_some : (l : List ℕ) → (length l ≡ 0 → ⊥) → bytes_word l ≡ hex_of l
word_some [] h = absurd (h refl)
word_some (b ∷ l) h = refl

-- ---- read

pub length_unhex : (w : List ℕ) → length (unhex w) ≡ length w / 2
unfolding unhex
length_unhex [] = refl
length_unhex (a ∷ []) = refl
length_unhex (a ∷ b ∷ w) = omega (arith, length_unhex w)

-- the next two digits
pub unhex_more : (s : List ℕ) (i : ℕ) → i < length s / 2 →
    unhex (drop (2 * i) s) ≡ (16 * hex_value (get_or s (2 * i) 0) + hex_value (get_or s (2 * i + 1) 0)) ∷ unhex (drop (2 * (i + 1)) s)
unfolding unhex
unhex_more s i h =
    let first : 2 * i < length s = omega arith in
    let second : 2 * i + 1 < length s = omega arith in
    let next : 2 * i + 1 + 1 ≡ 2 * (i + 1) = omega arith in
    rw (drop-cons s (2 * i) 0, ← add-one (2 * i), drop-cons s (2 * i + 1) 0, ← add-one (2 * i + 1), next)

-- their byte stored: what is left completes the whole
pub decode_step : (s out whole : List ℕ) (i v : ℕ) → i < length s / 2 → v ≡ 16 * hex_value (get_or s (2 * i) 0)
    + hex_value (get_or s (2 * i + 1) 0) →
    sets out i (unhex (drop (2 * i) s)) ≡ whole → sets (set out i v) (i + 1) (unhex (drop (2 * (i + 1)) s)) ≡ whole
decode_step s out whole i v h e w =
    ap (λ (k : ℕ). sets (set out i v) k (unhex (drop (2 * (i + 1)) s))) (add-one i) ∙ rw e (rw (unhex_more s i h) at w)

unhex_short : (w : List ℕ) → length w < 2 → unhex w ≡ []
unfolding unhex
unhex_short [] h = refl
unhex_short (a ∷ []) h = refl
unhex_short (a ∷ b ∷ w) h = absurd (omega arith)

pub unhex_end : (s : List ℕ) (i : ℕ) → length s / 2 ≤ i → unhex (drop (2 * i) s) ≡ []
unhex_end s i h = unhex_short _ (rw (length-drop) (omega arith))

-- ---- a word

pub read_dash : (w was : List ℕ) → is_dash w ≡ true → ReadBytes w was (Some 0) was
unfolding is_bytes bytes_of
read_dash w was h = record { answer = rw h; bytes = rw h }

pub read_hex : (w was is : List ℕ) → is_dash w ≡ false → ltb 0 (length w / 2) && leb (length w / 2) (length was) && is_hex w ≡ true →
    is ≡ sets was 0 (unhex w) → ReadBytes w was (Some (length w / 2)) is
unfolding is_bytes bytes_of
read_hex w was is dash hex e = record { answer = rw (dash, hex, length_unhex); bytes = rw (dash, hex) e }

pub read_none : (w was : List ℕ) → is_dash w ≡ false → ltb 0 (length w / 2) && leb (length w / 2) (length was) && is_hex w ≡ false
    → ReadBytes w was None was
unfolding is_bytes bytes_of
read_none w was dash hex = record { answer = rw (dash, hex); bytes = rw (dash, hex) }

-- a word that is decoded has no more bytes than there is room for
pub fits : (n room : ℕ) (h : Bool) → ltb 0 n && leb n room && h ≡ true → n ≤ room
fits n room h e = leb-true _ _ (and_both (ltb 0 n) (leb n room) (and_both (ltb 0 n && leb n room) h e).0).1

-- ---- printed and read again

hex_value_hex_digit : (d : ℕ) → d < 16 → (is_hex_digit (hex_digit d) ≡ true) × (hex_value (hex_digit d) ≡ d)
unfolding hex_value
hex_value_hex_digit d h = go (dec_lt d 10)
  where
    go : Dec (d < 10) → (is_hex_digit (hex_digit d) ≡ true) × (hex_value (hex_digit d) ≡ d)
    go (yes low) =
        let digit : is_digit (48 + d) ≡ true = rw (le-leb 48 (48 + d) (omega arith), le-leb (48 + d) 57 (omega arith)) in
        (rw (lt-ltb d 10 low, digit), rw (lt-ltb d 10 low, digit) (omega arith))
    go (no high) =
        let other : is_digit (87 + d) ≡ false = rw (lt-leb (87 + d) 57 (omega arith), and-false) in
        let letter : leb 97 (87 + d) && leb (87 + d) 102 ≡ true =
        rw (le-leb 97 (87 + d) (omega arith), le-leb (87 + d) 102 (omega arith)) in
        (rw (le-ltb d 10 (omega arith), other, letter), rw (le-ltb d 10 (omega arith), other, letter) (omega arith))

-- each is a byte
abbrev pub AreBytes : List ℕ → Type 0
AreBytes [] = Unit {0}
AreBytes (b ∷ l) = (b < 256) × AreBytes l

every_hex_of : (l : List ℕ) → AreBytes l → every is_hex_digit (hex_of l) ≡ true
unfolding hex_of
every_hex_of [] h = refl
every_hex_of (b ∷ l) h = rw ((hex_value_hex_digit (b / 16) (omega (arith, h.0))).0, (hex_value_hex_digit (b % 16) (omega arith)).0)
    (every_hex_of l h.1)

unhex_hex_of : (l : List ℕ) → AreBytes l → unhex (hex_of l) ≡ l
unfolding unhex hex_of
unhex_hex_of [] h = refl
unhex_hex_of (b ∷ l) h =
    let whole : 16 * (b / 16) + b % 16 ≡ b = omega arith in
    rw ((hex_value_hex_digit (b / 16) (omega (arith, h.0))).1, (hex_value_hex_digit (b % 16) (omega arith)).1, whole, unhex_hex_of l h.1)

length_hex_of : (l : List ℕ) → length (hex_of l) ≡ 2 * length l
unfolding hex_of
length_hex_of [] = refl
length_hex_of (b ∷ l) = omega (arith, length_hex_of l)

-- bytes that are printed are read again
pub read_printed : (l : List ℕ) (room : ℕ) → AreBytes l → length l ≤ room
    → (is_bytes (bytes_word l) room ≡ true) × (bytes_of (bytes_word l) ≡ l)
unfolding is_bytes bytes_of is_hex
read_printed [] room h small = (refl, refl)
read_printed (b ∷ l) room h small =
    let long : length (hex_of (b ∷ l)) ≡ 2 * length (b ∷ l) = length_hex_of (b ∷ l) in
    let dash : is_dash (hex_of (b ∷ l)) ≡ false = rw (ne_eqb (length (hex_of (b ∷ l))) 1 (λ e. omega arith)) in
    let some : ltb 0 (length (hex_of (b ∷ l)) / 2) ≡ true = lt-ltb 0 (length (hex_of (b ∷ l)) / 2) (omega arith) in
    let fit : leb (length (hex_of (b ∷ l)) / 2) room ≡ true = le-leb (length (hex_of (b ∷ l)) / 2) room (omega arith) in
    let even : eqb (length (hex_of (b ∷ l)) % 2) 0 ≡ true = eq-eqb (length (hex_of (b ∷ l)) % 2) 0 (omega arith) in
    (rw (dash, some, fit, even) (every_hex_of (b ∷ l) h), rw dash (unhex_hex_of (b ∷ l) h))

hex_digit_hex_value : (c : ℕ) → is_hex_digit c ≡ true → (hex_digit (hex_value c) ≡ c) × (hex_value c < 16)
unfolding hex_value
hex_digit_hex_value c h = go (is_digit c) refl
  where
    go : (d : Bool) → is_digit c ≡ d → (hex_digit (hex_value c) ≡ c) × (hex_value c < 16)
    go true e =
        let v = value_digit c e in
        let r = digit_range c e in
        (rw (← v.0, lt-ltb (c - 48) 10 (omega arith)) (omega arith), rw (← v.0) v.1)
    go false e =
        let v = value_letter c e h in
        let r = hex_range c e h in
        (rw (← v.0, le-ltb (c - 87) 10 (omega arith)) (omega arith), rw (← v.0) v.1)

hex_of_unhex : (w : List ℕ) → every is_hex_digit w ≡ true → length w % 2 ≡ 0 → hex_of (unhex w) ≡ w
unfolding hex_of unhex
hex_of_unhex [] h even = refl
hex_of_unhex (a ∷ []) h even = absurd (omega arith)
hex_of_unhex (a ∷ b ∷ w) h even =
    let digits = and_both _ _ h in
    let rest = and_both _ _ digits.1 in
    let x = hex_digit_hex_value a digits.0 in
    let y = hex_digit_hex_value b rest.0 in
    let high : (16 * hex_value a + hex_value b) / 16 ≡ hex_value a = omega arith in
    let low : (16 * hex_value a + hex_value b) % 16 ≡ hex_value b = omega arith in
    rw (high, low, x.0, y.0, hex_of_unhex w rest.1 (omega arith))

one_byte : (w : List ℕ) → is_dash w ≡ true → w ≡ 45 ∷ []
one_byte [] h = absurd (let z : ◌≡◌ {A = ℕ} 0 1 = cc in omega arith)
one_byte (c ∷ []) h = rw (eqb-true c 45 h)
one_byte (c ∷ d ∷ w) h = absurd (let n = eqb-true (length (c ∷ d ∷ w)) 1 (and_both _ _ h).0 in omega arith)

-- a word that is read is the one that printing gives
pub printed_read : (w : List ℕ) (room : ℕ) → is_bytes w room ≡ true → bytes_word (bytes_of w) ≡ w
unfolding is_bytes bytes_of is_hex
printed_read w room h = go (is_dash w) refl
  where
    go : (d : Bool) → is_dash w ≡ d → bytes_word (bytes_of w) ≡ w
    go true e = rw e (sym (one_byte w e))
    go false e =
        let all = and_both (ltb 0 (length w / 2) && leb (length w / 2) room) (is_hex w) (rw e at h) in
        let some = ltb-true 0 (length w / 2) (and_both _ _ all.0).0 in
        let hex = and_both (eqb (length w % 2) 0) (every is_hex_digit w) all.1 in
        rw (e, word_some (unhex w) (λ z. omega (arith, length_unhex w))) (hex_of_unhex w hex.1 (eqb-true _ _ hex.0))
