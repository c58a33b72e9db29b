-- Bytes in hex. Definitions.
-- Assumes nothing.
use Rattle.std.specs.Prelude.{◌≡◌, Bool, cond, Option, Some, None, ◌&&◌, ◌||◌, List, [], ◌∷◌, ℕ, ◌+◌, ◌*◌, ◌-◌, ◌/◌, ◌%◌, leb, ltb, eqb, length, get_or}
use Rattle.std.proofs.lemmas.List.Edits.{sets}
use Rattle.notation.specs.Words.{is_digit, every}

-- ---- printed

-- the byte of a digit below 16, in lower case
abbrev pub hex_digit : ℕ → ℕ
hex_digit d = cond (ltb d 10) (48 + d) (87 + d)

-- two digits for each byte, the higher first
unfoldable pub hex_of : List ℕ → List ℕ
hex_of [] = []
hex_of (b ∷ l) = hex_digit (b / 16) ∷ hex_digit (b % 16) ∷ hex_of l

-- no bytes at all are `-`
abbrev pub bytes_word : List ℕ → List ℕ
bytes_word [] = 45 ∷ []
bytes_word (b ∷ l) = hex_of (b ∷ l)

-- ---- read

-- `0` to `9`, `a` to `f`
abbrev pub is_hex_digit : ℕ → Bool
is_hex_digit c = is_digit c || leb 97 c && leb c 102

-- the value of a digit, 0 where it is none
unfoldable pub hex_value : ℕ → ℕ
hex_value c = cond (is_digit c) (c - 48) (cond (is_hex_digit c) (c - 87) 0)

-- digits, an even number of them
unfoldable pub is_hex : List ℕ → Bool
is_hex w = eqb (length w % 2) 0 && every is_hex_digit w

-- each two digits are a byte
unfoldable pub unhex : List ℕ → List ℕ
unhex [] = []
unhex (a ∷ []) = []
unhex (a ∷ b ∷ w) = (16 * hex_value a + hex_value b) ∷ unhex w

abbrev pub is_dash : List ℕ → Bool
is_dash w = eqb (length w) 1 && eqb (get_or w 0 0) 45

-- the bytes that a word stands for
unfoldable pub bytes_of : List ℕ → List ℕ
bytes_of w = cond (is_dash w) [] (unhex w)

-- a word that stands for bytes, no more than there is room for
unfoldable pub is_bytes : List ℕ → ℕ → Bool
is_bytes w room = is_dash w || ltb 0 (length w / 2) && leb (length w / 2) room && is_hex w

-- the bytes of a word at the start of `was`, and their count; nothing where it stands for none
pub record ReadBytes (w was : List ℕ) (r : Option ℕ) (is : List ℕ) : Type 0 where
  pub answer : r ≡ cond (is_bytes w (length was)) (Some (length (bytes_of w))) None
  pub bytes : is ≡ cond (is_bytes w (length was)) (sets was 0 (bytes_of w)) was
