-- A word read as a number. Definitions.
-- Assumes nothing.
use Rattle.std.specs.Prelude.{Bool, not, cond, Option, Some, None, ◌&&◌, List, ℕ, leb, ltb, eqb, length, get_or}
use Rattle.std.specs.List.{list_all}
use Rattle.notation.specs.Decimal.{value}

abbrev pub is_digit : ℕ → Bool
is_digit c = leb 48 c && leb c 57

-- the test holds of each byte
abbrev pub every : (ℕ → Bool) → List ℕ → Bool
every = list_all

-- two bytes or more, the first of them a zero
abbrev pub leading_zero : List ℕ → Bool
leading_zero w = not (ltb (length w) 2) && eqb (get_or w 0 0) 48

-- decimal without sign or leading zeros
unfoldable pub is_decimal : List ℕ → Bool
is_decimal w = ltb 0 (length w) && not (leading_zero w) && every is_digit w

-- a number of at most 32 bits
unfoldable pub number_of : List ℕ → Option ℕ
number_of w = cond (is_decimal w && leb (value 0 w) 4294967295) (Some (value 0 w)) None
