-- How the reader keeps the numbers and the bytes of a line. Definitions.
-- Assumes nothing.
use Rattle.std.specs.Prelude.{◌≡◌, cond, Option, Some, None, List, [], ◌∷◌, ℕ, leb, length, take}
use Rattle.notation.specs.Hex.{ReadBytes}

-- at most so many numbers
abbrev pub few : ℕ → Option (List ℕ) → Option (List ℕ)
few most None = None
few most (Some ns) = cond (leb (length ns) most) (Some ns) None

-- the front of the room, up to the count
abbrev pub read_as : List ℕ → Option ℕ → Option (List ℕ)
read_as room None = None
read_as room (Some n) = Some (take n room)

-- the bytes behind a space; nothing where there is no space
pub record NoBytes (was : List ℕ) (r : Option ℕ) (is : List ℕ) : Type 0 where
  pub answer : r ≡ None
  pub bytes : is ≡ was

abbrev pub ReadBehind : List ℕ → List ℕ → Option ℕ → List ℕ → Type 0
ReadBehind [] = NoBytes
ReadBehind (c ∷ w) = ReadBytes w
