-- The lister's lines as bytes. Definitions.
-- Assumes nothing.
use Rattle.std.specs.Prelude.{◌≡◌, List, [], ◌∷◌, ◌++◌, ℕ, ◌≤◌, length, take}
use Rattle.protocol.specs.Refusals.{number_of}
use Rattle.wire.specs.declared.Header.{Header}
use Rattle.protocol.specs.declared.Refusal.{Refusal}
use Rattle.listing.specs.declared.Line.{Line}
use Rattle.notation.specs.Ascii.{ascii}
use Rattle.notation.specs.Decimal.{decimal}

-- ---- the text of each line

abbrev pub space : ℕ
space = 32

abbrev pub newline : ℕ
newline = 10

-- a number in decimal, and the byte behind it
unfoldable pub field : ℕ → ℕ → List ℕ
field n end = decimal n ++ (end ∷ [])

-- numbers parted by one space, and a newline behind the last
unfoldable pub row : List ℕ → List ℕ
row [] = newline ∷ []
row (n ∷ []) = field n newline
row (n ∷ m ∷ ns) = field n space ++ row (m ∷ ns)

unfoldable pub column_line : List ℕ
column_line = ascii "conv cmd frg wnd ts sn una len\n"

-- the columns are header fields
unfoldable pub segment_line : Header → List ℕ
segment_line h = row (h.conv ∷ h.cmd ∷ h.frg ∷ h.wnd ∷ h.ts ∷ h.sn ∷ h.una ∷ h.len ∷ [])

-- the last line counts segments
unfoldable pub count_line : ℕ → List ℕ
count_line n = ascii "ok " ++ field n newline

-- "refused", one space and the number
unfoldable pub refusal_line : Refusal → List ℕ
refusal_line r = ascii "refused " ++ field (number_of r) newline

-- ---- a line in an array

-- the text that a line holds: its first len bytes
abbrev pub text_of : Line → List ℕ
text_of l = take l.len l.bytes

-- the line l holds the text t, all of it in the array
pub record Holds (t : List ℕ) (l : Line) : Type 0 where
  pub text : text_of l ≡ t
  pub len : l.len ≡ length t
  pub most : l.len ≤ 80
