-- What the lister prints for a datagram. Definitions.
-- Assumes nothing.
use Rattle.std.specs.Prelude.{◌≡◌, cond, List, [], ◌∷◌, ◌++◌, ℕ, ◌≤◌, leb, length}
use Rattle.std.proofs.lemmas.List.Edits.{sets}
use Rattle.wire.specs.LittleEndian.{number_at}
use Rattle.protocol.specs.declared.Refusal.TheVariants.{ShortPart}
use Rattle.datagram.specs.Datagrams.{Segment, Checked, Parsed, refused, segments, parse, counted}
use Rattle.listing.specs.Lines.{column_line, segment_line, count_line, refusal_line}

-- the most bytes that are taken, and the mss that is used
abbrev pub datagram_most : ℕ
datagram_most = 65536

abbrev pub lister_mss : ℕ
lister_mss = 488

-- the datagram as it is parsed: with its first four bytes as conversation. Over 65,536 bytes give 7
unfoldable pub listed : List ℕ → Parsed
listed s = cond (leb (length s) datagram_most) (parse (number_at 4 s 0) lister_mss s) (refused ShortPart)

-- the count of its segments, or why it is refused
abbrev pub judged : List ℕ → Checked
judged s = counted 0 (listed s)

-- a line for each segment
unfoldable pub segment_lines : List Segment → List ℕ
segment_lines [] = []
segment_lines (g ∷ gs) = segment_line g.header ++ segment_lines gs

-- the lines behind the column line: a refusal has no segment lines
unfoldable pub body : Parsed → List ℕ
body (refused r) = refusal_line r
body (segments gs) = segment_lines gs ++ count_line (length gs)

-- all that is printed
unfoldable pub listing_of : List ℕ → List ℕ
listing_of s = column_line ++ body (listed s)

-- ---- a listing in lent output

-- so many bytes hold any listing
abbrev pub room_least : ℕ
room_least = 220000

-- the listing of s from index 0 on, every other byte as it was, and its length; where the output is too short for some
-- listing all stay, and 0
pub record WroteListing (was : List ℕ) (s : List ℕ) (r : ℕ) (is : List ℕ) : Type 0 where
  pub bytes : is ≡ cond (leb room_least (length was)) (sets was 0 (listing_of s)) was
  pub count : r ≡ cond (leb room_least (length was)) (length (listing_of s)) 0
  pub inside : r ≤ length is
