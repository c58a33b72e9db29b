-- What the definitions print for three datagrams, computed. Case A is the paper's.
-- Assumes nothing.
use Rattle.std.specs.Prelude.{◌≡◌, refl, List, [], ◌∷◌, ◌++◌, ℕ, take}
use Rattle.wire.specs.LittleEndian.{number_at}
use Rattle.wire.specs.Headers.{decode}
use Rattle.datagram.specs.Datagrams.{verdict, segment_of, tail, walk, parse}
use Rattle.notation.specs.Decimal.{digits, decimal}
use Rattle.notation.specs.Ascii.{ascii}
use Rattle.listing.specs.Lines.{field, row, column_line, segment_line, count_line, refusal_line}
use Rattle.listing.specs.Listings.{listed, segment_lines, body, listing_of}

-- case A: 01000000 51 00 8000 00000000 00000000 00000000 02000000 6869
abbrev pub case_a : List ℕ
case_a =
    0x01 ∷ 0 ∷ 0 ∷ 0 ∷ 0x51 ∷ 0 ∷ 0x80 ∷ 0 ∷ 0 ∷ 0 ∷ 0 ∷ 0 ∷ 0 ∷ 0 ∷ 0 ∷ 0 ∷ 0 ∷ 0 ∷ 0 ∷ 0 ∷ 0x02 ∷ 0 ∷ 0 ∷ 0 ∷ 0x68 ∷ 0x69 ∷ []

pub case_a_lem : listing_of case_a ≡ ascii "conv cmd frg wnd ts sn una len\n1 81 0 128 0 0 0 2\nok 1\n"
unfolding listing_of listed parse walk tail verdict segment_of decode number_at body segment_lines segment_line row field decimal digits
    count_line column_line
case_a_lem = refl

-- a byte of its payload is missing
pub cut : listing_of (take 25 case_a) ≡ ascii "conv cmd frg wnd ts sn una len\nrefused 3\n"
unfolding listing_of listed parse walk tail verdict segment_of decode number_at body field decimal digits refusal_line column_line
cut = refl

-- it comes twice
pub twice : listing_of (case_a ++ case_a) ≡ ascii "conv cmd frg wnd ts sn una len\n1 81 0 128 0 0 0 2\n1 81 0 128 0 0 0 2\nok 2\n"
unfolding listing_of listed parse walk tail verdict segment_of decode number_at body segment_lines segment_line row field decimal digits
    count_line column_line
twice = refl

-- a tail of 1 and of 23 bytes behind it
pub junk : (listing_of (case_a ++ (0 ∷ [])) ≡ ascii "conv cmd frg wnd ts sn una len\nrefused 14\n")
    × (listing_of (case_a ++ take 23 case_a) ≡ ascii "conv cmd frg wnd ts sn una len\nrefused 14\n")
unfolding listing_of listed parse walk tail verdict segment_of decode number_at body field decimal digits refusal_line column_line
junk = (refl, refl)

-- a second segment that is cut is judged before a tail
pub cut_first : listing_of (case_a ++ take 25 case_a) ≡ ascii "conv cmd frg wnd ts sn una len\nrefused 3\n"
unfolding listing_of listed parse walk tail verdict segment_of decode number_at body field decimal digits refusal_line column_line
cut_first = refl
