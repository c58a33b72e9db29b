-- Laws of `Lines`: text behind text, and how long a field is.
-- Assumes nothing.
use Rattle.std.specs.Prelude.{◌≡◌, List, [], ◌∷◌, ◌++◌, ℕ, ◌+◌, ◌^◌, ◌≤◌, ◌<◌, length, get_or, take, drop}
use Rattle.std.proofs.Common.{ap, ◌∙◌, append_assoc, append-nil, add-one, arith, length-append, take-suc}
use Rattle.listing.specs.declared.Line.{Line}
use Rattle.notation.specs.Decimal.{decimal}
use Rattle.notation.specs.DecimalLaws.{length_decimal}
use Rattle.wire.specs.Headers.{FieldsFit}
use Rattle.wire.specs.declared.Header.{Header}
use Rattle.listing.specs.Lines.{space, newline, field, row, segment_line, text_of, Holds}
use Rattle.std.proofs.lemmas.List.Edits.{sets, sets-eq}
use Rattle.std.proofs.Math.Seq.{take-append_seam}
use Rattle.notation.specs.Puts.{Put}
use Rattle.notation.specs.PutLaws.{put_then}
use Rattle.listing.specs.Puts.{spaced}

pub length_field_one : (n end : ℕ) → length (field n end) ≡ length (decimal n) + 1
unfolding field
length_field_one n end = rw length-append

pub holds_length : (t : List ℕ) (l : Line) → Holds t l → length (text_of l) ≡ l.len
holds_length t l h = rw (h.text, h.len)

-- a field of a number below 10^k has at most k bytes, and one behind them
pub length_field : (k n end : ℕ) → 0 < k → n < 10 ^ k → length (field n end) ≤ k + 1
length_field k n end p h = omega (arith, length_field_one n end, length_decimal k n p h)

take_sets_front : (l t : List ℕ) → length t ≤ length l → take (length t) (sets l 0 t) ≡ t
take_sets_front l t h =
    let room : 0 + length t ≤ length l = omega arith in
    ap (take (length t)) (sets-eq t l 0 room) ∙ take-append_seam t (drop (0 + length t) l)

-- text that is put into the bytes of a line
pub holds_put : (was is t : List ℕ) (len : ℕ) → length was ≡ 80 → length t ≤ 80 → Put was 0 t len is
    → Holds t (record { bytes = is; len = len })
holds_put was is t len whole short p =
    let long : len ≡ length t = omega (arith, p.next) in
    record {
      text = rw (p.bytes, long) (take_sets_front was t (omega arith));
      len = long;
      most = omega arith;
    }

spaced_append : (xs : List ℕ) (n : ℕ) → spaced (xs ++ (n ∷ [])) ≡ spaced xs ++ field n space
spaced_append [] n = append-nil (field n space)
spaced_append (x ∷ xs) n = rw (spaced_append xs n, append_assoc)

-- one field more
pub spaced_put : (l : List ℕ) (i : ℕ) (was mid is : List ℕ) (at j k : ℕ) → i < length l → Put was at (spaced (take i l)) j mid
    → Put mid j (field (get_or l i 0) space) k is → Put was at (spaced (take (i + 1) l)) k is
spaced_put l i was mid is at j k h p q = rw (add-one, take-suc l i 0, spaced_append) (put_then _ _ _ _ _ _ _ _ p q)

-- ---- a segment's line

-- how long each field of a header is at most
pub record Widths (h : Header) : Type 0 where
  pub conv : length (field h.conv space) ≤ 11
  pub cmd : length (field h.cmd space) ≤ 4
  pub frg : length (field h.frg space) ≤ 4
  pub wnd : length (field h.wnd space) ≤ 6
  pub ts : length (field h.ts space) ≤ 11
  pub sn : length (field h.sn space) ≤ 11
  pub una : length (field h.una space) ≤ 11
  pub len : length (field h.len newline) ≤ 11

pub widths : (h : Header) → FieldsFit h → Widths h
widths h f =
    record {
      conv = length_field 10 h.conv space (omega arith) (omega (arith, f.conv));
      cmd = length_field 3 h.cmd space (omega arith) (omega (arith, f.cmd));
      frg = length_field 3 h.frg space (omega arith) (omega (arith, f.frg));
      wnd = length_field 5 h.wnd space (omega arith) (omega (arith, f.wnd));
      ts = length_field 10 h.ts space (omega arith) (omega (arith, f.ts));
      sn = length_field 10 h.sn space (omega arith) (omega (arith, f.sn));
      una = length_field 10 h.una space (omega arith) (omega (arith, f.una));
      len = length_field 10 h.len newline (omega arith) (omega (arith, f.len));
    }

pub segment_parts : (h : Header) → segment_line h
    ≡ spaced (h.conv ∷ h.cmd ∷ h.frg ∷ h.wnd ∷ h.ts ∷ h.sn ∷ h.una ∷ []) ++ field h.len newline
unfolding segment_line row
segment_parts h = simp append_assoc

-- the line up to the window, and behind it
pub segment_halves : (h : Header) → segment_line h
    ≡ spaced (h.conv ∷ h.cmd ∷ h.frg ∷ h.wnd ∷ []) ++ spaced (h.ts ∷ h.sn ∷ h.una ∷ []) ++ field h.len newline
unfolding segment_line row
segment_halves h = simp append_assoc

pub length_front : (h : Header) → FieldsFit h → length (spaced (h.conv ∷ h.cmd ∷ h.frg ∷ h.wnd ∷ [])) ≤ 25
length_front h f = let w = widths h f in simp length-append (omega arith)

pub length_back : (h : Header) → FieldsFit h → length (spaced (h.ts ∷ h.sn ∷ h.una ∷ []) ++ field h.len newline) ≤ 44
length_back h f = let w = widths h f in simp length-append (omega arith)

pub length_segment : (h : Header) → FieldsFit h → length (segment_line h) ≤ 80
unfolding segment_line row
length_segment h f = let w = widths h f in simp length-append (omega arith)
