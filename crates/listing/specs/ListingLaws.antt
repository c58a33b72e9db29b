-- Laws of `Listings`: what is listed, and text put behind text.
-- Assumes nothing.
use Rattle.std.specs.Prelude.{◌≡◌, Ok, Err, List, [], ◌∷◌, ◌++◌, ℕ, ◌+◌, ◌≤◌, ◌<◌, length}
use Rattle.std.proofs.Common.{◌∙◌, append_assoc, zero-add, add_assoc, arith, le-leb, length-append}
use Rattle.std.proofs.Math.Decide.{dec_le}
use Rattle.std.proofs.lemmas.Bool.{lt-leb}
use Rattle.std.proofs.lemmas.List.Edits.{sets}
use Rattle.wire.specs.LittleEndian.{number_at}
use Rattle.wire.specs.Stores.{sets_append}
use Rattle.protocol.specs.declared.Refusal.{Refusal}
use Rattle.protocol.specs.declared.Refusal.TheVariants.{ShortPart}
use Rattle.datagram.specs.Datagrams.{Segment, parse, refused}
use Rattle.datagram.specs.StepLaws.{Begun, accepted, was_refused}
use Rattle.listing.specs.declared.Line.{Line}
use Rattle.listing.specs.Lines.{column_line, segment_line, count_line, refusal_line, text_of, Holds}
use Rattle.listing.specs.Listings.{listed, judged, segment_lines, body, listing_of, WroteListing}
use Rattle.notation.specs.Puts.{Put}
use Rattle.notation.specs.PutLaws.{put_length}
use Rattle.listing.specs.Puts.{Wrote}

pub listed_long : (s : List ℕ) → 65536 < length s → listed s ≡ refused ShortPart
unfolding listed
listed_long s h = rw (lt-leb _ _ h)

pub listed_parse : (s : List ℕ) → length s ≤ 65536 → listed s ≡ parse (number_at 4 s 0) 488 s
unfolding listed
listed_parse s h = rw (le-leb _ _ h)

pub body_refused : (s : List ℕ) (r : Refusal) → judged s ≡ Err r → body (listed s) ≡ refusal_line r
unfolding body
body_refused s r e = rw (was_refused 0 (listed s) r e)

-- an accepted datagram: it is not too long, and its lines are those of its segments and the count
pub record ListedAll (s : List ℕ) (n : ℕ) : Type 0 where
  pub short : length s ≤ 65536
  pub begun : Begun (number_at 4 s 0) 488 s n
  pub lines : body (listed s) ≡ segment_lines begun.all ++ count_line n

pub listed_all : (s : List ℕ) (n : ℕ) → judged s ≡ Ok n → ListedAll s n
unfolding body
listed_all s n e = go (dec_le (length s) 65536)
  where
    go : Dec (length s ≤ 65536) → ListedAll s n
    go (no h) = absurd (let f = rw (listed_long s (omega arith)) at e in let z : ◌≡◌ {A = ℕ} 0 1 = cc in omega arith)
    go (yes h) =
        let b = accepted (number_at 4 s 0) 488 s n (rw (listed_parse s h) at e) in
        record { short = h; begun = b; lines = rw (listed_parse s h, b.parsed, ← b.count) }

-- ---- text behind text

-- text that there is room for is put whole
pub wrote_put : (was is : List ℕ) (i : ℕ) (t : List ℕ) (r : ℕ) → i + length t ≤ length was → Put was i t r is → Wrote was i t r is
wrote_put was is i t r room p =
    record {
      bytes = p.bytes;
      next = omega (arith, p.next);
      inside = omega (arith, p.next, put_length was i t r is p);
    }

pub wrote_then : (was mid is : List ℕ) (i j k : ℕ) (t u : List ℕ) → Wrote was i t j mid → Wrote mid j u k is → Wrote was i (t ++ u) k is
wrote_then was mid is i j k t u a b =
    record {
      bytes = rw (b.bytes, a.bytes, a.next, sets_append was i t u);
      next = rw (b.next, a.next, length-append, add_assoc);
      inside = b.inside;
    }

-- what is left to be put at j completes the text t at i
pub record Left (was : List ℕ) (i : ℕ) (t : List ℕ) (now : List ℕ) (j : ℕ) (u : List ℕ) : Type 0 where
  pub bytes : sets now j u ≡ sets was i t
  pub next : j + length u ≡ i + length t

pub left_more : (was : List ℕ) (i : ℕ) (t now : List ℕ) (j : ℕ) (u v : List ℕ) (k : ℕ) (is : List ℕ) →
    Left was i t now j (u ++ v) → Wrote now j u k is → Left was i t is k v
left_more was i t now j u v k is l w =
    record {
      bytes = rw (w.bytes, w.next, ← sets_append now j u v) l.bytes;
      next = omega (arith, w.next, l.next, length-append u v);
    }

pub left_all : (was : List ℕ) (i : ℕ) (t now : List ℕ) (j : ℕ) (u : List ℕ) (k : ℕ) (is : List ℕ) →
    Left was i t now j u → Wrote now j u k is → Wrote was i t k is
left_all was i t now j u k is l w = record { bytes = w.bytes ∙ l.bytes; next = w.next ∙ l.next; inside = w.inside }

pub left_begin : (was : List ℕ) (i : ℕ) (t u : List ℕ) → t ≡ u → Left was i t was i u
left_begin was i t u e = record { bytes = rw e; next = rw e }

-- the line of the first segment that is left
pub left_line : (was : List ℕ) (i : ℕ) (t now : List ℕ) (j : ℕ) (gs : List Segment) (g : Segment) (others : List Segment) (last : List ℕ)
    (line : Line) (k : ℕ) (is : List ℕ) →
    Left was i t now j (segment_lines gs ++ last) → gs ≡ g ∷ others → Holds (segment_line g.header) line → Wrote now j (text_of line) k is
    → Left was i t is k (segment_lines others ++ last)
unfolding segment_lines
left_line was i t now j gs g others last line k is l e h w =
    left_more was i t now j (segment_line g.header) (segment_lines others ++ last) k is (rw (e, append_assoc) at l) (rw h.text at w)

-- the last line, where no segment is left
pub left_last : (was : List ℕ) (i : ℕ) (t now : List ℕ) (j : ℕ) (gs : List Segment) (last : List ℕ) (line : Line) (k : ℕ) (is : List ℕ) →
    Left was i t now j (segment_lines gs ++ last) → gs ≡ [] → Holds last line → Wrote now j (text_of line) k is → Wrote was i t k is
unfolding segment_lines
left_last was i t now j gs last line k is l e h w = left_all was i t now j last k is (rw e at l) (rw h.text at w)

-- ---- the whole listing

pub wrote_refused : (s : List ℕ) (r : Refusal) (line : Line) (was : List ℕ) (i k : ℕ) (is : List ℕ) →
    judged s ≡ Err r → Holds (refusal_line r) line → Wrote was i (text_of line) k is → Wrote was i (body (listed s)) k is
wrote_refused s r line was i k is e h w = rw (body_refused s r e) (rw h.text at w)

pub wrote_none : (was s : List ℕ) → length was < 220000 → WroteListing was s 0 was
wrote_none was s h = record { bytes = rw (lt-leb _ _ h); count = rw (lt-leb _ _ h); inside = omega arith }

pub wrote_all : (was s : List ℕ) (r : ℕ) (is : List ℕ) → 220000 ≤ length was → Wrote was 0 (column_line ++ body (listed s)) r is
    → WroteListing was s r is
unfolding listing_of
wrote_all was s r is h w =
    record {
      bytes = rw (le-leb _ _ h) w.bytes;
      count = rw (le-leb _ _ h) (w.next ∙ zero-add _);
      inside = w.inside;
    }
