-- A message's segments in the send pool: they stand in free slots, those held before stay as they were, and what they show is the message
-- cut.
-- Assumes nothing.
use Rattle.std.specs.Prelude.{◌≡◌, Bool, true, false, ℕ, zero, suc, ◌+◌, ◌-◌, ◌*◌, ◌/◌, ◌≤◌, ◌<◌, eqb, length, take, drop}
use Rattle.std.proofs.Math.Path.{refl, ap₂}
use Rattle.std.proofs.Common.{sym, ap, ◌∙◌, true≢false, mul-le-mul_right, div-lt_iff_lt-mul, arith, eqb-true, length-take}
use Rattle.std.proofs.Math.Bool.{cond}
use Rattle.std.proofs.lemmas.Bool.{false≢true, eqb-false}
use mathlib.Core.List.{List, [], ◌∷◌, map}
use Rattle.std.proofs.lemmas.List.Edits.{sets}
use Rattle.std.proofs.Math.Seq.{length-sets}
use Rattle.protocol.specs.Protocol.{send_slots, fragments_most}
use Rattle.lists.specs.declared.Held.{Held}
use Rattle.session.specs.Slots.{occurs, lowest_free}
use Rattle.session.specs.State.{slots}
use Rattle.session.specs.Cutting.{fragment_count, segment_count, pieces, cut, cut_as}
use Rattle.session.specs.Sending.{Placed, place}
use Rattle.session.specs.Decides.{All}
use Rattle.session.specs.Once.{Distinct}
use Rattle.delivery.specs.Pieces.{Piece, fragmented}
use Rattle.delivery.specs.FreeSlots.{free, none_occurs, occurs_first, occurs_later, occurs_cases, not_later}
use Rattle.delivery.specs.SlotBytes.{stored, other_slot}

-- the piece that a held segment shows: its fragment number, and its payload in the pool
abbrev pub piece_in : ℕ → List ℕ → Held → Piece
piece_in m pool h = record { fragment = h.fragment; payload = take h.len (drop (h.slot * m) pool) }

-- ---- a message cut

pub length_pieces : (m k : ℕ) (b : List ℕ) → length (pieces m k b) ≡ k
unfolding pieces
length_pieces m zero b = refl
length_pieces m (suc k) b = ap suc (length_pieces m k (drop m b))

pieces_short : (m k : ℕ) (b : List ℕ) → All (λ (p : List ℕ). length p ≤ m) (pieces m k b)
unfolding pieces
pieces_short m zero b = tt
pieces_short m (suc k) b = (simp length-take (omega arith), pieces_short m k (drop m b))

pub length_cut : (m : ℕ) (b : List ℕ) → length (cut m b) ≡ fragment_count m (length b)
unfolding cut
length_cut m b = length_pieces m (fragment_count m (length b)) b

pub cut_short : (m : ℕ) (b : List ℕ) → All (λ (p : List ℕ). length p ≤ m) (cut m b)
unfolding cut
cut_short m b = pieces_short m (fragment_count m (length b)) b

pub length_cut_as : (stream : Bool) (m : ℕ) (b : List ℕ) → length (cut_as stream m b) ≡ segment_count stream m (length b)
unfolding cut_as
length_cut_as stream m b = length_pieces m (segment_count stream m (length b)) b

pub cut_as_short : (stream : Bool) (m : ℕ) (b : List ℕ) → All (λ (p : List ℕ). length p ≤ m) (cut_as stream m b)
unfolding cut_as
cut_as_short stream m b = pieces_short m (segment_count stream m (length b)) b

-- a message of at most 127 x mss bytes has at most 127 segments
pub count_most : (m n : ℕ) → 0 < m → n ≤ fragments_most * m → fragment_count m n ≤ fragments_most
unfolding fragment_count
count_most m n h l = let q : (n + (m - 1)) / m < 128 = (div-lt_iff_lt-mul h).1 (omega arith) in omega arith

pub segments_most : (stream : Bool) (m n : ℕ) → 0 < m → n ≤ fragments_most * m → segment_count stream m n ≤ fragments_most
unfolding segment_count
segments_most true m n h l = let q : (n + (m - 1)) / m < 128 = (div-lt_iff_lt-mul h).1 (omega arith) in omega arith
segments_most false m n h l = count_most m n h l

-- and at least one
pub count_least : (m n : ℕ) → 0 < fragment_count m n
unfolding fragment_count
count_least m n = omega arith

-- ---- its segments placed

-- the pool keeps its length
pub place_length : (stream : Bool) (m : ℕ) (used pool : List ℕ) (ps : List (List ℕ)) →
    length (place stream m used pool ps).pool ≡ length pool
unfolding place
place_length stream m used pool [] = refl
place_length stream m used pool (p ∷ ps) =
    place_length stream m (lowest_free used send_slots ∷ used) (sets pool (lowest_free used send_slots * m) p) ps
    ∙ length-sets pool (lowest_free used send_slots * m) p

-- a segment for each payload
pub place_count : (stream : Bool) (m : ℕ) (used pool : List ℕ) (ps : List (List ℕ)) →
    length (place stream m used pool ps).segments ≡ length ps
unfolding place
place_count stream m used pool [] = refl
place_count stream m used pool (p ∷ ps) =
    ap suc (place_count stream m (lowest_free used send_slots ∷ used) (sets pool (lowest_free used send_slots * m) p) ps)

pub record PlacedWell (stream : Bool) (m : ℕ) (used pool : List ℕ) (ps : List (List ℕ)) (r : Placed) : Type 0 where
  -- used slots keep their bytes
  pub old : (slot n : ℕ) → occurs slot used ≡ true → n ≤ m → take n (drop (slot * m) r.pool) ≡ take n (drop (slot * m) pool)
  -- the segments show the payloads
  pub new : map (piece_in m r.pool) r.segments ≡ fragmented stream ps
  -- in slots of their own
  pub distinct : Distinct (slots r.segments)
  pub apart : (slot : ℕ) → occurs slot (slots r.segments) ≡ true → occurs slot used ≡ false
  pub low : All (λ (h : Held). h.slot < send_slots) r.segments
  pub lengths : All (λ (h : Held). h.len ≤ m) r.segments
  pub fragments : All (λ (h : Held). h.fragment < length ps) r.segments

-- a fragment number is at most the count of the payloads behind
fragment_low : (stream : Bool) (n : ℕ) → cond stream 0 n ≤ n
fragment_low true n = omega arith
fragment_low false n = omega arith

module _ (stream : Bool) (m : ℕ) (p : List ℕ) (used pool : List ℕ) (short : length p ≤ m) (few : length used < send_slots)
    (enough : send_slots * m ≤ length pool) where
  abbrev slot : ℕ
  slot = lowest_free used send_slots

  abbrev written : List ℕ
  written = sets pool (lowest_free used send_slots * m) p

  inside : slot * m + length p ≤ length pool
  inside = omega (arith, mul-le-mul_right m (free used send_slots few).low)

  -- the first payload placed, with the others placed behind it
  one : (ps : List (List ℕ)) →
      PlacedWell stream m (slot ∷ used) written ps (place stream m (slot ∷ used) written ps) →
      PlacedWell stream m used pool (p ∷ ps) (place stream m used pool (p ∷ ps))
  unfolding place fragmented
  one ps r = record {
    old = λ s n e k. r.old s n (occurs_later s slot used e) k ∙ other_slot m pool p slot s n inside short k (differs s e);
    new = ap₂ {C = List Piece} (λ (b : List ℕ) (t : List Piece). record { fragment = cond stream 0 (length ps); payload = b } ∷ t)
        (r.old slot (length p) (occurs_first slot used) short ∙ stored pool (slot * m) p inside)
        r.new;
    distinct = (fresh (occurs slot (slots rest)) refl, r.distinct);
    apart = λ s e. away s (eqb s slot) refl e;
    low = ((free used send_slots few).low, r.low);
    lengths = (short, r.lengths);
    fragments = (omega (arith, fragment_low stream (length ps)), more rest r.fragments);
  }
    where
      rest : List Held
      rest = (place stream m (slot ∷ used) written ps).segments

      differs : (s : ℕ) → occurs s used ≡ true → s ≡ slot → ⊥
      differs s e q = false≢true (sym (free used send_slots few).unused ∙ ap (λ (k : ℕ). occurs k used) (sym q) ∙ e)

      fresh : (t : Bool) → occurs slot (slots rest) ≡ t → t ≡ false
      fresh true e = absurd (true≢false (sym (occurs_first slot used) ∙ r.apart slot e))
      fresh false e = refl

      away : (s : ℕ) (t : Bool) → eqb s slot ≡ t → occurs s (slot ∷ slots rest) ≡ true → occurs s used ≡ false
      away s true q e = ap (λ (k : ℕ). occurs k used) (eqb-true s slot q) ∙ (free used send_slots few).unused
      away s false q e = not_later s slot used (r.apart s (occurs_cases s slot (slots rest) e (eqb-false s slot q)))

      more : (l : List Held) → All (λ (h : Held). h.fragment < length ps) l → All (λ (h : Held). h.fragment < suc (length ps)) l
      more [] h = tt
      more (x ∷ l) h = (omega (arith, h.0), more l h.1)

pub placed_well : (stream : Bool) (m : ℕ) (ps : List (List ℕ)) (used pool : List ℕ) →
    All (λ (p : List ℕ). length p ≤ m) ps →
    length ps ≤ send_slots - length used →
    send_slots * m ≤ length pool →
    PlacedWell stream m used pool ps (place stream m used pool ps)
unfolding place fragmented
placed_well stream m [] used pool short few enough =
    record {
      old = λ s n e k. refl;
      new = refl;
      distinct = tt;
      apart = λ s e. absurd (false≢true (sym (none_occurs s) ∙ e));
      low = tt;
      lengths = tt;
      fragments = tt;
    }
placed_well stream m (p ∷ ps) used pool short few enough =
    one stream m p used pool short.0 (omega arith) enough ps
    (placed_well stream m ps (lowest_free used send_slots ∷ used) (sets pool (lowest_free used send_slots * m) p) short.1 (omega arith)
    (rw (length-sets pool (lowest_free used send_slots * m) p) enough))
