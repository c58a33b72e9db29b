-- Laws of `Packers`: a segment that is put is packed, segments are packed one after another, and the last datagram is closed.
-- Assumes nothing.
use Rattle.std.specs.Prelude.{◌≡◌, refl, Bool, cond, ℕ, ◌+◌, ◌-◌, ◌≤◌, ◌<◌, length}
use Rattle.std.proofs.Common.{sym, ap, ◌∙◌, zero-add, arith, leb-true, leb-false, eq-eqb, ne_eqb, length-append, length-set}
use Rattle.std.proofs.Math.Bool.{true, false}
use mathlib.Core.List.{List, [], ◌∷◌, ◌++◌, foldl, foldl-append, append_assoc, append-nil, map-append}
use Rattle.std.proofs.Math.ListN.{length-map}
use Rattle.std.proofs.lemmas.List.Edits.{sets}
use Rattle.std.proofs.Math.Seq.{length-sets}
use Rattle.wire.specs.HeaderLaws.{length_encode}
use Rattle.wire.specs.Stores.{sets_append}
use Rattle.datagram.specs.Datagrams.{Segment}
use Rattle.session.specs.Flushing.{Packing, bytes_of_segment, bytes_of_segments, pack_one, datagrams_of}
use Rattle.packing.specs.declared.Packer.{Packer}
use Rattle.packing.specs.Packers.{
  joined,
  lengths_of,
  bytes_of_datagrams,
  Output,
  none,
  begun,
  Packs,
  Fills,
  Room,
  Adds,
  fits,
  with_length,
  Puts,
  Finishes,
}

-- ---- datagrams and segments joined

pub length_segment : (g : Segment) → length (bytes_of_segment g) ≡ 24 + length g.payload
length_segment g = rw (length-append, length_encode)

segments_one : (g : Segment) → bytes_of_segments (g ∷ []) ≡ bytes_of_segment g
unfolding bytes_of_segments
segments_one g = append-nil (bytes_of_segment g)

segments_append : (gs hs : List Segment) → bytes_of_segments (gs ++ hs) ≡ bytes_of_segments gs ++ bytes_of_segments hs
unfolding bytes_of_segments
segments_append [] hs = refl
segments_append (g ∷ gs) hs = rw (segments_append gs hs) (sym (append_assoc (bytes_of_segment g) (bytes_of_segments gs) (bytes_of_segments hs)))

some_bytes : (g : Segment) (gs : List Segment) → 0 < length (bytes_of_segments (g ∷ gs))
unfolding bytes_of_segments
some_bytes g gs = omega (arith, length-append (bytes_of_segment g) (bytes_of_segments gs), length_segment g)

joined_more : (ds : List (List ℕ)) (d : List ℕ) → joined (ds ++ (d ∷ [])) ≡ joined ds ++ d
unfolding joined
joined_more [] d = append-nil d
joined_more (e ∷ ds) d = rw (joined_more ds d) (sym (append_assoc e (joined ds) d))

lengths_more : (ds : List (List ℕ)) (d : List ℕ) → lengths_of (ds ++ (d ∷ [])) ≡ lengths_of ds ++ (length d ∷ [])
unfolding lengths_of
lengths_more [] d = refl
lengths_more (e ∷ ds) d = rw (lengths_more ds d)

length_lengths : (ds : List (List Segment)) → length (lengths_of (bytes_of_datagrams ds)) ≡ length ds
unfolding lengths_of
length_lengths [] = refl
length_lengths (d ∷ ds) = rw (length_lengths ds)

-- a datagram more
joined_datagrams : (ds : List (List Segment)) (d : List Segment) → joined (bytes_of_datagrams (ds ++ (d ∷ []))) ≡ joined (bytes_of_datagrams ds)
    ++ bytes_of_segments d
joined_datagrams ds d = rw (map-append, joined_more)

lengths_datagrams : (ds : List (List Segment)) (d : List Segment)
    → lengths_of (bytes_of_datagrams (ds ++ (d ∷ []))) ≡ lengths_of (bytes_of_datagrams ds) ++ (length (bytes_of_segments d) ∷ [])
lengths_datagrams ds d = rw (map-append, lengths_more)

-- ---- stores from the front on

-- what is stored behind what is stored
pub stored_behind : (l m xs ys : List ℕ) (i : ℕ) → m ≡ sets l 0 xs → length xs ≡ i → sets m i ys ≡ sets l 0 (xs ++ ys)
stored_behind l m xs ys i e f = rw (e, ← f) (sym (sets_append l 0 xs ys ∙ rw zero-add))

-- ---- one segment

module _ (out₀ lengths₀ : List ℕ) (p : Packing) (k : Packer) (out lengths : List ℕ) (w : Packs out₀ lengths₀ p k out lengths) where
  -- what the datagram that is being filled holds
  filled : k.at - k.start ≡ length (bytes_of_segments p.filling)
  filled = omega (arith, w.at)

  -- all that is packed ends where the packer stands
  packed_end : length (joined (bytes_of_datagrams p.closed) ++ bytes_of_segments p.filling) ≡ k.at
  packed_end = rw length-append (omega (arith, w.at, w.start))

  -- the length of the datagram that is being filled is noted
  lengths_noted : with_length k lengths ≡ sets lengths₀ 0 (lengths_of (bytes_of_datagrams (p.closed ++ (p.filling ∷ []))))
  lengths_noted =
      rw (filled, lengths_datagrams) (stored_behind lengths₀ lengths (lengths_of (bytes_of_datagrams p.closed))
      (length (bytes_of_segments p.filling) ∷ []) k.count w.sizes (length_lengths p.closed ∙ sym w.count))

  -- what is put comes behind all that is packed
  put_behind : (ys : List ℕ) → sets out k.at ys ≡ sets out₀ 0
      (joined (bytes_of_datagrams p.closed) ++ bytes_of_segments p.filling ++ ys)
  put_behind ys = stored_behind out₀ out (joined (bytes_of_datagrams p.closed) ++ bytes_of_segments p.filling) ys k.at w.bytes
      packed_end

  module _ (mtu n : ℕ) (g : Segment) (k' : Packer) (out' lengths' : List ℕ) (size : length (bytes_of_segment g) ≡ n)
      (u : Puts mtu n (bytes_of_segment g) k out lengths k' out' lengths') where
    -- it stays in the datagram
    same_datagram : fits mtu n k ≡ true
        → Packs out₀ lengths₀ (record { closed = p.closed; filling = p.filling ++ (g ∷ []) }) k' out' lengths'
    same_datagram e =
        record {
          bytes = u.output ∙ put_behind (bytes_of_segment g) ∙ rw (segments_append, segments_one, append_assoc);
          sizes = rw e at u.sizes ∙ w.sizes;
          start = rw e at u.start ∙ w.start;
          at = rw (segments_append, segments_one, length-append) (omega (arith, u.at, w.at, rw e at u.start));
          count = rw e at u.count ∙ w.count;
        }

    -- it starts a new one
    new_datagram : fits mtu n k ≡ false
        → Packs out₀ lengths₀ (record { closed = p.closed ++ (p.filling ∷ []); filling = g ∷ [] }) k' out' lengths'
    new_datagram e =
        record {
          bytes = u.output ∙ put_behind (bytes_of_segment g) ∙ rw (joined_datagrams, segments_one);
          sizes = rw e at u.sizes ∙ lengths_noted;
          start = rw e at u.start ∙ rw (joined_datagrams, packed_end);
          at = rw segments_one (omega (arith, u.at, rw e at u.start));
          count = rw e at u.count ∙ rw (length-append, ← w.count);
        }

    -- the test of a packer is that of a packing
    pub packs_put : Packs out₀ lengths₀ (pack_one mtu p g) k' out' lengths'
    unfolding pack_one
    packs_put = rw (size, ← filled) (by_test (fits mtu n k) refl)
      where
        by_test : (b : Bool) → fits mtu n k ≡ b
            → Packs out₀ lengths₀ (cond b (record { closed = p.closed; filling = p.filling ++ (g ∷ []) })
            (record { closed = p.closed ++ (p.filling ∷ []); filling = g ∷ [] })) k' out' lengths'
        by_test true e = same_datagram e
        by_test false e = new_datagram e

-- ---- segments one after another

-- a segment of n bytes that is put is added
module _ (mtu n : ℕ) (g : Segment) (k : Packer) (out lengths : List ℕ) (k' : Packer) (out' lengths' : List ℕ)
    (size : length (bytes_of_segment g) ≡ n) (small : n ≤ mtu) (f : Fills mtu k)
    (u : Puts mtu n (bytes_of_segment g) k out lengths k' out' lengths') where
  long : 24 ≤ n
  long = omega (arith, length_segment g)

  -- its numbers, by whether it stays in the datagram
  numbers : (b : Bool) → fits mtu n k ≡ b → Fills mtu k' × (begun k' ≤ begun k + 1)
  numbers true e =
      let start : k'.start ≡ k.start = rw e at u.start in
      let count : k'.count ≡ k.count = rw e at u.count in
      let short : k.at - k.start + n ≤ mtu = leb-true _ _ e in
      (record { word = f.word; order = omega (arith, u.at, f.order); within = omega (arith, u.at) }, omega (arith, u.at))
  numbers false e =
      let start : k'.start ≡ k.at = rw e at u.start in
      let count : k'.count ≡ k.count + 1 = rw e at u.count in
      let over : mtu < k.at - k.start + n = leb-false _ _ e in
      (record { word = f.word; order = omega (arith, u.at); within = omega (arith, u.at) }, omega (arith, u.at))

  length_unchanged : (b : Bool) → fits mtu n k ≡ b → length lengths' ≡ length lengths
  length_unchanged true e = ap length (rw e at u.sizes)
  length_unchanged false e = ap length (rw e at u.sizes) ∙ length-set lengths _ _

  pub puts_adds : Adds mtu (g ∷ []) n 1 k out lengths k' out' lengths'
  puts_adds =
      let m = numbers (fits mtu n k) refl in
      record {
        packs = λ out₀ lengths₀ p w. packs_put out₀ lengths₀ p k out lengths w mtu n g k' out' lengths' size u;
        fills = m.0;
        bytes = omega (arith, u.at);
        datagrams = m.1;
        out_length = ap length u.output ∙ length-sets out k.at (bytes_of_segment g);
        lengths_length = length_unchanged (fits mtu n k) refl;
      }

-- none
pub adds_none : (mtu : ℕ) (k : Packer) (out lengths : List ℕ) → Fills mtu k → Adds mtu [] 0 0 k out lengths k out lengths
adds_none mtu k out lengths f =
    record {
      packs = λ out₀ lengths₀ p w. w;
      fills = f;
      bytes = omega arith;
      datagrams = omega arith;
      out_length = refl;
      lengths_length = refl;
    }

module _ {mtu : ℕ} {gs : List Segment} {n m : ℕ} {k : Packer} {out lengths : List ℕ} {k' : Packer} {out' lengths' : List ℕ}
    (a : Adds mtu gs n m k out lengths k' out' lengths') where
  -- more behind them
  pub adds_append : {hs : List Segment} {i j : ℕ} {k'' : Packer} {out'' lengths'' : List ℕ}
      → Adds mtu hs i j k' out' lengths' k'' out'' lengths''
      → Adds mtu (gs ++ hs) (n + i) (m + j) k out lengths k'' out'' lengths''
  adds_append {hs} b =
      record {
        packs = λ out₀ lengths₀ p w. rw foldl-append (b.packs out₀ lengths₀ (foldl (pack_one mtu) p gs) (a.packs out₀ lengths₀ p w));
        fills = b.fills;
        bytes = omega (arith, a.bytes, b.bytes);
        datagrams = omega (arith, a.datagrams, b.datagrams);
        out_length = b.out_length ∙ a.out_length;
        lengths_length = b.lengths_length ∙ a.lengths_length;
      }

  -- the same segments, within wider bounds
  pub adds_as : {hs : List Segment} {i j : ℕ} → gs ≡ hs → n ≤ i → m ≤ j → Adds mtu hs i j k out lengths k' out' lengths'
  adds_as e h g =
      record {
        packs = λ out₀ lengths₀ p w. rw (← e) (a.packs out₀ lengths₀ p w);
        fills = a.fills;
        bytes = omega (arith, a.bytes);
        datagrams = omega (arith, a.datagrams);
        out_length = a.out_length;
        lengths_length = a.lengths_length;
      }

  -- the room that is left
  pub room_left : {i j more further : ℕ} → Room mtu more further k out lengths → n + i ≤ more → m + j ≤ further
      → Room mtu i j k' out' lengths'
  room_left r h g =
      record {
        fills = a.fills;
        bytes = omega (arith, a.bytes, a.out_length, r.bytes);
        datagrams = omega (arith, a.datagrams, a.lengths_length, r.datagrams);
      }

-- ---- from the first to the last

-- nothing is packed
pub packs_none : (out lengths : List ℕ) → Packs out lengths (record { closed = []; filling = [] }) none out lengths
unfolding joined bytes_of_segments lengths_of
packs_none out lengths = record { bytes = refl; sizes = refl; start = refl; at = refl; count = refl }

-- the last datagram is closed, unless it is empty
module _ (out₀ lengths₀ : List ℕ) (k : Packer) (out lengths : List ℕ) (count : ℕ) (lengths' : List ℕ)
    (c : Finishes k lengths count lengths') where
  -- it is empty
  finishes_empty : (ds : List (List Segment)) → Packs out₀ lengths₀ (record { closed = ds; filling = [] }) k out lengths
      → Output (bytes_of_datagrams ds) out₀ lengths₀ count out lengths'
  unfolding bytes_of_segments
  finishes_empty ds w =
      let same : k.at ≡ k.start = omega (arith, w.at) in
      record {
        bytes = w.bytes ∙ rw append-nil;
        sizes = rw (eq-eqb k.at k.start same) at c.sizes ∙ w.sizes;
        number = rw length-map (omega (arith, c.number, w.count));
      }

  finishes_last : (ds : List (List Segment)) (d : List Segment) → 0 < length (bytes_of_segments d)
      → Packs out₀ lengths₀ (record { closed = ds; filling = d }) k out lengths
      → Output (bytes_of_datagrams (ds ++ (d ∷ []))) out₀ lengths₀ count out lengths'
  finishes_last ds d h w =
      let further : k.at ≡ k.start → ⊥ = λ e. omega (arith, w.at) in
      record {
        bytes = w.bytes ∙ rw joined_datagrams;
        sizes = rw (ne_eqb k.at k.start further) at c.sizes ∙ lengths_noted out₀ lengths₀ (record { closed = ds; filling = d }) k
            out lengths w;
        number = rw (length-map, length-append) (omega (arith, c.number, w.count, w.at));
      }

  pub finishes_output : (p : Packing) → Packs out₀ lengths₀ p k out lengths
      → Output (bytes_of_datagrams (datagrams_of p.closed p.filling)) out₀ lengths₀ count out lengths'
  finishes_output p w = go p.closed p.filling w
    where
      go : (ds : List (List Segment)) (d : List Segment) → Packs out₀ lengths₀ (record { closed = ds; filling = d }) k out lengths
          → Output (bytes_of_datagrams (datagrams_of ds d)) out₀ lengths₀ count out lengths'
      go ds [] v = finishes_empty ds v
      go ds (g ∷ gs) v = finishes_last ds (g ∷ gs) (some_bytes g gs) v
