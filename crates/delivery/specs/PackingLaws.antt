-- Packing segments into datagrams: none is lost, changed or moved, no datagram is empty or longer than mtu.
-- Assumes nothing.
use Rattle.std.specs.Prelude.{◌≡◌, refl, Bool, true, false, cond, leb, length}
use Rattle.std.proofs.Common.{sym, ap, ◌∙◌, arith, leb-true, leb-false, length-append}
use mathlib.Core.List.{List, [], ◌∷◌, ◌++◌, map, foldl, flatten, append_assoc, append-nil}
use Prim.Native.Nat.{ℕ, ◌+◌, ◌≤◌, ◌<◌, zero-le}
use Rattle.wire.specs.HeaderLaws.{length_encode}
use Rattle.datagram.specs.Datagrams.{Segment}
use Rattle.datagram.specs.Joined.{bytes, joined}
use Rattle.session.specs.Flushing.{bytes_of_segment, bytes_of_segments, Packing, pack_one, datagrams_of, packed}
use Rattle.session.specs.Decides.{All}
use Rattle.session.specs.AllLaws.{all_append, all_left, all_right}

-- ---- bytes of segments

pub length_segment : (g : Segment) → length (bytes_of_segment g) ≡ 24 + length g.payload
length_segment g = simp (length-append, length_encode)

-- they are joined as crate `datagram` has it
pub bytes_joined : (gs : List Segment) → bytes_of_segments gs ≡ joined gs
unfolding bytes_of_segments joined bytes
bytes_joined [] = refl
bytes_joined (g ∷ gs) = rw (bytes_joined gs)

pub length_bytes_append : (a b : List Segment) → length (bytes_of_segments (a ++ b)) ≡ length (bytes_of_segments a) + length (bytes_of_segments b)
unfolding bytes_of_segments
length_bytes_append [] b = omega arith
length_bytes_append (g ∷ a) b =
    rw (
      length-append (bytes_of_segment g) (bytes_of_segments (a ++ b)),
      length-append (bytes_of_segment g) (bytes_of_segments a),
      length_bytes_append a b,
    ) (omega arith)

length_one : (g : Segment) → length (bytes_of_segments (g ∷ [])) ≡ length (bytes_of_segment g)
unfolding bytes_of_segments
length_one g = ap length (append-nil (bytes_of_segment g))

length_none : length (bytes_of_segments []) ≡ 0
unfolding bytes_of_segments
length_none = refl

-- ---- one more segment

-- what holds of both packings holds of the next one, by the test on the length
packed_one : (P : Packing → Type 0) (mtu : ℕ) (p : Packing) (g : Segment) →
    (length (bytes_of_segments p.filling) + length (bytes_of_segment g) ≤ mtu
    → P (record { closed = p.closed; filling = p.filling ++ (g ∷ []) })) →
    (mtu < length (bytes_of_segments p.filling) + length (bytes_of_segment g)
    → P (record { closed = p.closed ++ (p.filling ∷ []); filling = g ∷ [] })) →
    P (pack_one mtu p g)
unfolding pack_one
packed_one P mtu p g same next = go (leb total mtu) refl
  where
    total : ℕ
    total = length (bytes_of_segments p.filling) + length (bytes_of_segment g)

    go : (b : Bool) →
        leb total mtu ≡ b →
        P (cond b (record { closed = p.closed; filling = p.filling ++ (g ∷ []) })
        (record { closed = p.closed ++ (p.filling ∷ []); filling = g ∷ [] }))
    go true e = same (leb-true total mtu e)
    go false e = next (leb-false total mtu e)

-- ---- nothing is lost, changed or moved

pub flatten_append : {A : Type 0} (a b : List (List A)) → flatten (a ++ b) ≡ flatten a ++ flatten b
unfolding flatten
flatten_append [] b = refl
flatten_append (x ∷ a) b = rw (flatten_append a b) (sym (append_assoc x (flatten a) (flatten b)))

-- the segments of a packing
abbrev segments_in : Packing → List Segment
segments_in p = flatten p.closed ++ p.filling

one_in : (mtu : ℕ) (p : Packing) (g : Segment) → segments_in (pack_one mtu p g) ≡ segments_in p ++ (g ∷ [])
unfolding flatten
one_in mtu p g =
    packed_one (λ (q : Packing). segments_in q ≡ segments_in p ++ (g ∷ [])) mtu p g
    (λ h. sym (append_assoc (flatten p.closed) p.filling (g ∷ [])))
    (λ h. ap (λ (l : List Segment). l ++ (g ∷ []))
    (flatten_append p.closed (p.filling ∷ []) ∙ ap (λ (l : List Segment). flatten p.closed ++ l) (append-nil p.filling)))

all_in : (mtu : ℕ) (gs : List Segment) (p : Packing) → segments_in (foldl (pack_one mtu) p gs) ≡ segments_in p ++ gs
all_in mtu [] p = sym (append-nil (segments_in p))
all_in mtu (g ∷ gs) p = all_in mtu gs (pack_one mtu p g) ∙ ap (λ (l : List Segment). l ++ gs) (one_in mtu p g) ∙ append_assoc (segments_in p)
    (g ∷ []) gs

closed_in : (closed : List (List Segment)) (filling : List Segment) → flatten (datagrams_of closed filling) ≡ flatten closed ++ filling
unfolding flatten
closed_in closed [] = sym (append-nil (flatten closed))
closed_in closed (g ∷ gs) = flatten_append closed ((g ∷ gs) ∷ []) ∙ ap (λ (l : List Segment). flatten closed ++ l) (append-nil (g ∷ gs))

pub packed_flat : (mtu : ℕ) (gs : List Segment) → flatten (packed mtu gs) ≡ gs
unfolding packed flatten
packed_flat mtu gs =
    let p : Packing = foldl (pack_one mtu) (record { closed = []; filling = [] }) gs in
    closed_in p.closed p.filling ∙ all_in mtu gs (record { closed = []; filling = [] })

-- ---- each datagram

-- a datagram of one segment or more, of each of which P holds, and of at most mtu bytes
pub record Datagram (P : Segment → Type 0) (mtu : ℕ) (d : List Segment) : Type 0 where
  pub some : 0 < length d
  pub each : All P d
  pub fits : length (bytes_of_segments d) ≤ mtu

record Packs (P : Segment → Type 0) (mtu : ℕ) (p : Packing) : Type 0 where
  closed : All (Datagram P mtu) p.closed
  each : All P p.filling
  fits : length (bytes_of_segments p.filling) ≤ mtu

module _ (P : Segment → Type 0) (mtu : ℕ) where
  -- a segment that fits alone starts no new datagram in an empty one
  filled : (l : List Segment) (n : ℕ) → n ≤ mtu → mtu < length (bytes_of_segments l) + n → 0 < length l
  filled [] n h k = absurd (omega (arith, length_none))
  filled (g ∷ l) n h k = omega arith

  packs_one : (p : Packing) (g : Segment) → P g → length (bytes_of_segment g) ≤ mtu → Packs P mtu p → Packs P mtu (pack_one mtu p g)
  packs_one p g h k r =
      packed_one (Packs P mtu) mtu p g
      (λ fits. record {
        closed = r.closed;
        each = all_append P p.filling (g ∷ []) r.each (h, tt);
        fits = rw (length_bytes_append p.filling (g ∷ []), length_one g) fits;
      })
      (λ past. record {
        closed = all_append (Datagram P mtu) p.closed (p.filling ∷ []) r.closed
            (record { some = filled p.filling (length (bytes_of_segment g)) k past; each = r.each; fits = r.fits }, tt);
        each = (h, tt);
        fits = rw (length_one g) k;
      })

  packs_all : (gs : List Segment) (p : Packing) →
      All P gs →
      All (λ (g : Segment). length (bytes_of_segment g) ≤ mtu) gs →
      Packs P mtu p →
      Packs P mtu (foldl (pack_one mtu) p gs)
  packs_all [] p a b r = r
  packs_all (g ∷ gs) p a b r = packs_all gs (pack_one mtu p g) a.1 b.1 (packs_one p g a.0 b.0 r)

  each_datagram : (closed : List (List Segment)) (filling : List Segment) →
      All (Datagram P mtu) closed →
      All P filling →
      length (bytes_of_segments filling) ≤ mtu →
      All (Datagram P mtu) (datagrams_of closed filling)
  each_datagram closed [] a b h = a
  each_datagram closed (g ∷ gs) a b h =
      all_append (Datagram P mtu) closed ((g ∷ gs) ∷ []) a (record { some = omega arith; each = b; fits = h }, tt)

  pub packed_each : (gs : List Segment) → All P gs → All (λ (g : Segment). length (bytes_of_segment g) ≤ mtu) gs
      → All (Datagram P mtu) (packed mtu gs)
  unfolding packed
  packed_each gs a b =
      let r = packs_all gs (record { closed = []; filling = [] }) a b (record { closed = tt; each = tt; fits = rw length_none zero-le }) in
      each_datagram _ _ r.closed r.each r.fits

-- ---- how many, and how long

-- what holds of each segment of each datagram holds of all of them
pub each_flat : {A : Type 0} (P : A → Type 0) (ds : List (List A)) → All (All P) ds → All P (flatten ds)
unfolding flatten
each_flat P [] a = tt
each_flat P (d ∷ ds) a = all_append P d (flatten ds) a.0 (each_flat P ds a.1)

pub flat_each : {A : Type 0} (P : A → Type 0) (ds : List (List A)) → All P (flatten ds) → All (All P) ds
unfolding flatten
flat_each P [] a = tt
flat_each P (d ∷ ds) a = (all_left P d (flatten ds) a, flat_each P ds (all_right P d (flatten ds) a))

count_flat : (P : Segment → Type 0) (mtu : ℕ) (ds : List (List Segment)) → All (Datagram P mtu) ds → length ds ≤ length (flatten ds)
unfolding flatten
count_flat P mtu [] a = zero-le
count_flat P mtu (d ∷ ds) a = simp length-append (omega (arith, a.0.some, count_flat P mtu ds a.1))

-- there are no more datagrams than segments
pub packed_count : (P : Segment → Type 0) (mtu : ℕ) (gs : List Segment) → All (Datagram P mtu) (packed mtu gs)
    → length (packed mtu gs) ≤ length gs
packed_count P mtu gs a = omega (arith, count_flat P mtu (packed mtu gs) a, ap length (packed_flat mtu gs))

flat_bytes : (ds : List (List Segment)) → length (flatten (map bytes_of_segments ds)) ≡ length (bytes_of_segments (flatten ds))
unfolding flatten bytes_of_segments
flat_bytes [] = refl
flat_bytes (d ∷ ds) = rw (
  length-append (bytes_of_segments d) (flatten (map bytes_of_segments ds)),
  flat_bytes ds,
  length_bytes_append d (flatten ds),
)

-- all bytes of the datagrams are those of the segments
pub packed_bytes : (mtu : ℕ) (gs : List Segment) → length (flatten (map bytes_of_segments (packed mtu gs))) ≡ length (bytes_of_segments gs)
packed_bytes mtu gs = flat_bytes (packed mtu gs) ∙ ap (λ (l : List Segment). length (bytes_of_segments l)) (packed_flat mtu gs)
