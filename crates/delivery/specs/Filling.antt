-- Filling the last queued segment in stream mode: it stays in its slot, every other slot keeps its bytes, and the queued payloads joined,
-- with what is left to cut, are those before with the bytes sent. A proof layer: no contract cites it.
-- Assumes nothing.
use Rattle.std.specs.Prelude.{◌≡◌, refl, Bool, false, List, [], ◌∷◌, ◌++◌, map, ℕ, ◌+◌, ◌-◌, ◌*◌, ◌≤◌, ◌<◌, min, length, take, drop}
use Rattle.std.proofs.Common.{sym, ap, ap₂, ◌∙◌, subst, append_assoc, append-nil, mul-le-mul_right, arith, length-take, length-drop, take-append-drop}
use Rattle.std.proofs.lemmas.List.Edits.{sets}
use Rattle.std.proofs.Math.Seq.{length-sets}
use Rattle.protocol.specs.Protocol.{fragment_most, send_slots}
use Rattle.lists.specs.declared.Held.{Held}
use Rattle.session.specs.Slots.{occurs}
use Rattle.session.specs.State.{slots}
use Rattle.session.specs.Sending.{Filled, lengthened, filled}
use Rattle.session.specs.FillLaws.{filled_cases}
use Rattle.session.specs.Decides.{All}
use Rattle.session.specs.AllLaws.{all_append, all_left, all_right}
use Rattle.session.specs.Once.{Distinct}
use Rattle.delivery.specs.Pieces.{Piece}
use Rattle.session.specs.MapLaws.{map-append}
use Rattle.delivery.specs.FreeSlots.{not_first, not_later}
use Rattle.delivery.specs.SlotBytes.{other_part, behind}
use Rattle.delivery.specs.SendPool.{piece_in}
use Rattle.delivery.specs.SendingHalf.{HeldWell}
use Rattle.delivery.specs.ReceiverModel.{joined}

-- ---- payloads joined

pub joined_append : (a b : List Piece) → joined (a ++ b) ≡ joined a ++ joined b
unfolding joined
joined_append [] b = refl
joined_append (q ∷ a) b = rw (joined_append a b) (sym (append_assoc q.payload (joined a) (joined b)))

joined_one : (a : List Piece) (q : Piece) → joined (a ++ (q ∷ [])) ≡ joined a ++ q.payload
unfolding joined
joined_one a q = joined_append a (q ∷ []) ∙ ap (λ (l : List ℕ). joined a ++ l) (append-nil q.payload)

-- a segment of stream mode: its fragment number is 0, and its payload is at most mss long
pub record Single (m : ℕ) (q : Piece) : Type 0 where
  pub fragment : q.fragment ≡ 0
  pub short : length q.payload ≤ m

-- ---- what filling leaves

pub record FilledWell (m : ℕ) (pool : List ℕ) (q : List Held) (b : List ℕ) (f : Filled) : Type 0 where
  pub slots_same : slots f.queued ≡ slots q
  pub lengths : All (λ (h : Held). h.len ≤ m) f.queued
  pub fragments : All (λ (h : Held). h.fragment ≤ fragment_most) f.queued
  pub low : All (λ (h : Held). h.slot < send_slots) f.queued
  -- slots of others keep their bytes
  pub others : (slot n : ℕ) → occurs slot (slots q) ≡ false → n ≤ m → take n (drop (slot * m) f.pool) ≡ take n (drop (slot * m) pool)
  pub bytes : joined (map (piece_in m f.pool) f.queued) ++ f.rest ≡ joined (map (piece_in m pool) q) ++ b
  pub singles : All (Single m) (map (piece_in m pool) q) → All (Single m) (map (piece_in m f.pool) f.queued)
  pub long : length f.pool ≡ length pool

same_filled : (m : ℕ) (pool : List ℕ) (q : List Held) (b : List ℕ) → HeldWell m q →
    FilledWell m pool q b (record { queued = q; pool = pool; rest = b })
same_filled m pool q b w = record {
  slots_same = refl;
  lengths = w.lengths;
  fragments = w.fragments;
  low = w.low;
  others = λ slot n e k. refl;
  bytes = refl;
  singles = λ a. a;
  long = refl;
}

-- a slot that none of these has is not the last one's
not_last : (n : ℕ) (l : List Held) (x : Held) → occurs n (slots (l ++ (x ∷ []))) ≡ false → n ≡ x.slot → ⊥
not_last n [] x e = not_first n x.slot [] e
not_last n (k ∷ l) x e = not_last n l x (not_later n k.slot (slots (l ++ (x ∷ []))) e)

all_apart : (l : List Held) (x : Held) → Distinct (slots (l ++ (x ∷ []))) → All (λ (h : Held). h.slot ≡ x.slot → ⊥) l
all_apart [] x d = tt
all_apart (h ∷ l) x d = (not_last h.slot l x d.0, all_apart l x d.1)

module _ (m : ℕ) (pool : List ℕ) (front : List Held) (x : Held) (b : List ℕ) (w : HeldWell m (front ++ (x ∷ [])))
    (enough : send_slots * m ≤ length pool) where
  abbrev n : ℕ
  n = min (length b) (m - x.len)

  abbrev fill : List ℕ
  fill = take (min (length b) (m - x.len)) b

  abbrev longer : Held
  longer = record { slot = x.slot; len = x.len + min (length b) (m - x.len); fragment = 0 }

  abbrev pool' : List ℕ
  pool' = sets pool (x.slot * m + x.len) (take (min (length b) (m - x.len)) b)

  count : length fill ≡ n
  count = simp length-take (omega arith)

  last_short : x.len ≤ m
  last_short = (all_right (λ (h : Held). h.len ≤ m) front (x ∷ []) w.lengths).0

  last_low : x.slot < send_slots
  last_low = (all_right (λ (h : Held). h.slot < send_slots) front (x ∷ []) w.low).0

  inside : x.slot * m + x.len + length fill ≤ length pool
  inside = omega (arith, count, last_short, mul-le-mul_right m last_low)

  apart : All (λ (h : Held). h.slot ≡ x.slot → ⊥) front
  apart = all_apart front x w.distinct

  same_front : (l : List Held) → All (λ (h : Held). h.len ≤ m) l → All (λ (h : Held). h.slot ≡ x.slot → ⊥) l →
      map (piece_in m pool') l ≡ map (piece_in m pool) l
  same_front [] a d = refl
  same_front (h ∷ l) a d =
      ap₂ {C = List Piece} (λ (p : List ℕ) (r : List Piece). record { fragment = h.fragment; payload = p } ∷ r)
      (other_part m pool fill x.slot x.len h.slot h.len inside (omega (arith, count, last_short)) a.0 d.0)
      (same_front l a.1 d.1)

  -- the payload of the last one is longer by what was filled
  payload : (piece_in m pool' longer).payload ≡ (piece_in m pool x).payload ++ fill
  payload = rw count at (behind pool fill (x.slot * m) x.len inside)

  pieces' : map (piece_in m pool') (front ++ (longer ∷ [])) ≡ map (piece_in m pool) front ++ (piece_in m pool' longer ∷ [])
  pieces' =
      map-append (piece_in m pool') front (longer ∷ [])
      ∙ ap (λ (l : List Piece). l ++ (piece_in m pool' longer ∷ []))
      (same_front front (all_left (λ (h : Held). h.len ≤ m) front (x ∷ []) w.lengths) apart)

  pieces : map (piece_in m pool) (front ++ (x ∷ [])) ≡ map (piece_in m pool) front ++ (piece_in m pool x ∷ [])
  pieces = map-append (piece_in m pool) front (x ∷ [])

  joined_filled : joined (map (piece_in m pool') (front ++ (longer ∷ []))) ++ drop n b ≡ joined (map (piece_in m pool) (front ++ (x ∷ [])))
      ++ b
  joined_filled =
      let F : List ℕ = joined (map (piece_in m pool) front) in
      let P : List ℕ = (piece_in m pool x).payload in
      ap (λ (l : List ℕ). l ++ drop n b)
      (ap joined pieces' ∙ joined_one (map (piece_in m pool) front) (piece_in m pool' longer) ∙ ap (λ (l : List ℕ). F ++ l) payload
      ∙ sym (append_assoc F P fill))
      ∙ append_assoc (F ++ P) fill (drop n b)
      ∙ ap (λ (l : List ℕ). (F ++ P) ++ l) (take-append-drop n b)
      ∙ ap (λ (l : List ℕ). l ++ b) (sym (ap joined pieces ∙ joined_one (map (piece_in m pool) front) (piece_in m pool x)))

  single_filled : All (Single m) (map (piece_in m pool) (front ++ (x ∷ []))) →
      All (Single m) (map (piece_in m pool') (front ++ (longer ∷ [])))
  single_filled a =
      rw pieces'
      (all_append (Single m) (map (piece_in m pool) front) (piece_in m pool' longer ∷ [])
      (all_left (Single m) (map (piece_in m pool) front) (piece_in m pool x ∷ []) (rw pieces at a))
      (record { fragment = refl; short = simp length-take (omega (arith, last_short)) }, tt))

  fill_one : FilledWell m pool (front ++ (x ∷ [])) b (record { queued = front ++ (longer ∷ []); pool = pool'; rest = drop n b })
  fill_one = record {
    slots_same = map-append (λ (h : Held). h.slot) front (longer ∷ []) ∙ sym (map-append (λ (h : Held). h.slot) front (x ∷ []));
    lengths = all_append (λ (h : Held). h.len ≤ m) front (longer ∷ []) (all_left (λ (h : Held). h.len ≤ m) front (x ∷ []) w.lengths)
        (omega (arith, last_short), tt);
    fragments = all_append (λ (h : Held). h.fragment ≤ fragment_most) front (longer ∷ [])
        (all_left (λ (h : Held). h.fragment ≤ fragment_most) front (x ∷ []) w.fragments) (omega arith, tt);
    low = all_append (λ (h : Held). h.slot < send_slots) front (longer ∷ [])
        (all_left (λ (h : Held). h.slot < send_slots) front (x ∷ []) w.low) (last_low, tt);
    others = λ slot k e few. other_part m pool fill x.slot x.len slot k inside (omega (arith, count, last_short)) few
        (not_last slot front x e);
    bytes = joined_filled;
    singles = single_filled;
    long = length-sets pool (x.slot * m + x.len) fill;
  }

-- in both modes
pub filled_well : (stream : Bool) (m : ℕ) (pool : List ℕ) (q : List Held) (b : List ℕ) → HeldWell m q → send_slots * m ≤ length pool →
    FilledWell m pool q b (filled stream m q pool b)
filled_well stream m pool q b w enough =
    filled_cases m q pool b (FilledWell m pool q b) (same_filled m pool q b w) (λ x l e. last x l e) stream
  where
    last : (x : Held) (l : List Held) → drop (length q - 1) q ≡ x ∷ l →
        FilledWell m pool q b
        (lengthened m q x l (min (length b) (m - x.len)) pool b)
    last x (y ∷ l) e = absurd (omega (arith, ap length e, length-drop (length q - 1) q))
    last x [] e =
        subst
        (λ (l : List Held).
        FilledWell m pool l b
        (lengthened m q x [] (min (length b) (m - x.len)) pool b))
        whole
        (fill_one m pool (take (length q - 1) q) x b (rw whole w) enough)
      where
        whole : take (length q - 1) q ++ (x ∷ []) ≡ q
        whole = ap (λ (l : List Held). take (length q - 1) q ++ l) (sym e) ∙ take-append-drop (length q - 1) q
