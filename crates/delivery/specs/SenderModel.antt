-- What the sending half shows of the pieces numbered so far: snd_nxt is their count, each outstanding segment is the piece of its number.
-- A proof layer between the calls and what is numbered: no contract cites it.
-- Assumes nothing.
use Rattle.std.specs.Prelude.{◌≡◌, refl, Bool, cond, ◌&&◌, ℕ, zero, suc, ◌+◌, ◌*◌, ◌^◌, ◌≤◌, ◌<◌, eqb, length, take, drop}
use Rattle.std.proofs.Common.{sym, ap, ap₂, ◌∙◌, arith, length-append, length-take, drop_at}
use Rattle.std.proofs.Math.Bool.{true, false, not}
use mathlib.Core.List.{List, [], ◌∷◌, ◌++◌, map}
use Rattle.std.proofs.Math.Option.{some}
use Rattle.std.proofs.Math.ListN.{get_elem?}
use Rattle.std.proofs.lemmas.List.{length-map}
use Rattle.protocol.specs.Protocol.{ack, send_window, send_slots}
use Rattle.protocol.specs.Ranges.{mss, is_stream}
use Rattle.protocol.specs.Serial.{plus, is_before}
use Rattle.wire.specs.declared.Header.{Header}
use Rattle.protocol.specs.declared.Settings.{Settings}
use Rattle.datagram.specs.Datagrams.{Segment}
use Rattle.lists.specs.declared.Held.{Held}
use Rattle.lists.specs.declared.Sent.{Sent}
use Rattle.lists.specs.declared.Acknowledges.{Acknowledges}
use Rattle.lists.specs.declared.Acknowledges.TheVariants as by
use Rattle.lists.specs.Acknowledging as acknowledging
use Rattle.lists.specs.Acknowledging.{skip_before}
use Rattle.session.specs.Slots.{occurs}
use Rattle.session.specs.State.{Sending, send_held, slots, with_window, with_queue, with_outstanding}
use Rattle.session.specs.Sending.{Placed, Filled}
use Rattle.session.specs.Input.{acknowledged, sampled_by, heard_by_sending, all_by_sending, furthest, skipped, skipped_by_all}
use Rattle.session.specs.Flushing.{numbered, with_numbered}
use Rattle.session.specs.Decides.{All}
use Rattle.session.specs.AllLaws.{all_both, all_weaker, all_left, all_append, all_select}
use Rattle.session.specs.MapLaws.{map-append}
use Rattle.delivery.specs.Pieces.{Piece, fragmented}
use Rattle.delivery.specs.CallCases.{filling, cutting, placing, Room}
use Rattle.delivery.specs.FreeSlots.{occurs_first, occurs_later, occurs_left, occurs_right, distinct_apart}
use Rattle.delivery.specs.SendPool.{piece_in, PlacedWell}
use Rattle.delivery.specs.SendingHalf.{Half}
use Rattle.delivery.specs.Filling.{FilledWell}
use Rattle.delivery.specs.SendingTakesIn.{skip_held, skip_number}
use Rattle.delivery.specs.SendingSends.{send_filled, send_placed}
use Rattle.delivery.specs.SendingFlushes.{flushed_with}

-- ---- entries of lists

-- what stands at n, and behind it
pub drop_head : {A : Type 0} (l : List A) (n : ℕ) (a : A) (r : List A) → drop n l ≡ a ∷ r → (get_elem? l n ≡ some a) × (drop (suc n) l ≡ r)
drop_head [] zero a r e = absurd (let z : ◌≡◌ {A = ℕ} 0 1 = cc in omega arith)
drop_head [] (suc n) a r e = absurd (let z : ◌≡◌ {A = ℕ} 0 1 = cc in omega arith)
drop_head (x ∷ l) zero a r e = (cc, cc)
drop_head (x ∷ l) (suc n) a r e = drop_head l n a r e

pub get_append : {A : Type 0} (l r : List A) (n : ℕ) (a : A) → get_elem? l n ≡ some a → get_elem? (l ++ r) n ≡ some a
get_append [] r n a e = absurd (let z : ◌≡◌ {A = ℕ} 0 1 = cc in omega arith)
get_append (x ∷ l) r zero a e = e
get_append (x ∷ l) r (suc n) a e = get_append l r n a e

map_same : {A B : Type 0} (f g : A → B) (l : List A) → All (λ (x : A). f x ≡ g x) l → map f l ≡ map g l
map_same f g [] a = refl
map_same {B = B} f g (x ∷ l) a = ap₂ {C = List B} (λ (y : B) (r : List B). y ∷ r) a.0 (map_same f g l a.1)

-- ---- what a half shows

-- an outstanding segment is the piece of its number, which is below 2^30
pub record Shows (m : ℕ) (pool : List ℕ) (pieces : List Piece) (x : Sent) : Type 0 where
  pub its_piece : get_elem? pieces x.record.number ≡ some (piece_in m pool x.held)
  pub small : x.record.number < 2 ^ 30

-- with the pieces numbered so far
pub record Sends (m : ℕ) (pool : List ℕ) (pieces : List Piece) (s : Sending) : Type 0 where
  pub low : s.next ≤ 2 ^ 30
  pub counts : s.next ≡ length pieces
  pub sent : All (Shows m pool pieces) s.outstanding

-- ---- taking in changes neither the queue nor any segment

module _ (P : Sent → Type 0) (skips : (n : ℕ) (x : Sent) → P x → P (skip_before n x)) where
  record Preserves (s s' : Sending) : Type 0 where
    next : s'.next ≡ s.next
    queued : s'.queued ≡ s.queued
    sent : All P s.outstanding → All P s'.outstanding

  both : (s s' s'' : Sending) → Preserves s s' → Preserves s' s'' → Preserves s s''
  both s s' s'' a b = record { next = b.next ∙ a.next; queued = b.queued ∙ a.queued; sent = λ h. b.sent (a.sent h) }

  preserves_acknowledged : (arrival : Acknowledges) (s : Sending) → Preserves s (acknowledged arrival s)
  unfolding acknowledged
  preserves_acknowledged arrival s =
      record {
        next = refl;
        queued = refl;
        sent = all_select (λ (x : Sent). not (acknowledging.acknowledged s.next arrival x.record.number)) P s.outstanding;
      }

  preserves_sampled : (c : Settings) (current ts : ℕ) (s : Sending) → Preserves s (sampled_by c current ts s)
  unfolding sampled_by
  preserves_sampled c current ts s = record { next = refl; queued = refl; sent = λ h. h }

  preserves_heard : (c : Settings) (current : ℕ) (s : Sending) (g : Header) → Preserves s (heard_by_sending c current s g)
  unfolding heard_by_sending
  preserves_heard c current s g = go (eqb g.cmd ack)
    where
      passed : Sending
      passed = acknowledged (by.Una g.una) (with_window g.wnd s)

      first : Preserves s passed
      first = both s (with_window g.wnd s) passed (record { next = refl; queued = refl; sent = λ h. h })
          (preserves_acknowledged (by.Una g.una) (with_window g.wnd s))

      go : (b : Bool) → Preserves s (cond b (acknowledged (by.Ack g.sn) (sampled_by c current g.ts passed)) passed)
      go true =
          both s (sampled_by c current g.ts passed) (acknowledged (by.Ack g.sn) (sampled_by c current g.ts passed))
          (both s passed (sampled_by c current g.ts passed) first (preserves_sampled c current g.ts passed))
          (preserves_acknowledged (by.Ack g.sn) (sampled_by c current g.ts passed))
      go false = first

  preserves_all : (c : Settings) (current : ℕ) (s : Sending) (gs : List Segment) → Preserves s (all_by_sending c current s gs)
  unfolding all_by_sending
  preserves_all c current s [] = record { next = refl; queued = refl; sent = λ h. h }
  preserves_all c current s (g ∷ gs) =
      both s (heard_by_sending c current s g.header) (all_by_sending c current (heard_by_sending c current s g.header) gs)
      (preserves_heard c current s g.header)
      (preserves_all c current (heard_by_sending c current s g.header) gs)

  all_skip : (n : ℕ) (l : List Sent) → All P l → All P (map (skip_before n) l)
  all_skip n [] a = tt
  all_skip n (x ∷ l) a = (skips n x a.0, all_skip n l a.1)

  preserves_skipped : (s : Sending) (n : ℕ) → Preserves s (skipped s n)
  unfolding skipped
  preserves_skipped s n = go (not (is_before n s.una) && is_before n s.next)
    where
      go : (b : Bool) →
          Preserves s (cond b (with_outstanding s s.una (map (skip_before n) s.outstanding)) s)
      go true = record { next = refl; queued = refl; sent = all_skip n s.outstanding }
      go false = record { next = refl; queued = refl; sent = λ h. h }

  preserves_skips : (s : Sending) (l : List ℕ) → Preserves s (skipped_by_all s l)
  preserves_skips s [] = record { next = refl; queued = refl; sent = λ h. h }
  preserves_skips s (n ∷ l) = preserves_skipped s (furthest n l)

  preserves_taken : (c : Settings) (current : ℕ) (s : Sending) (gs : List Segment) (l : List ℕ)
      → Preserves s (skipped_by_all (all_by_sending c current s gs) l)
  preserves_taken c current s gs l =
      both s (all_by_sending c current s gs) (skipped_by_all (all_by_sending c current s gs) l) (preserves_all c current s gs)
      (preserves_skips (all_by_sending c current s gs) l)

skip_shows : (m : ℕ) (pool : List ℕ) (pieces : List Piece) (n : ℕ) (x : Sent) → Shows m pool pieces x → Shows m pool pieces (skip_before n x)
skip_shows m pool pieces n x h =
    record { its_piece = rw (skip_number n x, skip_held n x) h.its_piece; small = rw (skip_number n x) h.small }

pub sends_taken : (m : ℕ) (pool : List ℕ) (pieces : List Piece) (c : Settings) (current : ℕ) (s : Sending) (gs : List Segment) (l : List ℕ)
    →
    Sends m pool pieces s →
    Sends m pool pieces (skipped_by_all (all_by_sending c current s gs) l)
sends_taken m pool pieces c current s gs l h =
    let k = preserves_taken (Shows m pool pieces) (skip_shows m pool pieces) c current s gs l in
    record { low = rw k.next h.low; counts = rw k.next h.counts; sent = k.sent h.sent }

-- taking in preserves snd_nxt and the queue
pub taken_same : (c : Settings) (current : ℕ) (s : Sending) (gs : List Segment) (l : List ℕ) →
    ((skipped_by_all (all_by_sending c current s gs) l).next ≡ s.next) × ((skipped_by_all (all_by_sending c current s gs) l).queued ≡ s.queued)
taken_same c current s gs l = let k = preserves_taken (λ (x : Sent). Unit {0}) (λ n x h. h) c current s gs l in (k.next, k.queued)

-- ---- sending

-- segments in used slots show the same in a pool where those slots are as they were
old_pieces : (m : ℕ) (used pool pool' : List ℕ) →
    ((slot n : ℕ) → occurs slot used ≡ true → n ≤ m → take n (drop (slot * m) pool') ≡ take n (drop (slot * m) pool)) →
    (l : List Held) →
    All (λ (h : Held). h.len ≤ m) l →
    ((slot : ℕ) → occurs slot (slots l) ≡ true → occurs slot used ≡ true) →
    All (λ (h : Held). piece_in m pool' h ≡ piece_in m pool h) l
old_pieces m used pool pool' same [] a i = tt
old_pieces m used pool pool' same (h ∷ l) a i = (
  ap (λ (b : List ℕ). record { fragment = h.fragment; payload = b })
      (same h.slot h.len (i h.slot (occurs_first h.slot (slots l))) a.0),
  old_pieces m used pool pool' same l a.1 (λ s e. i s (occurs_later s h.slot (slots l) e)),
)

shows_in : (m : ℕ) (pool pool' : List ℕ) (pieces : List Piece) (l : List Sent) →
    All (λ (h : Held). piece_in m pool' h ≡ piece_in m pool h) (map (λ (x : Sent). x.held) l) →
    All (Shows m pool pieces) l →
    All (Shows m pool' pieces) l
shows_in m pool pool' pieces [] e a = tt
shows_in m pool pool' pieces (x ∷ l) e a = (
  record { its_piece = a.0.its_piece ∙ ap some (sym e.0); small = a.0.small },
  shows_in m pool pool' pieces l e.1 a.1,
)

-- more pieces are numbered
shows_more : (m : ℕ) (pool : List ℕ) (pieces more : List Piece) (l : List Sent) → All (Shows m pool pieces) l →
    All (Shows m pool (pieces ++ more)) l
shows_more m pool pieces more [] a = tt
shows_more m pool pieces more (x ∷ l) a = (
  record { its_piece = get_append pieces more x.record.number (piece_in m pool x.held) a.0.its_piece; small = a.0.small },
  shows_more m pool pieces more l a.1,
)

module _ (c : Settings) (s : Sending) (pool message : List ℕ) (h : Half c s) (enough : send_slots * mss c ≤ length pool)
    (room : Room c s pool message) where
  abbrev f : Filled
  f = filling c s pool message

  abbrev cuts : List (List ℕ)
  cuts = cutting c s pool message

  abbrev placed : Placed
  placed = placing c s pool message

  abbrev out : List Held
  out = map (λ (x : Sent). x.held) s.outstanding

  fills : FilledWell (mss c) pool s.queued message f
  fills = send_filled c s pool message h enough room

  places : PlacedWell (is_stream c) (mss c) (slots (send_held s)) f.pool cuts placed
  places = send_placed c s pool message h enough room

  held_slots_lem : slots (send_held s) ≡ slots out ++ slots s.queued
  held_slots_lem = map-append (λ (x : Held). x.slot) out s.queued

  -- outstanding segments show what they did
  same_sent : All (λ (x : Held). piece_in (mss c) placed.pool x ≡ piece_in (mss c) pool x) out
  same_sent =
      all_weaker (λ (x : Held). (piece_in (mss c) placed.pool x ≡ piece_in (mss c) f.pool x) ×
      (piece_in (mss c) f.pool x ≡ piece_in (mss c) pool x))
      (λ (x : Held). piece_in (mss c) placed.pool x ≡ piece_in (mss c) pool x)
      (λ x e. e.0 ∙ e.1)
      out
      (all_both (λ (x : Held). piece_in (mss c) placed.pool x ≡ piece_in (mss c) f.pool x)
      (λ (x : Held). piece_in (mss c) f.pool x ≡ piece_in (mss c) pool x) out
      (old_pieces (mss c) (slots (send_held s)) f.pool placed.pool places.old out lengths
      (λ n e. rw held_slots_lem (occurs_left n (slots out) (slots s.queued) e)))
      (old_pieces (mss c) (slots out) pool f.pool
      (λ n k e few. fills.others n k (distinct_apart (slots out) (slots s.queued) (rw held_slots_lem at h.held.distinct) n e) few)
      out lengths (λ n e. e)))
    where
      lengths : All (λ (x : Held). x.len ≤ mss c) out
      lengths = all_left (λ (x : Held). x.len ≤ mss c) out s.queued h.held.lengths

  -- the queue then: as filled, and the new segments behind it
  pub new_queue : map (piece_in (mss c) placed.pool) (f.queued ++ placed.segments) ≡ map (piece_in (mss c) f.pool) f.queued ++
      fragmented (is_stream c) cuts
  new_queue =
      map-append (piece_in (mss c) placed.pool) f.queued placed.segments
      ∙ ap₂ {C = List Piece} (λ (a b : List Piece). a ++ b)
      (map_same (piece_in (mss c) placed.pool) (piece_in (mss c) f.pool) f.queued
      (old_pieces (mss c) (slots (send_held s)) f.pool placed.pool places.old f.queued fills.lengths
      (λ n e. rw held_slots_lem (occurs_right n (slots out) (slots s.queued) (rw fills.slots_same at e)))))
      places.new

  pub sends_more : (pieces : List Piece) → Sends (mss c) pool pieces s →
      Sends (mss c) placed.pool pieces (with_queue s (f.queued ++ placed.segments))
  sends_more pieces m =
      record { low = m.low; counts = m.counts; sent = shows_in (mss c) pool placed.pool pieces s.outstanding same_sent m.sent }

-- ---- flushing

-- numbers from n on, that do not wrap
numbered_shows : (m : ℕ) (pool : List ℕ) (pieces : List Piece) (n : ℕ) (q : List Held) →
    n + length q ≤ 2 ^ 30 →
    drop n pieces ≡ map (piece_in m pool) q →
    All (Shows m pool pieces) (numbered n q)
unfolding numbered
numbered_shows m pool pieces n [] h e = tt
numbered_shows m pool pieces n (x ∷ q) h e =
    let d = drop_head pieces n (piece_in m pool x) (map (piece_in m pool) q) e in
    let w : plus n 1 ≡ suc n = omega arith in
    (record { its_piece = d.0; small = omega arith }, rw w (numbered_shows m pool pieces (suc n) q (omega arith) d.1))

-- where all numbers are below 2^30, so is their end
pub numbered_end : (n : ℕ) (q : List Held) →
    n ≤ 2 ^ 30 →
    length q ≤ send_window →
    All (λ (x : Sent). x.record.number < 2 ^ 30) (numbered n q) →
    n + length q ≤ 2 ^ 30
unfolding numbered
numbered_end n [] h k a = omega arith
numbered_end n (x ∷ q) h k a =
    let w : plus n 1 ≡ suc n = omega arith in
    let i = numbered_end (plus n 1) q (omega (arith, a.0)) (omega arith) a.1 in
    omega (arith, w, i)

module _ (m : ℕ) (pool : List ℕ) (pieces : List Piece) (c : Settings) (t k : ℕ) (s : Sending) (few : k ≤ length s.queued)
    (small : s.next + k ≤ 2 ^ 30) where
  count : length (take k s.queued) ≡ k
  count = simp length-take (omega arith)

  -- the pieces numbered then
  abbrev more : List Piece
  more = pieces ++ map (piece_in m pool) (take k s.queued)

  -- the outstanding segments and the newly numbered ones
  pub with_numbered_lem : Sends m pool pieces s → All (Shows m pool more) (with_numbered s k)
  unfolding with_numbered
  with_numbered_lem h =
      all_append (Shows m pool more) s.outstanding (numbered s.next (take k s.queued))
      (shows_more m pool pieces (map (piece_in m pool) (take k s.queued)) s.outstanding h.sent)
      (numbered_shows m pool more s.next (take k s.queued) (rw count small)
      (drop_at pieces (map (piece_in m pool) (take k s.queued)) s.next (sym h.counts)))

  pub sends_flushed : Sends m pool pieces s → All (Shows m pool more) (flushed_with c t k s).outstanding →
      Sends m pool more (flushed_with c t k s)
  sends_flushed h a = record {
    low = rw end small;
    counts = rw end (simp (length-append, length-map) (omega (arith, count, h.counts)));
    sent = a;
  }
    where
      end : plus s.next k ≡ s.next + k
      end = omega arith
