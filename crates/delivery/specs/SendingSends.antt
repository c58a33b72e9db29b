-- Sending leaves the sending half in order: the last queued segment is filled in its slot (stream mode), and the new segments stand in
-- free slots, behind those queued.
-- Assumes nothing.
use Rattle.std.specs.Prelude.{◌≡◌, true, false, List, ◌++◌, map, ℕ, ◌-◌, ◌*◌, ◌≤◌, ◌<◌, length}
use Rattle.std.proofs.Common.{sym, ap, ◌∙◌, append_assoc, arith, ltb-false}
use Rattle.protocol.specs.Protocol.{fragment_most, fragments_most, send_slots}
use Rattle.protocol.specs.Ranges.{mss, is_stream}
use Rattle.protocol.specs.declared.Settings.{Settings}
use Rattle.lists.specs.declared.Held.{Held}
use Rattle.lists.specs.declared.Sent.{Sent}
use Rattle.session.specs.Slots.{occurs}
use Rattle.session.specs.State.{Sending, send_held, slots, with_queue}
use Rattle.session.specs.Cutting.{segment_count}
use Rattle.session.specs.Sending.{Placed, Filled}
use Rattle.session.specs.AllLaws.{all_append, all_left, all_right, all_weaker}
use Rattle.session.specs.MapLaws.{map-append}
use Rattle.delivery.specs.CallCases.{filling, cutting, placing, Short, Room}
use Rattle.delivery.specs.FreeSlots.{distinct_append, distinct_right}
use Rattle.delivery.specs.SendPool.{PlacedWell, placed_well, length_cut_as, cut_as_short, segments_most}
use Rattle.delivery.specs.SendingHalf.{HeldWell, Half}
use Rattle.delivery.specs.Filling.{FilledWell, filled_well}

-- ---- sending

-- held segments, and others in slots of their own
held_append : (m : ℕ) (l r : List Held) →
    HeldWell m l →
    HeldWell m r →
    ((n : ℕ) → occurs n (slots r) ≡ true → occurs n (slots l) ≡ false) →
    HeldWell m (l ++ r)
held_append m l r a b apart = record {
  lengths = all_append (λ (h : Held). h.len ≤ m) l r a.lengths b.lengths;
  fragments = all_append (λ (h : Held). h.fragment ≤ fragment_most) l r a.fragments b.fragments;
  low = all_append (λ (h : Held). h.slot < send_slots) l r a.low b.low;
  distinct = rw (map-append (λ (h : Held). h.slot) l r) (distinct_append (slots l) (slots r) a.distinct b.distinct apart);
}

module _ (c : Settings) (s : Sending) (pool message : List ℕ) (h : Half c s) (enough : send_slots * mss c ≤ length pool)
    (room : Room c s pool message) where
  abbrev f : Filled
  f = filling c s pool message

  abbrev cuts : List (List ℕ)
  cuts = cutting c s pool message

  abbrev placed : Placed
  placed = placing c s pool message

  abbrev out : List Held
  out = map (λ (x : Sent). x.held) s.outstanding

  queued_well : HeldWell (mss c) s.queued
  queued_well = record {
    lengths = all_right (λ (x : Held). x.len ≤ mss c) out s.queued h.held.lengths;
    fragments = all_right (λ (x : Held). x.fragment ≤ fragment_most) out s.queued h.held.fragments;
    low = all_right (λ (x : Held). x.slot < send_slots) out s.queued h.held.low;
    distinct = distinct_right (slots out) (slots s.queued)
        (rw (map-append (λ (x : Held). x.slot) out s.queued) at h.held.distinct);
  }

  pub send_filled : FilledWell (mss c) pool s.queued message f
  send_filled = filled_well (is_stream c) (mss c) pool s.queued message queued_well enough

  -- the same slots are used
  pub filled_slots : slots (send_held (with_queue s f.queued)) ≡ slots (send_held s)
  filled_slots =
      map-append (λ (x : Held). x.slot) out f.queued
      ∙ ap (λ (l : List ℕ). slots out ++ l) send_filled.slots_same
      ∙ sym (map-append (λ (x : Held). x.slot) out s.queued)

  -- the new segments have slots
  pub send_placed : PlacedWell (is_stream c) (mss c) (slots (send_held s)) f.pool cuts placed
  send_placed =
      placed_well (is_stream c) (mss c) cuts (slots (send_held s)) f.pool (cut_as_short (is_stream c) (mss c) f.rest)
      (omega (
        arith,
        length_cut_as (is_stream c) (mss c) f.rest,
        ltb-false (send_slots - length (slots (send_held s))) (segment_count (is_stream c) (mss c) (length f.rest)) room,
      ))
      (rw send_filled.long enough)

  few : 0 < mss c → Short c s pool message → length cuts ≤ fragments_most
  few some short =
      rw (length_cut_as (is_stream c) (mss c) f.rest)
      (segments_most (is_stream c) (mss c) (length f.rest) some (ltb-false (fragments_most * mss c) (length f.rest) short))

  old : HeldWell (mss c) (send_held (with_queue s f.queued))
  old = record {
    lengths = all_append (λ (x : Held). x.len ≤ mss c) out f.queued
        (all_left (λ (x : Held). x.len ≤ mss c) out s.queued h.held.lengths) send_filled.lengths;
    fragments = all_append (λ (x : Held). x.fragment ≤ fragment_most) out f.queued
        (all_left (λ (x : Held). x.fragment ≤ fragment_most) out s.queued h.held.fragments) send_filled.fragments;
    low = all_append (λ (x : Held). x.slot < send_slots) out f.queued
        (all_left (λ (x : Held). x.slot < send_slots) out s.queued h.held.low) send_filled.low;
    distinct = rw filled_slots h.held.distinct;
  }

  new : length cuts ≤ fragments_most → HeldWell (mss c) placed.segments
  new most = record {
    lengths = send_placed.lengths;
    fragments = all_weaker (λ (x : Held). x.fragment < length cuts) (λ (x : Held). x.fragment ≤ fragment_most)
        (λ x k. omega (arith, most)) placed.segments send_placed.fragments;
    low = send_placed.low;
    distinct = send_placed.distinct;
  }

  pub half_send : 0 < mss c → Short c s pool message → Half c (with_queue s (f.queued ++ placed.segments))
  half_send some short = record {
    held = rw (← append_assoc out f.queued placed.segments)
        (held_append (mss c) (send_held (with_queue s f.queued)) placed.segments old (new (few some short))
        (λ n e. rw filled_slots (send_placed.apart n e)));
    numbers = h.numbers;
    sent = h.sent;
    round_trip = h.round_trip;
    una = h.una;
    next = h.next;
    window = h.window;
  }
