-- The sending half in order: valid, and its numbers in range, as proofs take it apart. A proof layer: no contract cites it.
-- Assumes nothing.
use Rattle.std.specs.Prelude.{◌≡◌, Bool, cond, ℕ, ◌^◌, ◌≤◌, ◌<◌}
use Rattle.std.proofs.Math.Bool.{true, false}
use mathlib.Core.List.{List, [], ◌∷◌, ◌++◌, map}
use Rattle.protocol.specs.Protocol.{fragment_most, send_slots, dead_after, skips_most}
use Rattle.protocol.specs.Ranges.{mss}
use Rattle.protocol.specs.Serial.{minus}
use Rattle.protocol.specs.declared.Settings.{Settings}
use Rattle.timing.specs.TimeRanges.{TimeoutInRange, RoundTripInRange, RecordInRange, RecordFits}
use Rattle.lists.specs.declared.Held.{Held}
use Rattle.lists.specs.declared.Sent.{Sent}
use Rattle.lists.specs.Orders.{sent_offset}
use Rattle.lists.specs.Acknowledging.{select}
use Rattle.session.specs.Slots.{occurs}
use Rattle.session.specs.State.{Sending, send_held, slots}
use Rattle.session.specs.Decides.{All}
use Rattle.session.specs.AllLaws.{all_left, all_right, all_append, all_mapped, all_unmapped, all_select}
use Rattle.session.specs.Once.{Distinct, distinct_once, once_distinct}
use Rattle.session.specs.Ascending.{ascends_ascending, ascending_ascends}
use Rattle.session.specs.SendingValid.{SendingIsValid}
use Rattle.delivery.specs.StateRange.{SendingFits}
use Rattle.delivery.specs.FreeSlots.{not_first, not_later, not_either}
use Rattle.session.specs.SendOrder.{Numbers, NumberFits}

-- held segments: their lengths, fragment numbers and slots
pub record HeldWell (m : ℕ) (l : List Held) : Type 0 where
  pub lengths : All (λ (h : Held). h.len ≤ m) l
  pub fragments : All (λ (h : Held). h.fragment ≤ fragment_most) l
  pub low : All (λ (h : Held). h.slot < send_slots) l
  pub distinct : Distinct (slots l)

-- an outstanding segment
pub record SentWell (mode : ℕ) (x : Sent) : Type 0 where
  pub transmissions : x.transmissions ≤ dead_after
  pub range : RecordInRange mode x.record
  pub fits : RecordFits x.record

pub record Half (c : Settings) (s : Sending) : Type 0 where
  pub held : HeldWell (mss c) (send_held s)
  pub numbers : Numbers s.una s.next s.outstanding
  pub sent : All (SentWell c.mode) s.outstanding
  pub round_trip : RoundTripInRange c.mode s.round_trip
  pub una : s.una < 2 ^ 32
  pub next : s.next < 2 ^ 32
  pub window : s.window < 2 ^ 16

-- ---- from the conditions and back

sent_of : (mode : ℕ) (l : List Sent) →
    All (λ (x : Sent). x.transmissions ≤ dead_after) l →
    All (λ (x : Sent). x.record.skips ≤ skips_most) l →
    All (λ (x : Sent). TimeoutInRange mode x.record.timeout) l →
    All (λ (x : Sent). RecordFits x.record) l →
    All (SentWell mode) l
sent_of mode [] a b d f = tt
sent_of mode (x ∷ l) a b d f = (
  record { transmissions = a.0; range = record { timeout = d.0; skips = b.0 }; fits = f.0 },
  sent_of mode l a.1 b.1 d.1 f.1,
)

pub half_of : (c : Settings) (s : Sending) → SendingIsValid c s → SendingFits s → Half c s
half_of c s v f = record {
  held = record {
    lengths = v.lengths;
    fragments = v.fragments;
    low = v.slots_below;
    distinct = once_distinct (slots (send_held s)) v.slots_once;
  };
  numbers = record {
    ascends = ascending_ascends (sent_offset s.una) (minus s.next s.una) s.outstanding v.ascending;
    apart = v.apart;
    first = v.first;
  };
  sent = sent_of c.mode s.outstanding v.transmissions v.skips v.timeouts f.records;
  round_trip = record { smoothed = v.smoothed; variation = v.variation; timeout = v.timeout };
  una = f.una;
  next = f.next;
  window = f.window;
}

-- what holds of each outstanding segment
pub each_sent : (mode : ℕ) (P : Sent → Type 0) → ((x : Sent) → SentWell mode x → P x) → (l : List Sent) → All (SentWell mode) l → All P l
each_sent mode P f [] a = tt
each_sent mode P f (x ∷ l) a = (f x a.0, each_sent mode P f l a.1)

pub half_valid : (c : Settings) (s : Sending) → Half c s → SendingIsValid c s
half_valid c s h = record {
  lengths = h.held.lengths;
  fragments = h.held.fragments;
  slots_below = h.held.low;
  slots_once = distinct_once (slots (send_held s)) h.held.distinct;
  ascending = ascends_ascending (sent_offset s.una) (minus s.next s.una) s.outstanding h.numbers.ascends;
  apart = h.numbers.apart;
  first = h.numbers.first;
  transmissions = each_sent c.mode (λ (x : Sent). x.transmissions ≤ dead_after) (λ x w. w.transmissions) s.outstanding h.sent;
  skips = each_sent c.mode (λ (x : Sent). x.record.skips ≤ skips_most) (λ x w. w.range.skips) s.outstanding h.sent;
  smoothed = h.round_trip.smoothed;
  variation = h.round_trip.variation;
  timeout = h.round_trip.timeout;
  timeouts = each_sent c.mode (λ (x : Sent). TimeoutInRange c.mode x.record.timeout) (λ x w. w.range.timeout) s.outstanding
      h.sent;
}

pub half_fits : (c : Settings) (s : Sending) → Half c s → SendingFits s
half_fits c s h = record {
  una = h.una;
  next = h.next;
  window = h.window;
  records = each_sent c.mode (λ (x : Sent). RecordFits x.record) (λ x w. w.fits) s.outstanding h.sent;
}

pub numbers_fit_lem : (mode : ℕ) (l : List Sent) → All (SentWell mode) l → All NumberFits l
numbers_fit_lem mode = each_sent mode NumberFits (λ x w. w.fits.number)

-- ---- some of the outstanding segments taken out

module _ (test : Sent → Bool) where
  abbrev held_with : List Sent → List Held → List Held
  held_with l q = map (λ (x : Sent). x.held) l ++ q

  all_held : (P : Held → Type 0) (l : List Sent) (q : List Held) → All P (held_with l q) → All P (held_with (select test l) q)
  all_held P l q a =
      all_append P (map (λ (x : Sent). x.held) (select test l)) q
      (all_mapped P (λ (x : Sent). x.held) (select test l)
      (all_select test (λ (x : Sent). P x.held) l
      (all_unmapped P (λ (x : Sent). x.held) l (all_left P (map (λ (x : Sent). x.held) l) q a))))
      (all_right P (map (λ (x : Sent). x.held) l) q a)

  not_occurs : (n : ℕ) (l : List Sent) (q : List Held) →
      occurs n (slots (held_with l q)) ≡ false →
      occurs n (slots (held_with (select test l) q)) ≡ false
  unfolding select
  not_occurs n [] q e = e
  not_occurs n (x ∷ l) q e = go (test x) (not_occurs n l q (not_later n x.held.slot (slots (held_with l q)) e))
    where
      go : (b : Bool) →
          occurs n (slots (held_with (select test l) q)) ≡ false →
          occurs n (slots (held_with (cond b (x ∷ select test l) (select test l)) q)) ≡ false
      go true i = not_either n x.held.slot (slots (held_with (select test l) q)) (not_first n x.held.slot (slots (held_with l q)) e) i
      go false i = i

  distinct_select : (l : List Sent) (q : List Held) → Distinct (slots (held_with l q)) → Distinct (slots (held_with (select test l) q))
  unfolding select
  distinct_select [] q d = d
  distinct_select (x ∷ l) q d = go (test x) (distinct_select l q d.1)
    where
      go : (b : Bool) → Distinct (slots (held_with (select test l) q))
          → Distinct (slots (held_with (cond b (x ∷ select test l) (select test l)) q))
      go true i = (not_occurs x.held.slot l q d.0, i)
      go false i = i

  pub held_select : (m : ℕ) (l : List Sent) (q : List Held) →
      HeldWell m (map (λ (x : Sent). x.held) l ++ q) →
      HeldWell m (map (λ (x : Sent). x.held) (select test l) ++ q)
  held_select m l q w = record {
    lengths = all_held (λ (h : Held). h.len ≤ m) l q w.lengths;
    fragments = all_held (λ (h : Held). h.fragment ≤ fragment_most) l q w.fragments;
    low = all_held (λ (h : Held). h.slot < send_slots) l q w.low;
    distinct = distinct_select l q w.distinct;
  }

-- ---- each outstanding segment changed

pub all_map : (P : Sent → Type 0) (f : Sent → Sent) → ((x : Sent) → P x → P (f x)) → (l : List Sent) → All P l → All P (map f l)
all_map P f g [] a = tt
all_map P f g (x ∷ l) a = (g x a.0, all_map P f g l a.1)
