-- The sending half of refusal 13, as a statement: the test `sending_valid` passes exactly where each condition of document 01 holds.
-- So do the tests on the congestion window and on the probe clock.
-- Assumes nothing.
use Rattle.std.specs.Prelude.{◌≡◌, ◌⊎◌, Bool, true, false, ◌||◌, List, ℕ, ◌+◌, ◌*◌, ◌^◌, ◌≤◌, ◌<◌}
use Rattle.std.proofs.Common.{inl, inr}
use Rattle.std.proofs.Math.Bool.{or-true}
use Rattle.protocol.specs.Protocol.{
  fragment_most,
  send_slots,
  send_window,
  dead_after,
  skips_most,
  timeout_most,
  probe_wait_least,
  probe_wait_most,
  congestion_window_most,
  congestion_threshold_least,
  congestion_threshold_most,
}
use Rattle.protocol.specs.Ranges.{mss}
use Rattle.protocol.specs.Serial.{minus}
use Rattle.protocol.specs.declared.Settings.{Settings}
use Rattle.congestion.specs.Congestions.{fits, InRange}
use Rattle.congestion.specs.declared.Congestion.{Congestion}
use Rattle.timing.specs.RoundTrips.{least_timeout}
use Rattle.timing.specs.TimeRanges.{TimeoutInRange, WaitInRange}
use Rattle.timing.specs.declared.RoundTrip.{RoundTrip}
use Rattle.timing.specs.declared.ProbeClock.{ProbeClock}
use Rattle.lists.specs.declared.Held.{Held}
use Rattle.lists.specs.declared.Sent.{Sent}
use Rattle.lists.specs.Orders.{sent_offset}
use Rattle.lists.specs.Acknowledging.{first_number_or}
use Rattle.session.specs.State.{Sending, send_held, slots}
use Rattle.session.specs.Valid.{held_fits, slots_fit, numbers_fit, timeout_fits, sent_fits, round_trip_fits, probe_fits, sending_valid}
use Rattle.session.specs.Decides.{Decides, All, leb_decides, ltb_decides, eqb_decides, and_decides, all_decides, via}
use Rattle.session.specs.AllLaws.{all_both, all_one, all_other}
use Rattle.session.specs.Once.{Once, once_decides}
use Rattle.session.specs.Ascending.{Ascending, ascending_decides}

pub record SendingIsValid (c : Settings) (s : Sending) : Type 0 where
  -- held lengths at most mss, held fragments at most 126
  pub lengths : All (λ (h : Held). h.len ≤ mss c) (send_held s)
  pub fragments : All (λ (h : Held). h.fragment ≤ fragment_most) (send_held s)
  -- held slots below 128, none held twice
  pub slots_below : All (λ (h : Held). h.slot < send_slots) (send_held s)
  pub slots_once : Once (slots (send_held s))
  -- outstanding numbers ascending from snd_una up to but not including snd_nxt
  pub ascending : Ascending (sent_offset s.una) (minus s.next s.una) s.outstanding
  -- these two at most 32 apart
  pub apart : minus s.next s.una ≤ send_window
  -- the first being snd_una (none: the two are equal)
  pub first : first_number_or s.outstanding s.next ≡ s.una
  -- outstanding transmissions at most 20 and skip counts at most 255
  pub transmissions : All (λ (x : Sent). x.transmissions ≤ dead_after) s.outstanding
  pub skips : All (λ (x : Sent). x.record.skips ≤ skips_most) s.outstanding
  -- smoothed time and variation 0 to 2^31 - 1
  pub smoothed : s.round_trip.smoothed < 2 ^ 31
  pub variation : s.round_trip.variation < 2 ^ 31
  -- the link's timeout and each outstanding one from the mode's least to 60,000
  pub timeout : TimeoutInRange c.mode s.round_trip.timeout
  pub timeouts : All (λ (x : Sent). TimeoutInRange c.mode x.record.timeout) s.outstanding

-- ---- each test decides its condition

held_decides : (m : ℕ) (h : Held) → Decides (held_fits m h) ((h.len ≤ m) × (h.fragment ≤ fragment_most))
held_decides m h = and_decides (leb_decides h.len m) (leb_decides h.fragment fragment_most)

pub slots_decide : (n : ℕ) (l : List Held) → Decides (slots_fit n l) (All (λ (h : Held). h.slot < n) l × Once (slots l))
slots_decide n l = and_decides (all_decides _ (λ (h : Held). h.slot < n) (λ h. ltb_decides h.slot n) l) (once_decides (slots l))

pub timeout_decides : (mode x : ℕ) → Decides (timeout_fits mode x) (TimeoutInRange mode x)
timeout_decides mode x =
    via (and_decides (leb_decides (least_timeout mode) x) (leb_decides x timeout_most))
    (λ h. record { least = h.0; most = h.1 })
    (λ h. (h.least, h.most))

numbers_decide :
    (s : Sending) →
    Decides (numbers_fit s)
    (Ascending (sent_offset s.una) (minus s.next s.una) s.outstanding
    × (minus s.next s.una ≤ send_window)
    × (first_number_or s.outstanding s.next ≡ s.una))
unfolding numbers_fit
numbers_decide s =
    via (and_decides
    (and_decides (ascending_decides (sent_offset s.una) (minus s.next s.una) s.outstanding)
    (leb_decides (minus s.next s.una) send_window))
    (eqb_decides (first_number_or s.outstanding s.next) s.una))
    (λ h. (h.0.0, h.0.1, h.1))
    (λ h. ((h.0, h.1), h.2))

sent_decides : (mode : ℕ) (x : Sent) →
    Decides (sent_fits mode x) (((x.transmissions ≤ dead_after) × (x.record.skips ≤ skips_most)) × TimeoutInRange mode x.record.timeout)
sent_decides mode x =
    and_decides (and_decides (leb_decides x.transmissions dead_after) (leb_decides x.record.skips skips_most))
    (timeout_decides mode x.record.timeout)

round_trip_decides : (mode : ℕ) (p : RoundTrip) →
    Decides (round_trip_fits mode p) (((p.smoothed < 2 ^ 31) × (p.variation < 2 ^ 31)) × TimeoutInRange mode p.timeout)
round_trip_decides mode p =
    and_decides (and_decides (ltb_decides p.smoothed (2 ^ 31)) (ltb_decides p.variation (2 ^ 31))) (timeout_decides mode p.timeout)

-- ---- the whole

module _ (c : Settings) (s : Sending) where
  abbrev Short : Held → Type 0
  Short h = h.len ≤ mss c

  abbrev Low : Held → Type 0
  Low h = h.fragment ≤ fragment_most

  abbrev Few : Sent → Type 0
  Few x = x.transmissions ≤ dead_after

  abbrev Skips : Sent → Type 0
  Skips x = x.record.skips ≤ skips_most

  abbrev InTime : Sent → Type 0
  InTime x = TimeoutInRange c.mode x.record.timeout

  pub sending_decides : Decides (sending_valid c s) (SendingIsValid c s)
  unfolding sending_valid
  sending_decides =
      via (and_decides
      (and_decides
      (and_decides
      (and_decides
      (all_decides (held_fits (mss c)) (λ (h : Held). Short h × Low h) (held_decides (mss c)) (send_held s))
      (slots_decide send_slots (send_held s)))
      (numbers_decide s))
      (all_decides (sent_fits c.mode) (λ (x : Sent). (Few x × Skips x) × InTime x) (sent_decides c.mode) s.outstanding))
      (round_trip_decides c.mode s.round_trip))
      (λ h.
      let held = h.0.0.0.0 in
      let numbers = h.0.0.1 in
      let sent = all_one (λ (x : Sent). Few x × Skips x) InTime s.outstanding h.0.1 in
      record {
        lengths = all_one Short Low (send_held s) held;
        fragments = all_other Short Low (send_held s) held;
        slots_below = h.0.0.0.1.0;
        slots_once = h.0.0.0.1.1;
        ascending = numbers.0;
        apart = numbers.1;
        first = numbers.2;
        transmissions = all_one Few Skips s.outstanding sent;
        skips = all_other Few Skips s.outstanding sent;
        smoothed = h.1.0.0;
        variation = h.1.0.1;
        timeout = h.1.1;
        timeouts = all_other (λ (x : Sent). Few x × Skips x) InTime s.outstanding h.0.1;
      })
      (λ v. (
        (
          (
            (all_both Short Low (send_held s) v.lengths v.fragments, (v.slots_below, v.slots_once)),
            (v.ascending, v.apart, v.first),
          ),
          all_both (λ (x : Sent). Few x × Skips x) InTime s.outstanding
              (all_both Few Skips s.outstanding v.transmissions v.skips) v.timeouts,
        ),
        ((v.smoothed, v.variation), v.timeout),
      ))

-- ---- the probe clock's condition

or_decides : {a b : Bool} {P Q : Type 0} → Decides a P → Decides b Q → Decides (a || b) (P ⊎ Q)
or_decides {a} {b} {P} {Q} p q = record { holds = λ e. from a b p.holds q.holds e; passes = λ x. to x }
  where
    from : (a b : Bool) → (a ≡ true → P) → (b ≡ true → Q) → (a || b) ≡ true → P ⊎ Q
    from true b f g e = inl (f e)
    from false b f g e = inr (g e)

    to : P ⊎ Q → (a || b) ≡ true
    to (inl x) = rw (p.passes x)
    to (inr y) = rw (q.passes y) (or-true a)

-- congestion window, threshold and allowance
pub congestion_decides : (m : ℕ) (c : Congestion) → Decides (fits c m) (InRange m c)
unfolding fits
congestion_decides m c =
    via
    (and_decides
    (and_decides
    (and_decides (leb_decides c.window congestion_window_most) (leb_decides congestion_threshold_least c.threshold))
    (leb_decides c.threshold congestion_threshold_most))
    (leb_decides c.allowance ((c.window + 1) * m)))
    (λ x. record { window = x.0.0.0; threshold_least = x.0.0.1; threshold_most_lem = x.0.1; allowance = x.1 })
    (λ x. (((x.window, x.threshold_least), x.threshold_most_lem), x.allowance))

-- probe wait 0 or 7,000 to 120,000
pub probe_decides : (p : ProbeClock) → Decides (probe_fits p) (WaitInRange p.wait)
probe_decides p = or_decides (eqb_decides p.wait 0)
    (and_decides (leb_decides probe_wait_least p.wait) (leb_decides p.wait probe_wait_most))
