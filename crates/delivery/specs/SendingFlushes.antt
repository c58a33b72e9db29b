-- A flush leaves the sending half in order, whatever count of queued segments it numbers within 32 of snd_una.
-- Assumes nothing.
use Rattle.std.specs.Prelude.{◌≡◌, refl, ℕ, ◌+◌, ◌^◌, ◌≤◌, ◌<◌, length, take}
use Rattle.std.proofs.Math.Path.{ap}
use Rattle.std.proofs.Common.{◌∙◌, arith, length-take, take-append-drop}
use mathlib.Core.List.{List, [], ◌∷◌, ◌++◌, map, append_assoc}
use Rattle.std.proofs.Math.ListN.{drop}
use Rattle.protocol.specs.Protocol.{send_window}
use Rattle.protocol.specs.Ranges.{controls_congestion}
use Rattle.protocol.specs.Serial.{plus, minus}
use Rattle.protocol.specs.declared.Settings.{Settings}
use Rattle.congestion.specs.CongestionLaws.{used_most}
use Rattle.timing.specs.TimeRanges.{TimeoutInRange}
use Rattle.retransmission.specs.Transmissions.{first_transmission, sending, transmission}
use Rattle.retransmission.specs.TransmissionLaws.{
  when_never_sent,
  transmission_in_range,
  transmission_count,
  transmission_number,
  transmission_fits,
}
use Rattle.timing.specs.declared.Record.{Record}
use Rattle.lists.specs.declared.Held.{Held}
use Rattle.lists.specs.declared.Sent.{Sent}
use Rattle.session.specs.State.{State, Sending, send_held, with_numbers}
use Rattle.session.specs.Flushing.{numbered_as, numbered, window_of, numbered_count, with_numbered, ruled, afterwards}
use Rattle.session.specs.Decides.{All}
use Rattle.session.specs.AllLaws.{all_append}
use Rattle.session.specs.MapLaws.{map-append}
use Rattle.session.specs.RuleLaws.{sent_after, after_each, after_unchanged}
use Rattle.session.specs.SendOrder.{numbers_mapped, numbers_more}
use Rattle.delivery.specs.SendingHalf.{SentWell, Half, all_map}

-- ---- a flush that numbers k queued segments

-- the half then
abbrev pub flushed_with : Settings → ℕ → ℕ → Sending → Sending
flushed_with c t k s =
    with_numbers s (plus s.next k) (drop k s.queued) (afterwards (ruled c s.round_trip.timeout t (with_numbered s k)))

pub numbered_held : (n : ℕ) (q : List Held) → map (λ (x : Sent). x.held) (numbered n q) ≡ q
unfolding numbered
numbered_held n [] = refl
numbered_held n (x ∷ q) = ap {B = List Held} (λ (r : List Held). x ∷ r) (numbered_held (plus n 1) q)

module _ (c : Settings) (link t : ℕ) (in_time : TimeoutInRange c.mode link) where
  link32 : link < 2 ^ 32
  link32 = omega (arith, in_time.most)

  after_well : (x : Sent) → SentWell c.mode x → SentWell c.mode (sent_after c link t x)
  after_well x w = record {
    transmissions = transmission_count c link t x.transmissions x.record w.transmissions;
    range = transmission_in_range c link t x.transmissions x.record in_time w.range;
    fits = transmission_fits c link t x.transmissions x.record link32 w.fits;
  }

  -- a segment that is numbered now gets the link's timeout
  new_well : (n : ℕ) (x : Held) → n < 2 ^ 32 → SentWell c.mode (sent_after c link t (numbered_as n x))
  new_well n x k = record {
    transmissions = transmission_count c link t 0 r (omega arith);
    range = rw (← first) (record { timeout = in_time; skips = omega arith });
    fits = transmission_fits c link t 0 r link32 (record { number = k; due = omega arith; timeout = omega arith; skips = omega arith });
  }
    where
      r : Record
      r = record { number = n; due = 0; timeout = 0; skips = 0 }

      first : sending 0 (first_transmission c.mode link t r) ≡ transmission c link t 0 r
      first = when_never_sent c link t 0 r refl refl

  new_all : (n : ℕ) (q : List Held) → n < 2 ^ 32 → All (SentWell c.mode) (map (sent_after c link t) (numbered n q))
  unfolding numbered
  new_all n [] k = tt
  new_all n (x ∷ q) k = (new_well n x k, new_all (plus n 1) q (omega arith))

  pub after_number : (x : Sent) → (sent_after c link t x).record.number ≡ x.record.number
  after_number x = transmission_number c link t x.transmissions x.record

module _ (c : Settings) (t k : ℕ) (s : Sending) (few : k ≤ length s.queued) (room : minus s.next s.una + k ≤ send_window) where
  abbrev link : ℕ
  link = s.round_trip.timeout

  count : length (take k s.queued) ≡ k
  count = simp length-take (omega arith)

  -- what is held stays the same
  pub flushed_held : send_held (flushed_with c t k s) ≡ send_held s
  unfolding with_numbered
  flushed_held =
      ap (λ (l : List Held). l ++ drop k s.queued)
      (after_unchanged c link t (λ (x : Sent). x.held) (λ x. refl) (s.outstanding ++ numbered s.next (take k s.queued))
      ∙ map-append (λ (x : Sent). x.held) s.outstanding (numbered s.next (take k s.queued))
      ∙ ap (λ (l : List Held). map (λ (x : Sent). x.held) s.outstanding ++ l) (numbered_held s.next (take k s.queued)))
      ∙ append_assoc (map (λ (x : Sent). x.held) s.outstanding) (take k s.queued) (drop k s.queued)
      ∙ ap (λ (l : List Held). map (λ (x : Sent). x.held) s.outstanding ++ l) (take-append-drop k s.queued)

  pub half_flushed : Half c s → Half c (flushed_with c t k s)
  unfolding with_numbered
  half_flushed h = record {
    held = rw flushed_held h.held;
    numbers = rw (after_each c link t (with_numbered s k))
        (numbers_mapped (sent_after c link t) (after_number c link t h.round_trip.timeout) s.una (plus s.next k)
        (with_numbered s k)
        (rw count at (numbers_more s.una s.next s.outstanding (take k s.queued) h.una h.next (rw count room)
        h.numbers)));
    sent = rw (after_each c link t (with_numbered s k), map-append (sent_after c link t))
        (all_append (SentWell c.mode) (map (sent_after c link t) s.outstanding)
        (map (sent_after c link t) (numbered s.next (take k s.queued)))
        (all_map (SentWell c.mode) (sent_after c link t) (after_well c link t h.round_trip.timeout) s.outstanding h.sent)
        (new_all c link t h.round_trip.timeout s.next (take k s.queued) h.next));
    round_trip = h.round_trip;
    una = h.una;
    next = omega arith;
    window = h.window;
  }

-- the window that a flush goes by is 32 at most
pub window_most : (s : State) → window_of s ≤ send_window
window_most s = used_most (controls_congestion s.settings) s.sending.window s.congestion.window

-- so its count is one of these
pub count_few : (w : ℕ) (s : Sending) → numbered_count w s ≤ length s.queued
unfolding numbered_count
count_few w s = omega arith

pub count_room : (w : ℕ) (s : Sending) → w ≤ send_window → minus s.next s.una ≤ send_window
    → minus s.next s.una + numbered_count w s ≤ send_window
unfolding numbered_count
count_room w s m h = omega arith
