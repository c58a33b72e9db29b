-- Taking in leaves the sending half in order, whatever the headers say.
-- Assumes nothing.
use Rattle.std.specs.Prelude.{◌≡◌, refl, cond, ◌&&◌, ℕ, ◌^◌, ◌<◌, eqb}
use Rattle.std.proofs.Common.{sym, ◌∙◌, arith, ltb-true}
use Rattle.std.proofs.Math.Bool.{Bool, true, false, not}
use mathlib.Core.List.{List, [], ◌∷◌, map}
use Rattle.protocol.specs.Protocol.{ack}
use Rattle.protocol.specs.Ranges.{mss}
use Rattle.protocol.specs.Serial.{minus, is_before, is_due}
use Rattle.protocol.specs.SerialLaws.{due_test}
use Rattle.wire.specs.declared.Header.{Header}
use Rattle.protocol.specs.declared.Settings.{Settings}
use Rattle.datagram.specs.Datagrams.{Segment}
use Rattle.timing.specs.RoundTrips.{sampled}
use Rattle.timing.specs.RoundTripLaws.{sampled_in_range}
use Rattle.timing.specs.TimeRanges.{RoundTripInRange}
use Rattle.lists.specs.declared.Sent.{Sent}
use Rattle.lists.specs.declared.Acknowledges.{Acknowledges}
use Rattle.lists.specs.declared.Acknowledges.TheVariants as by
use Rattle.lists.specs.Acknowledging as acknowledging
use Rattle.lists.specs.Acknowledging.{select, first_number_or, one_skip, skip_before}
use Rattle.session.specs.State.{Sending, with_window, with_outstanding}
use Rattle.session.specs.Input.{acknowledged, sampled_by, heard_by_sending, all_by_sending, furthest, skipped, skipped_by_all}
use Rattle.session.specs.Decides.{All}
use Rattle.session.specs.MapLaws.{map_unchanged}
use Rattle.session.specs.SendOrder.{NumberFits, numbers_select, numbers_mapped}
use Rattle.session.specs.AllLaws.{all_select}
use Rattle.delivery.specs.SendingHalf.{SentWell, Half, numbers_fit_lem, held_select, all_map}
use Rattle.delivery.specs.HeaderRange.{HeaderFits}

-- ---- taking in

first_fits : (l : List Sent) (n : ℕ) → All NumberFits l → n < 2 ^ 32 → first_number_or l n < 2 ^ 32
unfolding first_number_or
first_fits [] n a h = h
first_fits (x ∷ l) n a h = a.0

module _ (c : Settings) where
  half_acknowledged : (arrival : Acknowledges) (s : Sending) → Half c s → Half c (acknowledged arrival s)
  unfolding acknowledged
  half_acknowledged arrival s h = record {
    held = held_select stays (mss c) s.outstanding s.queued h.held;
    numbers = numbers_select stays s.una s.next s.outstanding h.una h.next fit h.numbers;
    sent = left;
    round_trip = h.round_trip;
    una = first_fits (select stays s.outstanding) s.next fit h.next;
    next = h.next;
    window = h.window;
  }
    where
      stays : Sent → Bool
      stays x = not (acknowledging.acknowledged s.next arrival x.record.number)

      left : All (SentWell c.mode) (select stays s.outstanding)
      left = all_select stays (SentWell c.mode) s.outstanding h.sent

      fit : All NumberFits (select stays s.outstanding)
      fit = numbers_fit_lem c.mode (select stays s.outstanding) left

  half_window : (w : ℕ) (s : Sending) → w < 2 ^ 16 → Half c s → Half c (with_window w s)
  half_window w s k h = record {
    held = h.held;
    numbers = h.numbers;
    sent = h.sent;
    round_trip = h.round_trip;
    una = h.una;
    next = h.next;
    window = k;
  }

  half_sampled : (current ts : ℕ) (s : Sending) → Half c s → Half c (sampled_by c current ts s)
  unfolding sampled_by
  half_sampled current ts s h =
      record {
        held = h.held;
        numbers = h.numbers;
        sent = h.sent;
        round_trip = go (is_due current ts) refl;
        una = h.una;
        next = h.next;
        window = h.window;
      }
    where
      go : (b : Bool) → is_due current ts ≡ b
          → RoundTripInRange c.mode (cond b (sampled s.round_trip c (minus current ts)) s.round_trip)
      go true e =
          sampled_in_range s.round_trip c (minus current ts) h.round_trip.smoothed h.round_trip.variation
          (ltb-true (minus current ts) (2 ^ 31) (sym (due_test current ts) ∙ e))
      go false e = h.round_trip

  half_heard : (current : ℕ) (s : Sending) (g : Header) → g.wnd < 2 ^ 16 → Half c s → Half c (heard_by_sending c current s g)
  unfolding heard_by_sending
  half_heard current s g k h = go (eqb g.cmd ack)
    where
      passed : Sending
      passed = acknowledged (by.Una g.una) (with_window g.wnd s)

      after : Half c passed
      after = half_acknowledged (by.Una g.una) (with_window g.wnd s) (half_window g.wnd s k h)

      go : (b : Bool) → Half c (cond b (acknowledged (by.Ack g.sn) (sampled_by c current g.ts passed)) passed)
      go true = half_acknowledged (by.Ack g.sn) (sampled_by c current g.ts passed) (half_sampled current g.ts passed after)
      go false = after

  pub half_all : (current : ℕ) (s : Sending) (gs : List Segment) → All HeaderFits gs → Half c s → Half c (all_by_sending c current s gs)
  unfolding all_by_sending
  half_all current s [] a h = h
  half_all current s (g ∷ gs) a h =
      half_all current (heard_by_sending c current s g.header) gs a.1 (half_heard current s g.header a.0.wnd h)

-- ---- skips

module _ (n : ℕ) where
  either_skip : (P : Sent → Type 0) (x : Sent) → P (one_skip x) → P x → P (skip_before n x)
  unfolding skip_before
  either_skip P x p q = go (is_before x.record.number n)
    where
      go : (b : Bool) → P (cond b (one_skip x) x)
      go true = p
      go false = q

  pub skip_held : (x : Sent) → (skip_before n x).held ≡ x.held
  skip_held x = either_skip (λ (y : Sent). y.held ≡ x.held) x refl refl

  pub skip_number : (x : Sent) → (skip_before n x).record.number ≡ x.record.number
  skip_number x = either_skip (λ (y : Sent). y.record.number ≡ x.record.number) x refl refl

  skip_well : (mode : ℕ) (x : Sent) → SentWell mode x → SentWell mode (skip_before n x)
  skip_well mode x w =
      either_skip (SentWell mode) x
      (record {
        transmissions = w.transmissions;
        range = record { timeout = w.range.timeout; skips = omega arith };
        fits = record { number = w.fits.number; due = w.fits.due; timeout = w.fits.timeout; skips = omega arith };
      })
      w

module _ (c : Settings) where
  half_skipped : (s : Sending) (n : ℕ) → Half c s → Half c (skipped s n)
  unfolding skipped
  half_skipped s n h = go (not (is_before n s.una) && is_before n s.next)
    where
      more : Sending
      more = with_outstanding s s.una (map (skip_before n) s.outstanding)

      go : (b : Bool) → Half c (cond b more s)
      go true = record {
        held = rw (map_unchanged (λ (x : Sent). x.held) (skip_before n) (skip_held n) s.outstanding) h.held;
        numbers = numbers_mapped (skip_before n) (skip_number n) s.una s.next s.outstanding h.numbers;
        sent = all_map (SentWell c.mode) (skip_before n) (skip_well n c.mode) s.outstanding h.sent;
        round_trip = h.round_trip;
        una = h.una;
        next = h.next;
        window = h.window;
      }
      go false = h

  pub half_skips : (s : Sending) (l : List ℕ) → Half c s → Half c (skipped_by_all s l)
  half_skips s [] h = h
  half_skips s (n ∷ l) h = half_skipped s (furthest n l) h
