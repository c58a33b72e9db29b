-- Validity: after an accepted opening, with lent parts of the stated sizes, no list of calls ever gives 13, nor 7 for a lent part.
-- Assumes nothing.
use Rattle.std.specs.Prelude.{◌≡◌, true, ℕ, ◌^◌, ◌≤◌, ◌<◌}
use Rattle.std.proofs.Common.{subst, arith}
use mathlib.Core.List.{List, [], ◌∷◌}
use Rattle.protocol.specs.Protocol.{send_window}
use Rattle.protocol.specs.Ranges.{in_range, mss}
use Rattle.protocol.specs.Serial.{minus}
use Rattle.protocol.specs.declared.Settings.{Settings}
use Rattle.congestion.specs.Congestions.{fits, InRange, after_flush}
use Rattle.congestion.specs.CongestionLaws.{initial_in_range, datagram_in_range, flush_in_range}
use Rattle.schedule.specs.ScheduleLaws.{updated_fits}
use Rattle.session.specs.State.{State}
use Rattle.session.specs.Opening.{opened}
use Rattle.session.specs.Input.{applied}
use Rattle.session.specs.Flushing.{window_of, flushing}
use Rattle.sizes.specs.Sizes.{enough_to_flush}
use Rattle.session.specs.Valid.{valid, sending_valid, receiving_valid, probe_fits}
use Rattle.session.specs.Calls.{Station, Call, Stepped, own, lengths_of, long_enough, after}
use Rattle.session.specs.Decides.{All}
use Rattle.session.specs.RuleLaws.{losses_at}
use Rattle.session.specs.SendingValid.{congestion_decides}
use Rattle.session.specs.IsValid.{settings_decide}
use Rattle.delivery.specs.Hearing.{Taken, CallFits}
use Rattle.delivery.specs.Stations.{Opened}
use Rattle.delivery.specs.Passing.{Passing, step_own}
use Rattle.delivery.specs.CallCases.{own_cases}
use Rattle.delivery.specs.SizeLaws.{mtu_in_range}
use Rattle.delivery.specs.SendingFlushes.{window_most, count_room}
use Rattle.delivery.specs.SendingStays.{SendingInOrder, half_in, sending_stays, opened_in_order}
use Rattle.delivery.specs.ReceivingLaws.{ReceivingInOrder, receiving_stays, opened_receiving, flush_enough, own_lent, own_lengths}

-- a station whose two halves are in order, with parts that are long enough
pub record InOrder (c : Settings) (s : Station) : Type 0 where
  pub sends : SendingInOrder c s
  pub receives : ReceivingInOrder c s
  pub long : enough_to_flush (mss c) (lengths_of s) s.lent.output s.lent.lengths ≡ true
  pub next_flush_lem : s.state.schedule.next < 2 ^ 32
  pub congestion : InRange (mss c) s.state.congestion

-- the next flush time has 32 bits
next_stays : (s : Station) (x : Call) → CallFits x → s.state.schedule.next < 2 ^ 32 → (own s x).station.state.schedule.next < 2 ^ 32
unfolding applied flushing
next_stays s x fits h =
    own_cases (λ (x : Call) (y : Stepped). CallFits x → y.station.state.schedule.next < 2 ^ 32) s
    (λ x r k. h)
    (λ m ok k. h)
    (λ d gs e k. h)
    (λ t k. h)
    (λ room k. h)
    (λ t k. updated_fits s.state.schedule t s.state.settings.interval k h)
    (λ t k. updated_fits s.state.schedule t s.state.settings.interval k h)
    (λ t k. h)
    x fits

opened_next : (c : Settings) → (opened c).schedule.next < 2 ^ 32
unfolding opened
opened_next c = omega arith

-- ---- the congestion window

opened_congestion : (c : Settings) → InRange (mss c) (opened c).congestion
unfolding opened
opened_congestion c = initial_in_range (mss c)

-- no more than 32 are in flight at the end of a flush
inflight_most : (s : State) (t : ℕ) → s.sending.una < 2 ^ 32 → minus s.sending.next s.sending.una ≤ send_window
    → (losses_at s t).inflight ≤ send_window
inflight_most s t h k = omega (arith, count_room (window_of s) s.sending (window_most s) k)

module _ (s : Station) (range : in_range s.state.settings ≡ true) (o : SendingInOrder s.state.settings s)
    (h : InRange (mss s.state.settings) s.state.congestion) where
  abbrev m : ℕ
  m = mss s.state.settings

  own_congestion : (x : Call) → CallFits x → InRange m (own s x).station.state.congestion
  unfolding applied flushing
  own_congestion x fits =
      own_cases (λ (x : Call) (y : Stepped). CallFits x → SendingInOrder s.state.settings y.station
      → InRange m y.station.state.congestion) s
      (λ x r k p. h)
      (λ b ok k p. h)
      (λ d gs e k p.
      datagram_in_range m s.state.sending.una _ _ s.state.congestion
      (omega (arith, (mtu_in_range s.state.settings range).least)) (omega (arith, p.fits.window)) h)
      (λ t k p. flushed t)
      (λ room k p. h)
      (λ t k p. flushed t)
      (λ t k p. h)
      (λ t k p. h)
      x fits (sending_stays s.state.settings range s x fits o)
    where
      flushed : (t : ℕ) → InRange m (after_flush s.state.congestion m (losses_at s.state t))
      flushed t =
          flush_in_range m s.state.congestion (losses_at s.state t)
          (inflight_most s.state t o.fits.una (half_in s.state.settings s o).numbers.apart)
          (window_most s.state)
          (omega (arith, ((settings_decide s.state.settings).holds range).threshold))
          h

congestion_stays : (c : Settings) → in_range c ≡ true → (s : Station) (x : Call) → CallFits x → SendingInOrder c s
    → InRange (mss c) s.state.congestion → InRange (mss c) (own s x).station.state.congestion
congestion_stays c range s x fits o h =
    subst (λ (c : Settings). in_range c ≡ true → SendingInOrder c s → InRange (mss c) s.state.congestion
    → InRange (mss c) (own s x).station.state.congestion)
    o.settings (λ r p k. own_congestion s r p k x fits) range o h

valid_of : (s : State) → in_range s.settings ≡ true → sending_valid s.settings s.sending ≡ true
    → receiving_valid s.settings s.receiving ≡ true
    → probe_fits s.probe ≡ true → fits s.congestion (mss s.settings) ≡ true → valid s ≡ true
unfolding valid
valid_of s a b d e f = rw (a, b, d, e, f)

module _ (c : Settings) (range : in_range c ≡ true) where
  pub in_order_valid : (s : Station) → InOrder c s → valid s.state ≡ true
  in_order_valid s o =
      let e = o.sends.settings in
      valid_of s.state (rw e range) (rw e o.sends.valid) (rw e o.receives.valid) o.sends.probe
      ((congestion_decides (mss s.state.settings) s.state.congestion).passes (rw e o.congestion))

  pub in_order_long : (s : Station) (x : Call) → InOrder c s → long_enough s x ≡ true
  in_order_long s (Call.send m) o = rw o.sends.settings (flush_enough _ _ _ _ o.long)
  in_order_long s (Call.take_in d) o = rw o.sends.settings (flush_enough _ _ _ _ o.long)
  in_order_long s (Call.flush t) o = rw o.sends.settings o.long
  in_order_long s (Call.read room) o = rw o.sends.settings (flush_enough _ _ _ _ o.long)
  in_order_long s (Call.update t) o = rw o.sends.settings o.long
  in_order_long s (Call.check t) o = rw o.sends.settings (flush_enough _ _ _ _ o.long)

  pub in_order_stays : (s : Station) (x : Call) → CallFits x → InOrder c s → InOrder c (own s x).station
  in_order_stays s x fits o = record {
    sends = sending_stays c range s x fits o.sends;
    receives = receiving_stays c s x fits o.receives;
    long = rw (own_lengths s x, own_lent s x) o.long;
    next_flush_lem = next_stays s x fits o.next_flush_lem;
    congestion = congestion_stays c range s x fits o.sends o.congestion;
  }

  pub always_passing : (xs : List Call) (s : Station) → All CallFits xs → InOrder c s → Passing s xs
  always_passing [] s fits o = tt
  always_passing (x ∷ xs) s fits o =
      (in_order_long s x o, in_order_valid s o, always_passing xs (own s x).station fits.1 (in_order_stays s x fits.0 o))

  pub always_in_order : (xs : List Call) (s : Station) → All CallFits xs → InOrder c s → InOrder c (after s xs)
  unfolding after
  always_in_order [] s fits o = o
  always_in_order (x ∷ xs) s fits o =
      rw (step_own s x (in_order_long s x o) (in_order_valid s o))
      (always_in_order xs (own s x).station fits.1 (in_order_stays s x fits.0 o))

pub opened_all : (c : Settings) (s : Station) → Opened c s → InOrder c s
opened_all c s o = record {
  sends = opened_in_order c s o;
  receives = opened_receiving c s o;
  long = o.long;
  next_flush_lem = rw o.state (opened_next c);
  congestion = rw o.state (opened_congestion c);
}

-- each call of any list passes the checks of 7 and 13, and the station that it leaves is valid
pub station_always_valid : (c : Settings) → Taken c → (s : Station) → Opened c s → (calls : List Call) → All CallFits calls
    → Passing s calls × (valid (after s calls).state ≡ true)
station_always_valid c taken s o calls fits =
    let i = opened_all c s o in (
      always_passing c taken.range calls s fits i,
      in_order_valid c taken.range (after s calls) (always_in_order c taken.range calls s fits i),
    )
