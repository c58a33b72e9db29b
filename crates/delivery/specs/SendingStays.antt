-- The sending half stays valid and in range: after an accepted opening it is, and after every call it is again, whatever bytes are taken
-- in. So do the send pool's length and the probe clock's wait.
-- Assumes nothing.
use Rattle.std.specs.Prelude.{◌≡◌, refl, List, [], ◌∷◌, ℕ, ◌+◌, ◌*◌, ◌≤◌, length}
use Rattle.std.proofs.Common.{ap, ◌∙◌, subst, arith}
use Rattle.std.proofs.Math.Bool.{true}
use Rattle.protocol.specs.Protocol.{send_slots, send_window}
use Rattle.protocol.specs.Ranges.{in_range, mss, is_stream}
use Rattle.protocol.specs.Serial.{minus}
use Rattle.protocol.specs.declared.Settings.{Settings}
use Rattle.timing.specs.Probes.{next_clock}
use Rattle.timing.specs.RoundTripLaws.{first_timeout_in_range}
use Rattle.timing.specs.ProbeLaws.{next_in_range}
use Rattle.lists.specs.Acknowledging.{first_number_or}
use Rattle.session.specs.State.{State, Sending, send_held, slots}
use Rattle.session.specs.Valid.{probe_fits, sending_valid}
use Rattle.session.specs.Decides.{All}
use Rattle.session.specs.SendingValid.{sending_decides, probe_decides}
use Rattle.session.specs.Opening.{opened}
use Rattle.session.specs.FillLaws.{filled_length}
use Rattle.session.specs.Input.{applied, all_by_sending, ack_numbers}
use Rattle.session.specs.Flushing.{window_of, numbered_count, flushing}
use Rattle.session.specs.Calls.{Station, Call, Stepped, lengths_of, own, after}
use Rattle.delivery.specs.Hearing.{CallFits}
use Rattle.delivery.specs.Stations.{Opened}
use Rattle.delivery.specs.Passing.{Passing}
use Rattle.delivery.specs.PassingLaws.{after_first}
use Rattle.delivery.specs.CallCases.{filling, cutting, own_cases}
use Rattle.delivery.specs.HeaderRange.{HeaderFits, Each, parse_fits}
use Rattle.delivery.specs.SendPool.{place_length}
use Rattle.delivery.specs.SizeLaws.{mtu_in_range, enough_pool}
use Rattle.delivery.specs.StateRange.{SendingFits}
use Rattle.delivery.specs.SendingHalf.{Half, half_of, half_valid, half_fits}
use Rattle.delivery.specs.SendingTakesIn.{half_all, half_skips}
use Rattle.delivery.specs.SendingSends.{half_send}
use Rattle.delivery.specs.SendingFlushes.{half_flushed, flushed_with, window_most, count_few, count_room}

-- ---- what every call leaves, from any state

pub own_settings : (s : Station) (x : Call) → (own s x).station.state.settings ≡ s.state.settings
unfolding applied flushing
own_settings s =
    own_cases (λ (x : Call) (y : Stepped). y.station.state.settings ≡ s.state.settings) s (λ x r. refl) (λ m ok. refl) (λ d gs e. refl)
    (λ t. refl) (λ room. refl)
    (λ t. refl) (λ t. refl) (λ t. refl)

-- the send pool is as long as before
pub own_send_pool : (s : Station) (x : Call) → length (own s x).station.send_pool ≡ length s.send_pool
own_send_pool s =
    own_cases (λ (x : Call) (y : Stepped). length y.station.send_pool ≡ length s.send_pool) s
    (λ x r. refl)
    (λ m ok.
    place_length (is_stream s.state.settings) (mss s.state.settings) (slots (send_held s.state.sending))
    (filling s.state.settings s.state.sending s.send_pool m).pool
    (cutting s.state.settings s.state.sending s.send_pool m)
    ∙ filled_length (mss s.state.settings) s.state.sending.queued s.send_pool m (is_stream s.state.settings))
    (λ d gs e. refl)
    (λ t. refl)
    (λ room. refl)
    (λ t. refl)
    (λ t. refl)
    (λ t. refl)

-- ---- what is preserved

pub record SendingInOrder (c : Settings) (s : Station) : Type 0 where
  pub settings : s.state.settings ≡ c
  pub long : send_slots * mss c ≤ length s.send_pool
  pub valid : sending_valid c s.state.sending ≡ true
  pub fits : SendingFits s.state.sending
  pub probe : probe_fits s.state.probe ≡ true

pub half_in : (c : Settings) (s : Station) → SendingInOrder c s → Half c s.state.sending
half_in c s o = half_of c s.state.sending ((sending_decides c s.state.sending).holds o.valid) o.fits

half_order : (c : Settings) (s : Station) →
    s.state.settings ≡ c →
    send_slots * mss c ≤ length s.send_pool →
    Half c s.state.sending →
    probe_fits s.state.probe ≡ true →
    SendingInOrder c s
half_order c s e long h p = record {
  settings = e;
  long = long;
  valid = (sending_decides c s.state.sending).passes (half_valid c s.state.sending h);
  fits = half_fits c s.state.sending h;
  probe = p;
}

-- ---- each call

module _ (s : Station) (range : in_range s.state.settings ≡ true) (o : SendingInOrder s.state.settings s) where
  abbrev c : Settings
  c = s.state.settings

  abbrev d : Sending
  d = s.state.sending

  half : Half c d
  half = half_in c s o

  -- the half and the probe clock, after a call
  own_half : (x : Call) → CallFits x → Half c (own s x).station.state.sending
  unfolding applied flushing
  own_half =
      own_cases (λ (x : Call) (y : Stepped). CallFits x → Half c y.station.state.sending) s
      (λ x r k. half)
      (λ m ok k. half_send c d s.send_pool m half o.long ok.room (omega (arith, (mtu_in_range c range).least)) ok.short)
      (λ b gs e k.
      half_skips c (all_by_sending c s.state.current d gs) (ack_numbers gs)
      (half_all c s.state.current d gs (subst (Each HeaderFits) e (parse_fits c.conv (mss c) b k)) half))
      (λ t k. flushed t)
      (λ room k. half)
      (λ t k. flushed t)
      (λ t k. half)
      (λ t k. half)
    where
      flushed : (t : ℕ) → Half c (flushed_with c t (numbered_count (window_of s.state) d) d)
      flushed t = half_flushed c t (numbered_count (window_of s.state) d) d (count_few (window_of s.state) d)
          (count_room (window_of s.state) d (window_most s.state) half.numbers.apart) half

  own_probe : (x : Call) → probe_fits (own s x).station.state.probe ≡ true
  unfolding applied flushing
  own_probe =
      own_cases (λ (x : Call) (y : Stepped). probe_fits y.station.state.probe ≡ true) s
      (λ x r. o.probe)
      (λ m ok. o.probe)
      (λ b gs e. o.probe)
      moved
      (λ room. o.probe)
      moved
      (λ t. o.probe)
      (λ t. o.probe)
    where
      moved : (t : ℕ) → probe_fits (next_clock s.state.probe t d.window).clock ≡ true
      moved t =
          (probe_decides (next_clock s.state.probe t d.window).clock).passes
          (next_in_range s.state.probe t d.window ((probe_decides s.state.probe).holds o.probe))

  stays : (x : Call) → CallFits x → SendingInOrder c (own s x).station
  stays x k = half_order c (own s x).station (own_settings s x) (rw (own_send_pool s x) o.long) (own_half x k) (own_probe x)

-- Every call leaves the sending half in order, whatever bytes it takes in
pub sending_stays : (c : Settings) →
    in_range c ≡ true →
    (s : Station) (x : Call) →
    CallFits x →
    SendingInOrder c s →
    SendingInOrder c (own s x).station
sending_stays c range s x k o =
    subst (λ (c : Settings). in_range c ≡ true → SendingInOrder c s → SendingInOrder c (own s x).station) o.settings
    (λ r p. stays s r p x k) range o

-- After every list of calls that pass it is in order
pub sending_always : (c : Settings) →
    in_range c ≡ true →
    (calls : List Call) (s : Station) →
    All CallFits calls →
    Passing s calls →
    SendingInOrder c s →
    SendingInOrder c (after s calls)
unfolding after
sending_always c range [] s k p o = o
sending_always c range (x ∷ xs) s k p o =
    rw (after_first s x xs p) (sending_always c range xs (own s x).station k.1 p.2 (sending_stays c range s x k.0 o))

-- A flush may number any count k of queued segments within 32 of snd_una (it numbers `numbered_count`)
pub flush_any : (c : Settings) (t k : ℕ) (s : Sending) →
    k ≤ length s.queued →
    minus s.next s.una + k ≤ send_window →
    sending_valid c s ≡ true →
    SendingFits s →
    (sending_valid c (flushed_with c t k s) ≡ true) × SendingFits (flushed_with c t k s)
flush_any c t k s few room v f =
    let h = half_flushed c t k s few room (half_of c s ((sending_decides c s).holds v) f) in
    ((sending_decides c (flushed_with c t k s)).passes (half_valid c (flushed_with c t k s) h), half_fits c (flushed_with c t k s) h)

-- ---- the opened state

opened_half : (c : Settings) → Half c (opened c).sending
unfolding opened first_number_or
opened_half c = record {
  held = record { lengths = tt; fragments = tt; low = tt; distinct = tt };
  numbers = record { ascends = tt; apart = omega arith; first = refl };
  sent = tt;
  round_trip = record { smoothed = omega arith; variation = omega arith; timeout = first_timeout_in_range c.mode };
  una = omega arith;
  next = omega arith;
  window = omega arith;
}

pub opened_in_order : (c : Settings) (s : Station) → Opened c s → SendingInOrder c s
unfolding opened
opened_in_order c s p =
    half_order c s (ap (λ (x : State). x.settings) p.state ∙ settings)
    (enough_pool (mss c) (lengths_of s) s.lent.output s.lent.lengths p.long)
    (rw p.state (opened_half c)) (rw p.state probe)
  where
    settings : (opened c).settings ≡ c
    settings = refl

    probe : probe_fits (opened c).probe ≡ true
    probe = refl
