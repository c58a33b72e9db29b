-- What the checks of 7 and 13 give each part of a flush.
-- Assumes nothing.
use mathlib.Core.Path.{◌≡◌, ap}
use mathlib.Core.Bool.{Bool, true, ◌&&◌}
use mathlib.Core.List.{List}
use Prim.Native.Nat.{ℕ, ◌+◌, ◌^◌, ◌≤◌, ◌<◌}
use lib.ListN.{length}
use native.Mathlib.Omega.{arith}
use Rattle.protocol.specs.Protocol.{send_slots, send_window}
use Rattle.protocol.specs.Serial.{plus, minus}
use Rattle.protocol.specs.Ranges.{mss, controls_congestion}
use Rattle.protocol.specs.declared.Settings.{Settings}
use Rattle.timing.specs.declared.Record.{Record}
use Rattle.congestion.specs.Congestions.{Countable}
use Rattle.congestion.specs.CongestionLaws.{used_most}
use Rattle.session.specs.Decides.{and_parts}
use Rattle.session.specs.State.{Sending, send_held}
use Rattle.session.specs.Valid.{all, held_fits, slots_fit, sending_valid, numbers_fit}
use Rattle.session.specs.IsValid.{SettingsInRange, settings_decide}
use Rattle.session.specs.SendingValid.{sending_decides}
use Rattle.session.specs.Flushing.{numbered_count}
use Rattle.control.specs.declared.Flight.{Flight}
use Rattle.control.specs.declared.Link.{Link}
use Rattle.control.specs.Views.{Whole, arrays_of, sending_of}
use Rattle.control.specs.ViewLaws.{Counts, counts}
use Rattle.numbering.specs.Numbering.{Numberable, Numbers}
use Rattle.transmit.specs.Writing.{Writable}
use Rattle.transmit.specs.ValidLaws.{valid_inside}
use Rattle.flush_core.specs.declared.parts.Plan.{Plan}
use Rattle.flush_core.specs.Parts.{Plans, window_in, losses_in}
use Rattle.flush_core.specs.Flushes.{Flushable}

numbers_fit_lem : (c : Settings) (s : Sending) → sending_valid c s ≡ true → numbers_fit s ≡ true
unfolding sending_valid
numbers_fit_lem c s e =
    (and_parts (all (held_fits (mss c)) (send_held s) && slots_fit send_slots (send_held s)) _ (and_parts _ _ (and_parts _ _ e).0).0).1

-- what the window allows stays within 32 of snd_una
count_fits : (w : ℕ) (s : Sending) → w ≤ send_window → minus s.next s.una ≤ send_window
    → minus s.next s.una + numbered_count w s ≤ send_window
unfolding numbered_count
count_fits w s h k = omega arith

flown_apart : (next una k : ℕ) → una < 2 ^ 32 → minus next una + k ≤ send_window → minus (plus next k) una ≤ send_window
flown_apart next una k h e = omega arith

module _ (l : Link) (whole : Whole (arrays_of l)) (records : List Record) (few : length records ≡ 32) (pool acks out lengths : List ℕ)
    (p : Flushable l records pool acks out lengths) where
  range : SettingsInRange l.settings
  range = (settings_decide l.settings).holds p.range

  fit : Counts l.flight l.arrival
  fit = counts l.flight l.arrival p.counts

  -- for its plan
  pub few_ready : l.arrival.ready ≤ 128
  few_ready = fit.ready

  -- for numbering
  pub numberable : (w : ℕ) → w ≡ window_in l.settings l.flight → Numberable l.flight w l.queued l.outstanding l.transmissions records
  numberable w e =
      record {
        window_fits = rw e (used_most (controls_congestion l.settings) l.flight.window l.flight.congestion.window);
        queued_whole = whole.whole_queued;
        outstanding_whole = whole.whole_outstanding;
        transmissions_whole = whole.whole_transmissions;
        records_whole = few;
        queued_fits = fit.queued;
        outstanding_fits = fit.outstanding;
        numbers = numbers_fit_lem l.settings _ p.sends;
      }

  -- for the losses at its end
  pub countable : (w : ℕ) (n : Flight) (queued' outstanding' transmissions' : List ℕ) (records' : List Record)
      → w ≡ window_in l.settings l.flight → l.flight.una < 2 ^ 32
      → Numbers l.flight w l.queued l.outstanding l.transmissions records n queued' outstanding' transmissions' records'
      → (fast late : Bool) → Countable (mss l.settings) (losses_in l.settings n w fast late)
  countable w n queued' outstanding' transmissions' records' e below d fast late =
      let half = sending_of l.flight l.queued l.outstanding l.transmissions records in
      let k = numbered_count w half in
      let apart = ((sending_decides l.settings half).holds p.sends).apart in
      let room = count_fits w half (numberable w e).window_fits apart in
      record {
        most = omega (arith, range.mtu_most_lem);
        inflight = rw (ap (λ (g : Flight). g.next) d.rest, ap (λ (g : Flight). g.una) d.rest)
            (flown_apart l.flight.next l.flight.una k below room);
      }

  -- for writing
  pub writable : (t w : ℕ) (plan : Plan) (n : Flight) (queued' outstanding' transmissions' : List ℕ) (records' : List Record)
      → Plans l.settings l.flight l.arrival l.clock t plan
      → Numbers l.flight w l.queued l.outstanding l.transmissions records n queued' outstanding' transmissions' records'
      → Writable plan.flush l.arrival.acks acks outstanding' transmissions' records' n.outstanding pool out lengths
  writable t w plan n queued' outstanding' transmissions' records' g e =
      rw g.flush (record {
        sendable = record {
          mtu = omega (arith, range.mtu_least_lem);
          whole = e.sent.whole;
          wholes = e.sent.wholes;
          whole_records = e.sent.whole_records;
          count = e.sent.fits;
          inside = rw e.sent.list (valid_inside l.settings (sending_of l.flight l.queued l.outstanding l.transmissions records) _ p.sends);
          slots = p.slots;
        };
        few = fit.acks;
        pairs = omega (arith, fit.acks, p.pairs);
        bytes = omega (arith, range.mtu_most_lem, p.bytes);
        sizes = p.sizes;
      })
