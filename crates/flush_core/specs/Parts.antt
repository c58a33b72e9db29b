-- What a flush goes by, and the numbers that it leaves. Definitions.
-- Assumes nothing.
use Rattle.std.specs.Prelude.{◌≡◌, Bool, true, false, ◌||◌, ℕ, ◌-◌}
use Rattle.protocol.specs.Protocol.{receive_window}
use Rattle.protocol.specs.Ranges.{mss, controls_congestion}
use Rattle.protocol.specs.Serial.{minus}
use Rattle.protocol.specs.declared.Settings.{Settings}
use Rattle.congestion.specs.Congestions.{used_window, after_flush}
use Rattle.congestion.specs.declared.Losses.{Losses}
use Rattle.timing.specs.Probes.{next_clock}
use Rattle.timing.specs.declared.ProbeClock.{ProbeClock}
use Rattle.control.specs.declared.Flight.{Flight}
use Rattle.control.specs.declared.Arrival.{Arrival}
use Rattle.control.specs.declared.Clock.{Clock}
use Rattle.control.specs.Views.{is_set, schedule_of}
use Rattle.schedule.specs.Schedules.{updated}
use Rattle.transmit.specs.declared.Flush.{Flush}
use Rattle.flush_core.specs.declared.parts.Plan.{Plan}
use Rattle.flush_core.specs.declared.parts.Step.{Step}

-- the settings, the link's timeout and the time; its segments carry window 128 minus ready count, and una = rcv_nxt
abbrev pub goes_by : Settings → Flight → Arrival → ℕ → Flush
goes_by c f a t =
    record {
      settings = c;
      carried = record { conv = c.conv; wnd = receive_window - a.ready; una = a.expected };
      timeout = f.rtt.timeout;
      t = t;
    }

-- that, with the wishes: an ask that is wanted, or that the probe clock wants, and a tell
pub record Plans (c : Settings) (f : Flight) (a : Arrival) (k : Clock) (t : ℕ) (r : Plan) : Type 0 where
  pub flush : r.flush ≡ goes_by c f a t
  pub ask : r.ask ≡ (is_set k.ask || (next_clock k.probe t f.window).ask)
  pub tell : r.tell ≡ is_set a.tell
  pub probe : r.probe ≡ (next_clock k.probe t f.window).clock

-- the window that it goes by
abbrev pub window_in : Settings → Flight → ℕ
window_in c f = used_window (controls_congestion c) f.window f.congestion.window

-- what it tells of losses, with these numbers at its end
abbrev pub losses_in : Settings → Flight → ℕ → Bool → Bool → Losses
losses_in c f window fast late =
    record { fast = fast; late = late; skips = c.threshold; inflight = minus f.next f.una; used = window }

-- and these numbers with the congestion window after that
abbrev pub with_losses : Settings → Flight → ℕ → Bool → Bool → Flight
with_losses c f window fast late =
    record {
      una = f.una;
      next = f.next;
      rtt = f.rtt;
      window = f.window;
      congestion = after_flush f.congestion (mss c) (losses_in c f window fast late);
      queued = f.queued;
      outstanding = f.outstanding;
    }

-- the clock with this probe clock, t as the current time, the old schedule, and no wish for an ask; dead if it was, or if it is now
pub record Moves (k : Clock) (probe : ProbeClock) (dead : Bool) (t : ℕ) (r : Clock) : Type 0 where
  pub is : r ≡ record { probe = probe; current = t; next_flush = k.next_flush; ask = 0; dead = r.dead; updated = k.updated }
  pub flag : is_set r.dead ≡ (is_set k.dead || dead)

-- no acks, and no wish for a tell
abbrev pub cleared_of : Arrival → Arrival
cleared_of a = record { expected = a.expected; tell = 0; ready = a.ready; waiting = a.waiting; acks = 0 }

-- ---- whether it flushes

-- the next schedule is in the clock, which is as it was in all else
pub record Moved (k : Clock) (t interval : ℕ) (r : Step) : Type 0 where
  pub is : r.clock
      ≡ record {
        probe = k.probe;
        current = k.current;
        next_flush = r.clock.next_flush;
        ask = k.ask;
        dead = k.dead;
        updated = r.clock.updated;
      }
  pub schedule : schedule_of r.clock ≡ (updated (schedule_of k) t interval).schedule
  pub flushes : r.flushes ≡ (updated (schedule_of k) t interval).flushes

-- a flush leaves the schedule, and runs; an update, which is paced, moves it on, and runs if it is due
abbrev pub Steps : Bool → Clock → ℕ → ℕ → Step → Type 0
Steps false k t interval r = r ≡ record { clock = k; flushes = true }
Steps true k t interval r = Moved k t interval r
