-- What is left behind the checks: what the flush leaves, or, by an update that waits, a new current time and the next schedule.
-- Assumes nothing.
use mathlib.Core.Path.{◌≡◌, refl, sym, ap, ◌∙◌}
use mathlib.Core.Bool.{Bool, true, false, true≢false}
use mathlib.Core.List.{List}
use Prim.Native.Nat.{ℕ}
use lib.ListN.{length}
use Rattle.protocol.specs.declared.Settings.{Settings}
use Rattle.timing.specs.declared.Record.{Record}
use Rattle.schedule.specs.Schedules.{updated}
use Rattle.schedule.specs.declared.Updated as schedule
use Rattle.session.specs.State.{State, with_times}
use Rattle.session.specs.Flushing.{flushing}
use Rattle.session.specs.Updating.{updating}
use Rattle.control.specs.declared.Flight.{Flight}
use Rattle.control.specs.declared.Arrival.{Arrival}
use Rattle.control.specs.declared.Clock.{Clock}
use Rattle.control.specs.declared.Link.{Link}
use Rattle.control.specs.Views.{is_set, Arrays, link_of, schedule_of, state_of, counted, counts_fit}
use Rattle.flush_core.specs.declared.Flushed.{Flushed}
use Rattle.flush_core.specs.declared.parts.Step.{Step}
use Rattle.flush_core.specs.Parts.{Moved, Steps}
use Rattle.flush_core.specs.Flushes.{Wrote, Runs}
use Rattle.std.specs.Prelude.{None, Ok}

-- t is the current time
abbrev pub current_of : Clock → ℕ → Clock
current_of k t = record { probe = k.probe; current = t; next_flush = k.next_flush; ask = k.ask; dead = k.dead; updated = k.updated }

module _ (c : Settings) (f : Flight) (a : Arrival) (k : Clock) (x : Arrays) (records : List Record) (acks : List ℕ)
    (t : ℕ) (pool out lengths : List ℕ) (s : Step) where
  abbrev block : Link
  block = link_of c f a k x

  abbrev before : State
  before = state_of block records acks

  abbrev next : schedule.Updated
  next = updated before.schedule t before.settings.interval

  -- the state with a current time and the next schedule
  moved : Moved k t c.interval s → (k' : Clock) (n : ℕ) → k' ≡ current_of s.clock n
      → state_of (link_of c f a k' x) records acks ≡ with_times before n next.schedule
  unfolding state_of
  moved steps k' n e =
      λ i.
      record {
        settings = c;
        sending = before.sending;
        receiving = before.receiving;
        probe = (ap (λ (y : Clock). y.probe) e ∙ ap (λ (y : Clock). y.probe) steps.is) i;
        current = (e i).current;
        schedule = (ap schedule_of e ∙ steps.schedule) i;
        congestion = f.congestion;
        ask = is_set ((ap (λ (y : Clock). y.ask) e ∙ ap (λ (y : Clock). y.ask) steps.is) i);
        dead = is_set ((ap (λ (y : Clock). y.dead) e ∙ ap (λ (y : Clock). y.dead) steps.is) i);
      }

  decided : Moved k t c.interval s → s.flushes ≡ next.flushes
  unfolding state_of
  decided steps = steps.flushes

  pub flushed : (paced : Bool) → Steps paced k t c.interval s → s.flushes ≡ true
      → (r : Flushed) (l' : Link) (records' : List Record) (out' lengths' : List ℕ)
      → Wrote (link_of c f a s.clock x) records pool acks t out lengths r l' records' out' lengths'
      → Runs paced block records pool acks t out lengths r l' records' out' lengths'
  unfolding updating state_of
  flushed false steps e r l' records' out' lengths' h =
      let q = rw steps at h in (Ok (length (flushing before t pool).datagrams), q.0, q.1)
  flushed true steps e r l' records' out' lengths' h =
      let same : s.clock ≡ current_of s.clock k.current = ap (λ (y : Clock). current_of s.clock y.current) steps.is in
      let q = rw (moved steps s.clock k.current same) at h in
      rw (sym (decided steps) ∙ e) q

  pub waited : (paced : Bool) → Steps paced k t c.interval s → s.flushes ≡ false → counted f a ≡ true → (records' : List Record)
      → Runs paced block records pool acks t out lengths (record { written = None; changed = 0 })
      (link_of c f a (current_of s.clock t) x) records' out lengths
  unfolding updating counts_fit
  waited false steps e n records' = absurd (true≢false (sym (ap (λ (y : Step). y.flushes) steps) ∙ e))
  waited true steps e n records' =
      rw (sym (decided steps) ∙ e)
      (record {
        answer = refl;
        counts = n;
        state = moved steps (current_of s.clock t) t refl;
        slots = refl;
        puts = refl;
        output = refl;
        sizes = refl;
      })
