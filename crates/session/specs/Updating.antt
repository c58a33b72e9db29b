-- An update and a check at a given time.
-- Assumes nothing.
use Rattle.std.specs.Prelude.{cond, List, map, ℕ}
use Rattle.lists.specs.declared.Sent.{Sent}
use Rattle.schedule.specs.Schedules.{updated, named}
use Rattle.session.specs.State.{State, with_times, with_schedule}
use Rattle.session.specs.Flushing.{Flushed, flushing}

-- what an update gives: it waits, and the state has a new current time, or it flushes
pub data Updates : Type 0 where
  waits : State → Updates
  flushes : Flushed → Updates

-- every update records now as current; the schedule says whether the flush runs
unfoldable pub updating : State → ℕ → List ℕ → Updates
updating s now pool =
    let u = updated s.schedule now s.settings.interval in
    cond u.flushes (flushes (flushing (with_schedule s u.schedule) now pool)) (waits (with_times s now u.schedule))

-- when the outstanding segments are due
abbrev pub dues : State → List ℕ
dues s = map (λ (x : Sent). x.record.due) s.sending.outstanding

-- the time that a check at now names
unfoldable pub checking : State → ℕ → ℕ
checking s now = named s.schedule now s.settings.interval (dues s)
