-- `schedule::Schedule::update` meets its contract: each way out is the definition's by the test that led there.
use mathlib.Core.Path.{sym, ◌∙◌}
use Rattle.schedule.specs.ScheduleLaws.{when_reached, when_waiting}
use Rattle.schedule.proofs.Schedule.update.Goals as goal

pub returns-then-due : goal.returns-then-due
returns-then-due c =
    when_reached _ _ _
    (rw (← c.started.ensures, ← c.corrected-next.ensures)
    (sym c.due.ensures ∙ c.if-due.true))
    (rw (← c.started.ensures, ← c.corrected-next.ensures, ← c.from.ensures, ← c.following-later.ensures))

pub returns : goal.returns
returns c =
    when_waiting _ _ _
    (rw (← c.started.ensures, ← c.corrected-next.ensures)
    (sym c.due.ensures ∙ c.if-due.false))
    (rw (← c.started.ensures, ← c.corrected-next.ensures))
