-- `schedule::times::started` meets its contract.
use mathlib.Core.Path.{sym}
use Rattle.schedule.specs.ScheduleLaws.{started_made, started_first}
use Rattle.schedule.proofs.times.started.Goals as goal

pub returns-then-schedule : goal.returns-then-schedule
returns-then-schedule c = sym (started_made _ _ c.if-schedule.true)

pub returns-else-schedule : goal.returns-else-schedule
returns-else-schedule c = sym (started_first _ _ c.if-schedule.false)
