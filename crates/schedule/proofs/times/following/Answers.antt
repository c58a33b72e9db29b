-- `schedule::times::following` meets its contract.
use Rattle.schedule.specs.Schedules.{following}
use Rattle.schedule.proofs.times.following.Goals as goal

pub returns-then-due : goal.returns-then-due
unfolding following
returns-then-due c = rw (c.sum.ensures, ← c.sum-later.ensures, ← c.due.ensures, c.if-due.true)

pub returns-else-due : goal.returns-else-due
unfolding following
returns-else-due c = rw (← c.sum-later.ensures, ← c.due.ensures, c.if-due.false)
