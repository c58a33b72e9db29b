-- `schedule::times::ahead` meets its contract.
use mathlib.Core.Path.{sym, ◌∙◌}
use Rattle.schedule.specs.ScheduleLaws.{ahead_due, ahead_undue}
use Rattle.schedule.proofs.times.ahead.Goals as goal

pub returns-then-due : goal.returns-then-due
returns-then-due c = sym (ahead_due _ _ (sym c.due.ensures ∙ c.if-due.true))

pub returns-else-due : goal.returns-else-due
returns-else-due c = c.difference.ensures ∙ sym (ahead_undue _ _ (sym c.due.ensures ∙ c.if-due.false))
