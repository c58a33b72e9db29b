-- `schedule::times::corrected` meets its contract.
use mathlib.Core.Path.{sym, ◌∙◌}
use Rattle.schedule.specs.ScheduleLaws.{corrected_astray, corrected_unchanged}
use Rattle.schedule.proofs.times.corrected.Goals as goal

pub returns-then-is_astray : goal.returns-then-is_astray
returns-then-is_astray c = sym (corrected_astray _ _ (sym c.is_astray.ensures ∙ c.if-is_astray.true))

pub returns-else-is_astray : goal.returns-else-is_astray
returns-else-is_astray c = sym (corrected_unchanged _ _ (sym c.is_astray.ensures ∙ c.if-is_astray.false))
