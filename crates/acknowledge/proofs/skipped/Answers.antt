-- `skipped`: a record before the number has one skip more, another is as it was.
use mathlib.Core.Path.{◌≡◌, sym, ◌∙◌}
use mathlib.Core.Bool.{true, false}
use Rattle.protocol.specs.Serial.{is_before}
use Rattle.acknowledge.specs.Hearing.{skip_record}
use Rattle.acknowledge.proofs.skipped.Goals as goal

pub returns-then-before : goal.returns-then-before
unfolding skip_record
returns-then-before c =
    let a = c.args in
    let e : is_before a.old.number a.number ≡ true = sym c.before-2.ensures ∙ c.if-before.true in
    rw (e, c.skipped.ensures)

pub returns-else-before : goal.returns-else-before
unfolding skip_record
returns-else-before c =
    let a = c.args in
    let e : is_before a.old.number a.number ≡ false = sym c.before-2.ensures ∙ c.if-before.false in
    rw e
