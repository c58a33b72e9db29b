-- `timed`: an ack whose difference is 0 or more is a sample.
use mathlib.Core.Path.{sym, ◌∙◌}
use Rattle.acknowledge.proofs.Hearing.{timed_ack, timed_late, timed_other}
use Rattle.acknowledge.proofs.timed.Goals as goal

pub returns-then-due : goal.returns-then-due
returns-then-due c = timed_ack _ _ _ _ _ c.if-h-eq-ACK.true
    (sym c.due.ensures ∙ c.if-due.true)
    (rw (← c.difference.ensures) c.sampled.ensures)

pub returns-else-due : goal.returns-else-due
returns-else-due c = timed_late _ _ _ _ c.if-h-eq-ACK.true (sym c.due.ensures ∙ c.if-due.false)

pub returns-else-h-eq-ACK : goal.returns-else-h-eq-ACK
returns-else-h-eq-ACK c = timed_other _ _ _ _ c.if-h-eq-ACK.false
