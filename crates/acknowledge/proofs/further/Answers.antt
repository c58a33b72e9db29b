-- `further`: an ack's number replaces the one known if that is none or is passed.
use Rattle.acknowledge.proofs.Skips.{no_ack, begins, stays, replaced}
use Rattle.acknowledge.proofs.further.Goals as goal

pub returns-then-h-ne-ACK : goal.returns-then-h-ne-ACK
returns-then-h-ne-ACK c = no_ack _ _ c.if-h-ne-ACK.true

pub returns-then-not-after : goal.returns-then-not-after
returns-then-not-after c = rw c.in-Some.is (stays _ c.if-h-ne-ACK.false _ _ c.after.ensures c.if-not-after.true)

pub returns-else-not-after : goal.returns-else-not-after
returns-else-not-after c = rw c.in-Some.is (replaced _ c.if-h-ne-ACK.false _ _ c.after.ensures c.if-not-after.false)

pub returns-in_default : goal.returns-in_default
returns-in_default c = rw c.in_default.is (begins _ c.if-h-ne-ACK.false)
