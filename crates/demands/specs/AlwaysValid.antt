-- Validity: after an accepted opening no list of calls ever gives 13, nor 7 for a lent part (7 is left for a read whose buffer is shorter
-- than the message), and the block that they leave is one that 13 does not refuse. From the promises of the public calls alone.
-- Definitions; the theorems are in proofs/.
-- Assumes nothing.
use Rattle.session.specs.Calls.{Call, Reply}
use Rattle.demands.specs.Steps.{Endpoint}
use Rattle.demands.specs.Claims.{ShortBuffer, Passes}

-- what is asked of each call
abbrev pub Answered : Endpoint → Call → Reply → Type 0
Answered e x a = Passes (ShortBuffer e x) a
