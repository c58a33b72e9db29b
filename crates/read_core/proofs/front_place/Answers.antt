-- `front_place`: the front word's slot and length, where a message can be read.
use native.Mathlib.Omega.{arith}
use Rattle.read_core.proofs.Places.{front_placed, front_unplaced}
use Rattle.read_core.proofs.front_place.Goals as goal

pub returns-then-readable : goal.returns-then-readable
returns-then-readable c =
    rw c.from-held.ensures (front_placed _ c.args.ready.now c.args.n _ c.readable.ensures c.if-readable.true (omega arith) c.requires.1)

pub returns-else-readable : goal.returns-else-readable
returns-else-readable c = front_unplaced _ c.args.ready.now c.args.n _ c.readable.ensures c.if-readable.false
