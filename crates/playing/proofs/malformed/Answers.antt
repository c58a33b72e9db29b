-- `playing::malformed` meets its contract.
use mathlib.Core.Path.{refl}
use Rattle.playing.proofs.malformed.Goals as goal

pub returns : goal.returns
returns c = record { bench = refl; answer = c.bytes-len.ensures }
