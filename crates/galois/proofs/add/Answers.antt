-- `galois::add` meets its contract.
use mathlib.Core.Path.{refl}
use Rattle.galois.specs.Field.{plus}
use Rattle.galois.proofs.add.Goals as goal

pub returns : goal.returns
unfolding plus
returns c = refl
