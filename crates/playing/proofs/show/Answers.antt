-- `playing::show` meets its contract.
use mathlib.Core.Path.{refl}
use Rattle.playing.proofs.show.Goals as goal

pub returns : goal.returns
returns c = record {
  part = c.show-part.result.now;
  promise = c.show-part.ensures;
  says =
      rw c.unchanged.ensures (record { bench = refl; answer = c.bytes_line-len.ensures });
}
