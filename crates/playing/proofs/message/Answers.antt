-- `playing::message` meets its contract.
use mathlib.Core.Path.{refl}
use Rattle.bench_calls.specs.Fronts.{front_take}
use Rattle.playing.proofs.message.Goals as goal

pub returns : goal.returns
returns c = record {
  bench = refl;
  answer = rw (front_take _ _ _ c.front-n.ensures) at
      c.bytes_line-len.ensures;
}
