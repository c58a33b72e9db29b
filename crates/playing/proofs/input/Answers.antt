-- `playing::input` meets its contract: the datagram is within its bytes.
use Rattle.bench_calls.specs.Fronts.{front_take}
use Rattle.playing.proofs.input.Goals as goal

pub returns : goal.returns
returns c = record {
  done = c.input-done.result;
  promise = rw (front_take _ _ _ c.front-n.ensures) at c.input-done.ensures;
  says = c.answered.ensures;
}
