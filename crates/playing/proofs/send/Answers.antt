-- `playing::send` meets its contract: the message is within its bytes.
use Rattle.bench_calls.specs.Fronts.{front_take}
use Rattle.playing.proofs.send.Goals as goal

pub returns : goal.returns
returns c = record {
  done = c.send-done.result;
  promise = rw (front_take _ _ _ c.front-n.ensures) at
      c.send-done.ensures;
  says = c.answered.ensures;
}
