-- `playing::flushed` meets its contract: the datagrams, and the count behind them.
use mathlib.Core.Path.{refl}
use Rattle.notation.specs.PutLaws.{put_then}
use Rattle.playing.proofs.flushed.Goals as goal

pub returns : goal.returns
returns c = record {
  bench = refl;
  answer = put_then _ _ _ _ _ _ _ _ c.datagrams-at.ensures
      c.count-len.ensures;
}
