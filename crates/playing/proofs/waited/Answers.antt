-- `playing::waited` meets its contract.
use mathlib.Core.Path.{refl}
use Rattle.transcript.specs.Lines.{answer_line}
use Rattle.playing.proofs.waited.Goals as goal

pub returns : goal.returns
unfolding answer_line
returns c = record { bench = refl; answer = c.answer-len.ensures }
