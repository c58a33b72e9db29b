-- `transcript::refused` meets its contract: the words are "refused ", and the number is the refusal's.
use Rattle.transcript.specs.Lines.{refusal_line}
use Rattle.transcript.proofs.refused.Goals as goal

pub returns : goal.returns
unfolding refusal_line
returns c = rw c.number.ensures at c.number_line.ensures
