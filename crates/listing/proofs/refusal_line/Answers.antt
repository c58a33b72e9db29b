-- `listing::refusal_line` meets its contract: the words are "refused ", and the number is the refusal's.
use Rattle.listing.specs.Lines.{refusal_line}
use Rattle.listing.proofs.refusal_line.Goals as goal

pub returns : goal.returns
unfolding refusal_line
returns c = rw c.number.ensures at c.last_line.ensures
