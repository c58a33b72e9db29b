-- `listing::count_line` meets its contract: the words are "ok ".
use Rattle.listing.specs.Lines.{count_line}
use Rattle.listing.proofs.count_line.Goals as goal

pub returns : goal.returns
unfolding count_line
returns c = c.last_line.ensures
