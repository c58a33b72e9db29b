-- `listing::text::spaced` meets its contract: after i turns the first i numbers are put.
use Rattle.std.proofs.Common.{rules}
use Rattle.listing.specs.LineLaws.{spaced_put}
use Rattle.listing.proofs.text.spaced.Goals as goal

pub loop-n-preserved : goal.loop-n-preserved
loop-n-preserved c = spaced_put _ c.loop-n.n-index _ _ _ _ _ _ (search rules) c.loop-n.invariant c.field-here.ensures
