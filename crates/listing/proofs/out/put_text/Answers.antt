-- `listing::out::put_text` meets its contract: there is room for all of it.
use Rattle.listing.specs.ListingLaws.{wrote_put}
use Rattle.listing.proofs.out.put_text.Goals as goal

pub returns : goal.returns
returns c = wrote_put _ _ _ _ _ c.requires c.bytes.ensures
