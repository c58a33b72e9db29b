-- `listing::text::field` meets its contract: the number, and the byte behind it.
use Rattle.notation.specs.PutLaws.{put_then}
use Rattle.listing.specs.Lines.{field}
use Rattle.listing.proofs.text.field.Goals as goal

pub returns : goal.returns
unfolding field
returns c = put_then _ _ _ _ _ _ _ _ c.number-behind.ensures c.byte.ensures
