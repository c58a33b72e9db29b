-- `tag_entry::put_zeros` meets its contract: the part is as long as what is stored.
use Rattle.tag_entry.specs.EntryLaws.{zeroed}
use Rattle.tag_entry.proofs.put_zeros.Goals as goal

pub returns : goal.returns
returns c = zeroed _ _ _ _ c.requires (c.fill.ensures.after (λ y e. e))
