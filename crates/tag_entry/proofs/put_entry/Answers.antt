-- `tag_entry::put_entry` meets its contract: the value stands behind the name.
use Rattle.tag_message.specs.MessageLaws.{tag_lengths}
use Rattle.tag_entry.specs.EntryLaws.{entry_stored}
use Rattle.tag_entry.proofs.put_entry.Goals as goal

pub returns : goal.returns
returns c = entry_stored _ _ _ _ (tag_lengths _ _ c.requires.0).most c.put_padded.ensures c.put_padded-2.ensures
