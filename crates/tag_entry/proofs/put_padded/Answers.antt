-- `tag_entry::put_padded` meets its contract: the zeros stand behind the bytes.
use Rattle.tag_entry.specs.EntryLaws.{padded_stored}
use Rattle.tag_entry.proofs.put_padded.Goals as goal

pub returns : goal.returns
returns c =
    let a = c.args in
    padded_stored a.most a.at a.bytes.now a.out.now c.put_counted.ensures c.put_zeros.ensures
