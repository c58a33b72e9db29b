-- `parity_writer::data::put_data` meets its contract: sequence, type, len and datagram, one stored behind the other.
use Rattle.std.proofs.Common.{refl, ap, ◌∙◌, ◌+◌, length, take_all, arith}
use Rattle.std.proofs.lemmas.List.Edits.{sets}
use Rattle.parity_writer.specs.WriterLaws.{data_stored}
use Rattle.parity_writer.proofs.data.put_data.Goals as goal

pub returns : goal.returns
returns c =
    let d = c.args.datagram.now in
    data_stored _ _ _ d _ _ _ _ _ refl c.put.ensures c.put-2.ensures c.put-3.ensures
    (c.copy_part.ensures ∙ ap (sets _ (c.args.at + 8)) (take_all (length d) d (omega arith)))
