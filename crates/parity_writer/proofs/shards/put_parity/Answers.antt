-- `parity_writer::shards::put_parity` meets its contract: sequence, type and parity shard, one stored behind the other.
use Rattle.std.proofs.Common.{◌∙◌}
use Rattle.parity_writer.specs.WriterLaws.{parity_lent}
use Rattle.parity_writer.proofs.shards.put_parity.Goals as goal

pub returns : goal.returns
returns c =
    parity_lent _ _ c.args.w _ _ _ _ _ _ _ c.args.datagrams.whole (c.from-size.ensures ∙ c.largest_of.ensures)
    c.requires.1 c.put.ensures c.put-2.ensures c.parity_row.ensures
