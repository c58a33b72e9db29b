-- `parity_writer::put_group` meets its contract: the data frames, then the two parity frames behind them.
use Rattle.std.proofs.Common.{refl, ◌∙◌}
use Rattle.parity_writer.specs.WriterLaws.{group_bytes, group_lengths}
use Rattle.parity_writer.proofs.put_group.Goals as goal

pub returns-clause-bytes : goal.returns-clause-bytes
returns-clause-bytes c =
    group_bytes _ _ _ c.args.datagrams.whole _ _ _ _ _ _ _ c.put_all_data-at.ensures.bytes c.put_all_data-at.ensures.next
    (c.from.ensures ∙ c.largest_of-most.ensures) refl c.put_parity.ensures c.put_parity-2.ensures

pub returns-clause-lengths : goal.returns-clause-lengths
returns-clause-lengths c =
    group_lengths _ _ _ c.args.datagrams.whole _ _ c.largest_of-most.result c.put_all_data-at.ensures.lengths c.largest_of-most.ensures
