-- `parity_writer::data::put_all_data` meets its contract: the frames of the places passed stand one behind the other.
use Rattle.parity_writer.specs.WriterLaws.{Filled}
use Rattle.parity_writer.proofs.data.put_all_data.Given as goal

abbrev pub invariant-loop-p : goal.invariant-loop-p
invariant-loop-p l =
    Filled l.start l.datagrams.bytes.now l.datagrams.lengths.now l.initial.out l.initial.out_lengths l.out l.out_lengths l.from l.at l.p
