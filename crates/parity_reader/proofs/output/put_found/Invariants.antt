-- `parity_reader::output::put_found` meets its contract: the datagrams passed stand one behind the other.
use Rattle.parity_found.specs.Ready.{datagram_in}
use Rattle.parity_reader.specs.OutputLaws.{Packed}
use Rattle.parity_reader.proofs.output.put_found.Given as goal

abbrev pub invariant-loop-p : goal.invariant-loop-p
invariant-loop-p l = Packed (datagram_in l.g) l.g.shape.mtu l.initial.out l.initial.out_lengths l.out l.out_lengths l.at l.p
