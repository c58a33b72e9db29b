-- `parity_scan::scan::scan_from` meets its contract: what was seen of the frames passed.
use Rattle.parity_scan.specs.ScanLaws.{Seen}
use Rattle.parity_scan.proofs.scan.scan_from.Given as goal

abbrev pub invariant-loop-n : goal.invariant-loop-n
invariant-loop-n l = Seen l.frames.bytes.now l.frames.lengths.now l.shape.k l.shape.mtu l.group l.held l.at l.n-index
