-- `parity_found::found::most_found` meets its contract: the largest of those passed.
use Rattle.std.proofs.Common.{◌≡◌, ◌<◌}
use Rattle.frames.specs.Lists.{listed, lengths_of, largest}
use Rattle.parity_found.specs.Ready.{datagram_in}
use Rattle.parity_found.proofs.found.most_found.Given as goal

abbrev pub invariant-loop-p : goal.invariant-loop-p
invariant-loop-p l = (l.most ≡ largest (lengths_of (listed (datagram_in l.g) l.p))) × (l.most < 65536)
