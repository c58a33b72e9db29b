-- `parity_found::found::lens_ok` meets its contract: the lengths passed are right.
use Rattle.std.proofs.Common.{◌≡◌, true}
use Rattle.frames.specs.Lists.{listed, lengths_of}
use Rattle.frames.specs.Outcomes.{lengths_ok}
use Rattle.parity_found.specs.Ready.{datagram_in}
use Rattle.parity_found.proofs.found.lens_ok.Given as goal

abbrev pub invariant-loop-p : goal.invariant-loop-p
invariant-loop-p l = lengths_ok l.g.shape.mtu (lengths_of (listed (datagram_in l.g) l.p)) ≡ true
