-- `frames::lent::adds_up` meets its contract: what is left for the lengths that are left.
use Rattle.std.proofs.Common.{◌≡◌, leb, drop}
use Rattle.frames.specs.Lists.{add_up}
use Rattle.frames.proofs.lent.adds_up.Given as goal

abbrev pub invariant-loop-n : goal.invariant-loop-n
invariant-loop-n l = leb (add_up l.lengths) l.size ≡ leb (add_up (drop l.n-index l.lengths)) l.left
