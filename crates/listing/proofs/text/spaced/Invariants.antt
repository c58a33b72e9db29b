-- `listing::text::spaced` meets its contract: after i turns the first i numbers are put.
use Rattle.std.proofs.Common.{take}
use Rattle.notation.specs.Puts.{Put}
use Rattle.listing.specs.Puts.{spaced}
use Rattle.listing.proofs.text.spaced.Given as goal

abbrev pub invariant-loop-n : goal.invariant-loop-n
invariant-loop-n l = Put l.initial.out l.at (spaced (take l.n-index l.numbers)) l.here l.out
