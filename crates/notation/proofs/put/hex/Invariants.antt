-- `notation::put::hex` meets its contract: after i turns the digits of the first i bytes are put.
use Rattle.std.proofs.Common.{take}
use Rattle.notation.specs.Hex.{hex_of}
use Rattle.notation.specs.Puts.{Put}
use Rattle.notation.proofs.put.hex.Given as goal

abbrev pub invariant-loop-b : goal.invariant-loop-b
invariant-loop-b l = Put l.initial.out l.at (hex_of (take l.b-index l.s)) l.here l.out
