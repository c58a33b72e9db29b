-- `notation::put::bytes` meets its contract: after i turns the first i bytes of `s` are put.
use Rattle.std.proofs.Common.{take}
use Rattle.notation.specs.Puts.{Put}
use Rattle.notation.proofs.put.bytes.Given as goal

abbrev pub invariant-loop-b : goal.invariant-loop-b
invariant-loop-b l = Put l.initial.out l.at (take l.b-index l.s) l.here l.out
