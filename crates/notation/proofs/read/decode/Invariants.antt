-- `notation::read::decode` meets its contract: the bytes that are left, stored from i on, complete the whole.
use Rattle.std.proofs.Common.{◌≡◌, ◌*◌, drop}
use Rattle.std.proofs.lemmas.List.Edits.{sets}
use Rattle.notation.specs.Hex.{unhex}
use Rattle.notation.proofs.read.decode.Given as goal

abbrev pub invariant-loop-i : goal.invariant-loop-i
invariant-loop-i l = sets l.out l.i (unhex (drop (2 * l.i) l.s)) ≡ sets l.initial.out 0 (unhex l.s)
