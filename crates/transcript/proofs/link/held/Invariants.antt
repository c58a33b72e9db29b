-- `transcript::link::held` meets its contract: after i turns the first i segments are put.
use Rattle.std.proofs.Common.{map, take}
use Rattle.notation.specs.Puts.{Put}
use Rattle.words.specs.Words.{unpack}
use Rattle.transcript.specs.Lines.{each, held_entry}
use Rattle.transcript.proofs.link.held.Given as goal

abbrev pub invariant-loop-word : goal.invariant-loop-word
invariant-loop-word l = Put l.initial.out l.at (each (held_entry l.letter) (take l.word-index (map unpack l.words))) l.here l.out
