-- `transcript::link::waiting` meets its contract: after i turns the first i segments are put.
use Rattle.std.proofs.Common.{length, take}
use Rattle.notation.specs.Puts.{Put}
use Rattle.words.specs.Words.{paired, waiting_at}
use Rattle.transcript.specs.Lines.{each, waiting_entry}
use Rattle.transcript.proofs.link.waiting.Given as goal

abbrev pub invariant-loop-word : goal.invariant-loop-word
invariant-loop-word l =
    Put l.initial.out l.at (each (waiting_entry) (take (length l.yielded) (paired waiting_at l.words l.numbers))) l.here l.out
