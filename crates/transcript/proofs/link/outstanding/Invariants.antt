-- `transcript::link::outstanding` meets its contract: after i turns the first i segments are put.
use Rattle.std.proofs.Common.{length, take}
use Rattle.notation.specs.Puts.{Put}
use Rattle.words.specs.Words.{paired, outstanding_at}
use Rattle.transcript.specs.Lines.{each, outstanding_entry}
use Rattle.transcript.proofs.link.outstanding.Given as goal

abbrev pub invariant-loop-word : goal.invariant-loop-word
invariant-loop-word l =
    Put l.initial.out l.at (each (outstanding_entry l.table) (take (length l.yielded) (paired outstanding_at l.words l.transmissions))) l.here l.out
