-- `copy_out`: what is stored, with the payloads of the segments from the index on, is the whole.
use mathlib.Core.List.{map}
use lib.Seq.{sets}
use Rattle.session.specs.Reading.{joined_in}
use Rattle.words.specs.Words.{unpack}
use Rattle.deliver.proofs.Fronts.{rest}
use Rattle.deliver.proofs.Copies.{Copying}
use Rattle.deliver.proofs.copy_out.Given as goal

abbrev pub invariant-loop-word : goal.invariant-loop-word
invariant-loop-word l =
    Copying l.mss l.pool (rest l.words l.word-index) (sets l.initial.out 0 (joined_in l.mss l.pool (map unpack l.words))) l.out l.at
