-- `transcript::link::entry` meets its contract: a space, the letter and the numbers, one behind the other.
use Rattle.notation.specs.PutLaws.{put_then}
use Rattle.transcript.specs.Lines.{entry}
use Rattle.transcript.proofs.link.entry.Goals as goal

pub returns : goal.returns
unfolding entry
returns c =
    put_then _ _ _ _ _ _ _ _ (put_then _ _ _ _ _ _ _ _
    c.byte-behind.ensures
    c.byte-end.ensures) c.row.ensures
