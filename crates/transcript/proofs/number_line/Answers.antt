-- `transcript::number_line` meets its contract: the words, the number and a newline, one behind the other.
use Rattle.notation.specs.PutLaws.{put_then}
use Rattle.transcript.specs.Lines.{number_line}
use Rattle.transcript.proofs.number_line.Goals as goal

pub returns : goal.returns
unfolding number_line
returns c =
    put_then _ _ _ _ _ _ _ _ (put_then _ _ _ _ _ _ _ _
    c.bytes-behind.ensures
    c.number-end.ensures) c.byte.ensures
