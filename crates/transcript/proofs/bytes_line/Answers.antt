-- `transcript::bytes_line` meets its contract: the word, the bytes and a newline, one behind the other.
use Rattle.notation.specs.PutLaws.{put_then}
use Rattle.transcript.specs.Lines.{bytes_line}
use Rattle.transcript.proofs.bytes_line.Goals as goal

pub returns : goal.returns
unfolding bytes_line
returns c =
    put_then _ _ _ _ _ _ _ _ (put_then _ _ _ _ _ _ _ _
    c.bytes-behind.ensures
    c.hex-end.ensures) c.byte.ensures
