-- `transcript::link::state` meets its contract: the word, the numbers and a newline, one behind the other.
use Rattle.notation.specs.PutLaws.{put_then}
use Rattle.transcript.specs.Lines.{state_line}
use Rattle.transcript.proofs.link.state.Goals as goal

pub returns : goal.returns
unfolding state_line
returns c =
    put_then _ _ _ _ _ _ _ _
    (put_then _ _ _ _ _ _ _ _ c.bytes-behind.ensures
    (rw c.numbers-all.ensures at c.row-end.ensures))
    c.byte.ensures
