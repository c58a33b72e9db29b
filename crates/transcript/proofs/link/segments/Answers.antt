-- `transcript::link::segments` meets its contract: the word, the four lists and a newline, one behind the other.
use Rattle.notation.specs.PutLaws.{put_then}
use Rattle.transcript.specs.Lines.{held_line}
use Rattle.transcript.proofs.link.segments.Goals as goal

pub returns : goal.returns
unfolding held_line
returns c =
    let queued = put_then _ _ _ _ _ _ _ _ c.bytes-a.ensures (rw c.front.ensures at c.held-b.ensures) in
    let sent = put_then _ _ _ _ _ _ _ _ queued (rw (c.front-2.ensures, c.front-3.ensures) at c.outstanding-c.ensures) in
    let ready = put_then _ _ _ _ _ _ _ _ sent (rw c.front-4.ensures at c.held-d.ensures) in
    let waiting = put_then _ _ _ _ _ _ _ _ ready (rw (c.front-5.ensures, c.front-6.ensures) at c.waiting-e.ensures) in
    put_then _ _ _ _ _ _ _ _ waiting c.byte.ensures
