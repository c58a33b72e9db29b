-- `segment_count`: no bytes make one segment, in stream mode none; others one more than mss goes into the bytes before the last.
use mathlib.Core.Path.{sym}
use Rattle.enqueue.proofs.Counts.{count_empty, count_none, count_some}
use Rattle.enqueue.proofs.segment_count.Goals as goal

pub returns-then-stream : goal.returns-then-stream
returns-then-stream c = sym (count_empty _ _ _ c.requires c.if-stream.true c.if-len-eq0.true)

pub returns-else-stream : goal.returns-else-stream
returns-else-stream c = sym (count_none _ _ _ c.requires c.if-stream.false c.if-len-eq0.true)

pub returns : goal.returns
returns c = sym (count_some _ _ _ c.requires c.if-len-eq0.false)
