-- `transcript::datagrams` meets its contract: what is put, and the lines of the datagrams that are left, are all the lines.
use Rattle.std.proofs.Common.{arith}
use Rattle.notation.specs.PutLaws.{partly_none, partly_more, partly_all}
use Rattle.transcript.specs.LineLaws.{lines_last, lines_cut, lines_next}
use Rattle.transcript.proofs.datagrams.Goals as goal

pub loop-len-init : goal.loop-len-init
loop-len-init c = rw c.front-first.ensures (partly_none _ _ _)

pub returns-in_default : goal.returns-in_default
returns-in_default c =
    let l = c.loop-len in
    partly_all _ _ _ _ _ _ l.invariant (lines_cut l.rest.now c.front-first.result.now l.len-index (omega arith)
    (omega (arith, c.from.ensures, c.in_default.ensures.cases)))

pub loop-len-preserved : goal.loop-len-preserved
loop-len-preserved c =
    let l = c.loop-len in
    partly_more _ _ _ _ _ _ _ _ _ _ l.invariant
    (lines_next l.rest.now c.front-first.result.now l.len-index c.from.result _ _ (omega arith) c.from.ensures c.in-Some.ensures.cases)
    c.bytes_line-here.ensures

pub returns : goal.returns
returns c =
    let l = c.loop-len in
    partly_all _ _ _ _ _ _ l.invariant (lines_last l.rest.now c.front-first.result.now l.len-index (omega arith))
