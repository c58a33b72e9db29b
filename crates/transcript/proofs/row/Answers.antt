-- `transcript::row` meets its contract: after i turns the first i numbers are put.
use Rattle.std.proofs.Common.{rules}
use Rattle.notation.specs.PutLaws.{put_then}
use Rattle.transcript.specs.Lines.{cell}
use Rattle.transcript.specs.LineLaws.{each_put}
use Rattle.transcript.proofs.row.Goals as goal

pub loop-n-preserved : goal.loop-n-preserved
loop-n-preserved c =
    each_put cell c.args.numbers.now c.loop-n.n-index 0 _ _ _ _ _ _ (search rules) c.loop-n.invariant
    (put_then _ _ _ _ _ _ _ _ c.byte-behind.ensures c.number-here.ensures)
