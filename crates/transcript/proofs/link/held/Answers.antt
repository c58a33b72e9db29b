-- `transcript::link::held` meets its contract: after i turns the first i segments are put.
use Rattle.std.proofs.Common.{sym, ◌∙◌, map, arith}
use Rattle.std.proofs.Math.ListN.{length-map, get_or-map}
use Rattle.words.specs.Words.{unpack}
use Rattle.transcript.specs.Lines.{held_entry}
use Rattle.transcript.specs.LineLaws.{each_put}
use Rattle.transcript.proofs.link.held.Goals as goal

pub loop-word-preserved : goal.loop-word-preserved
loop-word-preserved c =
    let l = c.loop-word in
    let words = c.args.words.now in
    let here = c.from.ensures ∙ sym (get_or-map unpack words l.word-index 0) in
    each_put (held_entry c.args.letter) (map unpack words) l.word-index _ _ _ _ _ _ _ (omega (arith, length-map words unpack)) l.invariant
    (rw here at c.held_entry-here.ensures)
