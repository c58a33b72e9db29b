-- `mark`: the words before the index are marked.
use Rattle.std.proofs.Common.{ap, ◌∙◌}
use Rattle.lists.specs.declared.Held.{Held}
use Rattle.marks.specs.MarkLaws.{or_none}
use Rattle.marks.proofs.Turns.{marking_next, marking_end, low_at}
use Rattle.marks.proofs.mark.Goals as goal

pub bounds-marks-from : goal.bounds-marks-from
bounds-marks-from g c =
    let slot = c.from.ensures ∙ ap (λ (h : Held). h.slot) c.from-held.ensures in
    rw slot (low_at g.row.S _ _ c.requires c.loop-word-test.true)

pub loop-word-preserved : goal.loop-word-preserved
loop-word-preserved g c =
    rw or_none (marking_next c.loop-word.invariant _ (c.from.ensures ∙ ap (λ (h : Held). h.slot) c.from-held.ensures) c.loop-word-test.true)

pub returns : goal.returns
returns g c = marking_end c.loop-word.invariant c.loop-word-test.false
