-- `parity_restore::other_lost` meets its contract: the places passed, from the last on, are held, or are i.
use Rattle.std.proofs.Common.{not, ◌≤◌, ◌-◌, ap, ◌∙◌, arith}
use Rattle.parity_restore.specs.RestoreLaws.{lost_is, lost_none, found_here, passed_held, passed_other}
use Rattle.parity_restore.proofs.other_lost.Goals.{else-is_none-via-then-is_none+else-ne, else-is_none-via-else-is_none}
use Rattle.parity_restore.proofs.other_lost.Goals as goal

pub returns-then-ne : goal.returns-then-ne
returns-then-ne c =
    let l : c.loop-p.p ≤ 10 = omega (arith, c.loop-p.auto.p) in
    lost_is _ (c.loop-p.p - 1) (c.loop-p.invariant ∙ found_here _ _ c.loop-p.p c.index-held-p.result c.loop-p-test.true l c.told-held
    (c.is_none.ensures ∙ ap not c.if-is_none.true) c.if-ne.ensures) (omega arith)

pub loop-p-preserved : goal.loop-p-preserved
loop-p-preserved c =
    let l : c.loop-p.p ≤ 10 = omega (arith, c.loop-p.auto.p) in
    c.loop-p.invariant ∙ elim c.else-is_none.branch [
      | else-is_none-via-then-is_none+else-ne w ↦ passed_other _ _ c.loop-p.p c.index-held-p.result c.loop-p-test.true l c.told-held
          (c.is_none.ensures ∙ ap not w.if-is_none.true) w.if-ne.ensures
      | else-is_none-via-else-is_none w ↦ passed_held _ c.args.i c.loop-p.p c.index-held-p.result c.loop-p-test.true l c.told-held
          (c.is_none.ensures ∙ ap not w.if-is_none.false)
    ]

pub returns : goal.returns
returns c = lost_none _ _ _ c.loop-p.p c.loop-p.invariant c.loop-p-test.false
