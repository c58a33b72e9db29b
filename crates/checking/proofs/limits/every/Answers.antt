-- `every`: those before the index are tested.
use Rattle.std.proofs.Common.{sym, ap, ◌∙◌}
use Rattle.checking.proofs.Turns.{all_next, all_end}
use Rattle.checking.proofs.limits.every.Goals as goal

pub loop-x-preserved : goal.loop-x-preserved
loop-x-preserved g c t tells =
    all_next t _ _ _ c.loop-x.fit (c.loop-x.invariant t tells) c.x-item.result _ c.loop-x-test.true
    (tells _ _ c.test-fit.ensures ∙ ap t c.x-item.is)

pub returns : goal.returns
returns g c t tells = sym (all_end t _ _ _ c.loop-x.fit (c.loop-x.invariant t tells) c.loop-x-test.false)
