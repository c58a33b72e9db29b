-- `ascend`: the neighbours before index i are tested.
use mathlib.Core.Path.{sym}
use Rattle.checking.proofs.Turns.{near_next, near_end}
use Rattle.checking.proofs.ahead.ascend.Goals as goal

pub loop-i-preserved : goal.loop-i-preserved
loop-i-preserved c =
    near_next c.args.numbers.now _ _ c.loop-i.fit c.loop-i.auto.i c.loop-i.invariant _ c.loop-i-test.true c.follows-fit.ensures

pub returns : goal.returns
returns c = sym (near_end c.args.numbers.now _ _ c.loop-i.fit c.loop-i.auto.i c.loop-i.invariant c.loop-i-test.false)
