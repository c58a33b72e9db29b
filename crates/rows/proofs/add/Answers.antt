-- `rows::add` meets its contract: the bytes passed are sums, the others as they were.
use Rattle.std.proofs.Common.{rules, arith}
use Rattle.rows.specs.RowLaws.{sum_none, sum_next, sum_all}
use Rattle.rows.proofs.add.Goals as goal

pub loop-i-init : goal.loop-i-init
loop-i-init c = sum_none _ _ _

pub loop-i-preserved : goal.loop-i-preserved
loop-i-preserved c = sum_next _ _ _ _ _ _ c.loop-i.invariant (omega arith) c.add.ensures

pub returns : goal.returns
returns c = sum_all _ _ _ _ _ c.loop-i.invariant c.loop-i-test.false (search rules)
