-- `parity_restore::rest_row` meets its contract: what the places from p on give, p weighed as place 0; then the parity shard.
use Rattle.std.proofs.Common.{◌-◌, arith}
use Rattle.parity_restore.specs.RestoreLaws.{rest_none, rest_next, rest_done}
use Rattle.parity_restore.proofs.rest_row.Goals as goal

pub loop-p-init : goal.loop-p-init
loop-p-init c = rest_none _ _ _ (λ i. omega (arith, c.type_inv.s i)) _ _ _ c.clear.ensures

pub loop-p-preserved : goal.loop-p-preserved
loop-p-preserved c =
    rest_next _ _ _ (λ i. omega (arith, c.type_inv.s i)) _ c.loop-p.p (c.loop-p.p - 1) _ _ _ _ (omega arith) (omega arith)
    c.loop-p.invariant c.step.ensures c.add_held.ensures

pub returns : goal.returns
returns c =
    rest_done _ _ _ (λ i. omega (arith, c.type_inv.s i)) _ _ _ _ _ _ c.loop-p-test.false c.clear.ensures.size
    c.loop-p.invariant c.add_held-2.ensures
