-- `frames::lent::adds_up` meets its contract: what is left for the lengths that are left.
use Rattle.std.proofs.Common.{rules, sym, ◌∙◌}
use Rattle.frames.specs.PartLaws.{packed_step, packed_short, packed_end}
use Rattle.frames.proofs.lent.adds_up.Goals as goal

pub returns-then-left-n : goal.returns-then-left-n
returns-then-left-n c = sym (c.loop-n.invariant ∙ packed_short c.args.lengths.now c.loop-n.n-index _ c.loop-n.left c.from-n.ensures (search rules) (search rules))

pub loop-n-preserved : goal.loop-n-preserved
loop-n-preserved c = c.loop-n.invariant ∙ packed_step c.args.lengths.now c.loop-n.n-index _ c.loop-n.left c.from-n.ensures (search rules) (search rules)

pub returns : goal.returns
returns c = sym (c.loop-n.invariant ∙ packed_end _ _ _ c.loop-n-test.false)
