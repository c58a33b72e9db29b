-- `in_line`: the words before the index are tested.
use mathlib.Core.Path.{refl, sym}
use Rattle.checking.proofs.Lines.{line_next, line_end}
use Rattle.checking.proofs.full.in_line.Goals as goal

pub loop-i-preserved : goal.loop-i-preserved
loop-i-preserved c = line_next c.args.words.now _ _ _ c.loop-i.fit c.loop-i.invariant _ c.loop-i-test.true refl

pub returns : goal.returns
returns c = sym (line_end c.args.words.now _ _ _ c.loop-i.fit c.loop-i.invariant c.loop-i-test.false)
