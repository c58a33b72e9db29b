-- `run`: the numbers before index i are next, next + 1 and so on, and `expected` is the number after them.
use mathlib.Core.Path.{◌≡◌, sym, ◌∙◌}
use native.Mathlib.Omega.{arith}
use Rattle.arriving.proofs.Moves.{runs_more, runs_stop, runs_end}
use Rattle.arriving.proofs.run.Goals as goal

pub loop-i-preserved : goal.loop-i-preserved
loop-i-preserved c =
    λ words e. runs_more words _ _ _ _ _ e c.told-numbers c.requires (c.loop-i.invariant words e) _ c.loop-i-test.true c.difference.ensures
    _ c.sum-expected.ensures c.if-difference-ne0.false

pub returns-then-difference-ne0 : goal.returns-then-difference-ne0
returns-then-difference-ne0 c = (
  omega arith,
  λ words e. sym (runs_stop words _ _ _ _ _ e c.told-numbers c.requires (c.loop-i.invariant words e) _ c.loop-i-test.true
      c.difference.ensures c.if-difference-ne0.true),
)

pub returns : goal.returns
returns c =
    let all : c.loop-i.i ≡ c.args.n = omega arith in
    (omega arith, λ words e. sym (runs_end words _ _ _ _ _ e c.told-numbers c.requires (c.loop-i.invariant words e) c.loop-i-test.false ∙ all))
