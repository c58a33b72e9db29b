-- `every`: those before the index are tested.
use Rattle.std.proofs.Common.{◌≡◌, Bool, ◌&&◌, drop}
use Rattle.session.specs.Valid.{all}
use Rattle.checking.proofs.limits.every.Given as goal

abbrev pub invariant-loop-x : goal.invariant-loop-x
invariant-loop-x g l =
    (t : g.row.T.Denot → Bool) → ((x : _) (b : Bool) → goal.F-post g l.fn.test x b → b ≡ t x)
    → all t l.list ≡ (l.fit && all t (drop l.x-index l.list))
