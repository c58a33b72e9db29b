-- Calls that pass the checks of 7 and 13: each is then the call itself.
-- Assumes nothing.
use Rattle.std.specs.Prelude.{◌≡◌, true, List, [], ◌∷◌}
use Rattle.session.specs.Valid.{valid}
use Rattle.session.specs.Calls.{Station, Call, own, long_enough, step}

-- each call of the list finds parts that are long enough, and a valid state
abbrev pub Passing : Station → List Call → Type 0
Passing s [] = Unit {0}
Passing s (x ∷ xs) = (long_enough s x ≡ true) × (valid s.state ≡ true) × Passing (own s x).station xs

pub step_own : (s : Station) (x : Call) → long_enough s x ≡ true → valid s.state ≡ true → step s x ≡ own s x
unfolding step
step_own s x long made = rw (long, made)
