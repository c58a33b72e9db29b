-- The first call of a list that passes: it is the call itself, and the others go on from what it leaves.
-- Assumes nothing.
use Rattle.std.specs.Prelude.{◌≡◌, List, ◌∷◌}
use Rattle.session.specs.Calls.{Station, Call, own, history, after}
use Rattle.delivery.specs.Passing.{Passing, step_own}

module _ (s : Station) (x : Call) (xs : List Call) (p : Passing s (x ∷ xs)) where
  pub history_first : history s (x ∷ xs) ≡ record { call = x; answer = (own s x).answer } ∷ history (own s x).station xs
  unfolding history
  history_first = rw (step_own s x p.0 p.1)

  pub after_first : after s (x ∷ xs) ≡ after (own s x).station xs
  unfolding after
  after_first = rw (step_own s x p.0 p.1)
