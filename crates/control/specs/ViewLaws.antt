-- Laws of `Views`.
-- Assumes nothing.
use Rattle.std.specs.Prelude.{◌≡◌, true, List, [], ◌∷◌, ℕ, zero, suc, ◌≤◌, length}
use Rattle.std.proofs.Common.{zero-le, arith, leb-true}
use Rattle.session.specs.Decides.{and_parts}
use Rattle.control.specs.declared.Flight.{Flight}
use Rattle.control.specs.declared.Arrival.{Arrival}
use Rattle.control.specs.Views.{pairs, counted}

-- no more pairs than are asked for
pub pairs_most : (n : ℕ) (l : List ℕ) → length (pairs n l) ≤ n
unfolding pairs
pairs_most zero l = zero-le
pairs_most (suc n) [] = zero-le
pairs_most (suc n) (a ∷ []) = zero-le
pairs_most (suc n) (a ∷ b ∷ l) = omega (arith, pairs_most n l)

-- what the counts' test says
pub record Counts (f : Flight) (a : Arrival) : Type 0 where
  pub queued : f.queued ≤ 128
  pub outstanding : f.outstanding ≤ 32
  pub ready : a.ready ≤ 128
  pub waiting : a.waiting ≤ 128
  pub acks : a.acks ≤ 256

pub counts : (f : Flight) (a : Arrival) → counted f a ≡ true → Counts f a
counts f a e =
    let p = and_parts _ _ e in
    let b = and_parts _ _ p.0 in
    let c = and_parts _ _ b.0 in
    let d = and_parts _ _ c.0 in
    record {
      queued = leb-true _ _ d.0;
      outstanding = leb-true _ _ d.1;
      ready = leb-true _ _ c.1;
      waiting = leb-true _ _ b.1;
      acks = leb-true _ _ p.1;
    }
