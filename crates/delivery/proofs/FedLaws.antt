-- The plain receiver has heard a segment exactly where it was fed while below the next expected number plus 128.
-- Assumes nothing.
use Rattle.std.specs.Prelude.{◌≡◌, ◌↔◌, ◌⊎◌, Bool, cond, ◌||◌, ℕ, ◌+◌, ◌<◌, eqb}
use Rattle.std.proofs.Math.Path.{refl}
use Rattle.std.proofs.Common.{sym, ◌∙◌, arith}
use Rattle.std.proofs.Math.Logic.{inl, inr, ⊎_elim}
use Rattle.std.proofs.Math.Bool.{true, false}
use mathlib.Core.List.{List, [], ◌∷◌}
use Rattle.std.proofs.Math.Option.{Option, none, some}
use Rattle.std.proofs.Math.Dec.{ltb}
use Rattle.std.proofs.Math.ListN.{get_elem?}
use borrow.Author.Tests.{eqb-true, eq-eqb, ltb-true, lt-ltb}
use Rattle.protocol.specs.Protocol.{receive_window}
use Rattle.protocol.specs.declared.Settings.{Settings}
use Rattle.session.specs.Slots.{occurs}
use Rattle.session.specs.Calls.{Call}
use Rattle.delivery.specs.PlainReceiver.{
  Plain,
  at_first,
  Found,
  pushes_in,
  UnheardFrom,
  Unheard,
  next_expected,
  hear,
  feed,
  plain_answer,
  leave,
  plain_after,
}
use Rattle.delivery.specs.Claims.{FedIn, FedBelow, MissingFrom, Missing}

absurd_bool : {A : Type 0} → false ≡ true → A
absurd_bool e = absurd (let z : ◌≡◌ {A = ℕ} 0 1 = cc in omega arith)

pub or-true : (a b : Bool) → (a || b) ≡ true → (a ≡ true) ⊎ (b ≡ true)
or-true true b e = inl refl
or-true false b e = inr e

pub or_right : (a b : Bool) → b ≡ true → (a || b) ≡ true
or_right true b e = refl
or_right false b e = e

module _ (c : Settings) (accepted : List (List ℕ)) (n : ℕ) where
  abbrev Heard : Plain → Type 0
  Heard p = occurs n p.heard ≡ true

  leave_heard : (p : Plain) (f : Found) → (leave c accepted p f).heard ≡ p.heard
  leave_heard p Found.nothing = refl
  leave_heard p Found.short = refl
  leave_heard p (Found.message m) = refl

  -- ---- one push

  hear_preserves : (p : Plain) (sn : ℕ) → Heard p → Heard (hear c accepted p sn)
  unfolding occurs
  hear_preserves p sn h = go (ltb sn (next_expected c accepted p + receive_window))
    where
      go : (b : Bool) → Heard (cond b (record { heard = sn ∷ p.heard; out = p.out }) p)
      go true = or_right (eqb n sn) (occurs n p.heard) h
      go false = h

  hear_below : (p : Plain) → n < next_expected c accepted p + receive_window → Heard (hear c accepted p n)
  unfolding occurs
  hear_below p h = rw (lt-ltb n (next_expected c accepted p + receive_window) h, eq-eqb n n refl)

  hear_only : (p : Plain) (sn : ℕ) → Heard (hear c accepted p sn) → Heard p ⊎ ((sn ≡ n) × (n < next_expected c accepted p + receive_window))
  unfolding occurs
  hear_only p sn = go (ltb sn (next_expected c accepted p + receive_window)) refl
    where
      go : (b : Bool) → ltb sn (next_expected c accepted p + receive_window) ≡ b
          → Heard (cond b (record { heard = sn ∷ p.heard; out = p.out }) p)
          → Heard p ⊎ ((sn ≡ n) × (n < next_expected c accepted p + receive_window))
      go true e h =
          ⊎_elim
          (λ q. let s : sn ≡ n = omega (arith, eqb-true n sn q) in
          inr (s, omega (arith, ltb-true sn (next_expected c accepted p + receive_window) e)))
          (λ q. inl q) (or-true (eqb n sn) (occurs n p.heard) h)
      go false e h = inl h

  -- ---- the pushes of a datagram

  feed_preserves : (sns : List ℕ) (p : Plain) → Heard p → Heard (feed c accepted p sns)
  unfolding feed
  feed_preserves [] p h = h
  feed_preserves (sn ∷ sns) p h = feed_preserves sns (hear c accepted p sn) (hear_preserves p sn h)

  feed_hears : (sns : List ℕ) (p : Plain) → FedIn c accepted n p sns → Heard (feed c accepted p sns)
  unfolding feed FedIn
  feed_hears [] p h = absurd h
  feed_hears (sn ∷ sns) p h =
      ⊎_elim (λ q. feed_preserves sns (hear c accepted p sn) (rw q.0 (hear_below p q.1)))
      (λ q. feed_hears sns (hear c accepted p sn) q) h

  feed_only : (sns : List ℕ) (p : Plain) → Heard (feed c accepted p sns) → Heard p ⊎ FedIn c accepted n p sns
  unfolding feed FedIn
  feed_only [] p h = inl h
  feed_only (sn ∷ sns) p h =
      ⊎_elim (λ q. ⊎_elim (λ r. inl r) (λ r. inr (inl r)) (hear_only p sn q)) (λ q. inr (inr q)) (feed_only sns (hear c accepted p sn) h)

  -- ---- lists of calls

  after_preserves : (xs : List Call) (p : Plain) → Heard p → Heard (plain_after c accepted p xs)
  unfolding plain_after
  after_preserves [] p h = h
  after_preserves (Call.take_in d ∷ xs) p h = after_preserves xs _ (feed_preserves (pushes_in c d) p h)
  after_preserves (Call.read room ∷ xs) p h = after_preserves xs _ (rw (leave_heard p (plain_answer c accepted p room)) h)
  after_preserves (Call.send m ∷ xs) p h = after_preserves xs p h
  after_preserves (Call.flush t ∷ xs) p h = after_preserves xs p h
  after_preserves (Call.update t ∷ xs) p h = after_preserves xs p h
  after_preserves (Call.check t ∷ xs) p h = after_preserves xs p h

  pub fed_heard : (xs : List Call) (p : Plain) → FedBelow c accepted n p xs → Heard (plain_after c accepted p xs)
  unfolding plain_after FedBelow
  fed_heard [] p h = absurd h
  fed_heard (Call.take_in d ∷ xs) p h =
      ⊎_elim (λ q. after_preserves xs _ (feed_hears (pushes_in c d) p q)) (λ q. fed_heard xs _ q) h
  fed_heard (Call.read room ∷ xs) p h = fed_heard xs _ h
  fed_heard (Call.send m ∷ xs) p h = fed_heard xs p h
  fed_heard (Call.flush t ∷ xs) p h = fed_heard xs p h
  fed_heard (Call.update t ∷ xs) p h = fed_heard xs p h
  fed_heard (Call.check t ∷ xs) p h = fed_heard xs p h

  pub heard_fed : (xs : List Call) (p : Plain) → Heard (plain_after c accepted p xs) → Heard p ⊎ FedBelow c accepted n p xs
  unfolding plain_after FedBelow
  heard_fed [] p h = inl h
  heard_fed (Call.take_in d ∷ xs) p h =
      ⊎_elim (λ q. ⊎_elim (λ r. inl r) (λ r. inr (inl r)) (feed_only (pushes_in c d) p q)) (λ q. inr (inr q)) (heard_fed xs _ h)
  heard_fed (Call.read room ∷ xs) p h =
      ⊎_elim (λ q. inl (rw (leave_heard p (plain_answer c accepted p room)) at q)) (λ q. inr q) (heard_fed xs _ h)
  heard_fed (Call.send m ∷ xs) p h = heard_fed xs p h
  heard_fed (Call.flush t ∷ xs) p h = heard_fed xs p h
  heard_fed (Call.update t ∷ xs) p h = heard_fed xs p h
  heard_fed (Call.check t ∷ xs) p h = heard_fed xs p h

  -- since the start
  pub heard_exactly : (xs : List Call) → Heard (plain_after c accepted at_first xs) ↔ FedBelow c accepted n at_first xs
  unfolding occurs
  heard_exactly xs = ((λ h. ⊎_elim (λ q. absurd_bool q) (λ q. q) (heard_fed xs at_first h)), fed_heard xs at_first)

-- ---- what is missing is what is not heard

module _ (c : Settings) (accepted : List (List ℕ)) (xs : List Call) where
  not_heard : (n : ℕ) → (FedBelow c accepted n at_first xs → ⊥) → occurs n (plain_after c accepted at_first xs).heard ≡ false
  not_heard n h = go (occurs n (plain_after c accepted at_first xs).heard) refl
    where
      go : (b : Bool) → occurs n (plain_after c accepted at_first xs).heard ≡ b → b ≡ false
      go true e = absurd (h ((heard_exactly c accepted n xs).0 e))
      go false e = refl

  pub missing_unheard : Missing c accepted xs → Unheard c accepted (plain_after c accepted at_first xs)
  missing_unheard = go (get_elem? accepted (plain_after c accepted at_first xs).out)
    where
      go : (x : Option (List ℕ)) → MissingFrom c accepted xs x → UnheardFrom c accepted (plain_after c accepted at_first xs) x
      go none m = tt
      go (some a) m = (m.0, m.1, m.2, not_heard m.0 m.3)

  pub unheard_missing : Unheard c accepted (plain_after c accepted at_first xs) → Missing c accepted xs
  unheard_missing = go (get_elem? accepted (plain_after c accepted at_first xs).out)
    where
      go : (x : Option (List ℕ)) → UnheardFrom c accepted (plain_after c accepted at_first xs) x → MissingFrom c accepted xs x
      go none m = tt
      go (some a) m = (m.0, m.1, m.2, λ f. let h : false ≡ true = sym m.3 ∙ (heard_exactly c accepted m.0 xs).1 f in absurd_bool h)
