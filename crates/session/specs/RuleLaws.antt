-- Laws of what a flush does with the outstanding segments, each by its rule.
-- Assumes nothing.
use Rattle.std.specs.Prelude.{◌≡◌, refl, Bool, true, false, cond, List, [], ◌∷◌, ◌++◌, map, ℕ, suc, ◌≤◌, length}
use Rattle.std.proofs.Common.{ap, ◌∙◌, zero-le, arith}
use Rattle.protocol.specs.declared.Settings.{Settings}
use Rattle.lists.specs.declared.Sent.{Sent}
use Rattle.congestion.specs.declared.Losses.{Losses}
use Rattle.retransmission.specs.Transmissions.{is_sent}
use Rattle.session.specs.State.{State}
use Rattle.session.specs.Flushing.{
  window_of,
  numbered_count,
  with_numbered,
  Ruled,
  ruling,
  ruled,
  after_rule,
  afterwards,
  transmitted,
  losses_of,
}
use Rattle.session.specs.Decides.{All}
use Rattle.session.specs.MapLaws.{map-append}

-- what a flush of the state s at t tells of losses
abbrev pub losses_at : State → ℕ → Losses
losses_at s t =
    let d = s.sending in
    let k = numbered_count (window_of s) d in
    losses_of s k (ruled s.settings d.round_trip.timeout t (with_numbered d k))

-- ---- those that are transmitted

transmitted_append : (a b : List Ruled) → transmitted (a ++ b) ≡ transmitted a ++ transmitted b
unfolding transmitted
transmitted_append [] b = refl
transmitted_append (r ∷ a) b = rw (transmitted_append a b) (by_rule (is_sent r.rule))
  where
    by_rule : (sends : Bool) → cond sends (after_rule r ∷ (transmitted a ++ transmitted b)) (transmitted a ++ transmitted b)
        ≡ cond sends (after_rule r ∷ transmitted a) (transmitted a) ++ transmitted b
    by_rule true = refl
    by_rule false = refl

pub sent_append : (c : Settings) (timeout t : ℕ) (a b : List Sent)
    → transmitted (ruled c timeout t (a ++ b)) ≡ transmitted (ruled c timeout t a) ++ transmitted (ruled c timeout t b)
sent_append c timeout t a b =
    ap transmitted (map-append (ruling c timeout t) a b) ∙ transmitted_append (ruled c timeout t a) (ruled c timeout t b)

-- what holds of each afterwards holds of these
pub all_transmitted : (P : Sent → Type 0) (l : List Ruled) → All P (afterwards l) → All P (transmitted l)
unfolding transmitted
all_transmitted P [] a = tt
all_transmitted P (r ∷ l) a = go (is_sent r.rule) (all_transmitted P l a.1)
  where
    go : (sends : Bool) → All P (transmitted l) → All P (cond sends (after_rule r ∷ transmitted l) (transmitted l))
    go true i = (a.0, i)
    go false i = i

pub transmitted_few : (l : List Ruled) → length (transmitted l) ≤ length l
unfolding transmitted
transmitted_few [] = zero-le
transmitted_few (r ∷ l) = go (is_sent r.rule) (transmitted_few l)
  where
    go : (sends : Bool) → length (transmitted l) ≤ length l
        → length (cond sends (after_rule r ∷ transmitted l) (transmitted l)) ≤ suc (length l)
    go true i = omega arith
    go false i = omega arith

-- ---- each segment by itself

-- one after its rule
abbrev pub sent_after : Settings → ℕ → ℕ → Sent → Sent
sent_after c timeout t x = after_rule (ruling c timeout t x)

module _ (c : Settings) (timeout t : ℕ) where
  pub after_each : (l : List Sent) → afterwards (ruled c timeout t l) ≡ map (sent_after c timeout t) l
  after_each [] = refl
  after_each (x ∷ l) = ap {B = List Sent} (λ (r : List Sent). sent_after c timeout t x ∷ r) (after_each l)

  -- what the rule leaves as it is
  pub after_unchanged : {A : Type 0} (f : Sent → A) → ((x : Sent) → f (sent_after c timeout t x) ≡ f x) → (l : List Sent)
      → map f (afterwards (ruled c timeout t l)) ≡ map f l
  after_unchanged f same [] = refl
  after_unchanged f same (x ∷ l) = rw (same x, after_unchanged f same l)
