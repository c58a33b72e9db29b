-- Numbers far below 2^31: before and after are less and greater. And what `||` says.
-- Assumes nothing.
use Rattle.std.specs.Prelude.{◌≡◌, refl, ◌⊎◌, Bool, true, false, ◌||◌, ◌&&◌, ℕ, ◌^◌, ◌<◌, leb, ltb}
use Rattle.std.proofs.Common.{◌∙◌, inl, inr, arith, ltb-true, ltb-false, lt-ltb, le-ltb, le-leb}
use Rattle.std.proofs.lemmas.Bool.{lt-leb}
use Rattle.protocol.specs.Serial.{minus, is_before, is_after}
use Rattle.protocol.specs.SerialLaws.{before_test, after_test}
use Rattle.delivery.proofs.FedLaws.{or-true, or_right}

pub before_small : (a b : ℕ) → a < 2 ^ 31 → b < 2 ^ 31 → is_before a b ≡ ltb a b
before_small a b x y = before_test a b ∙ go (ltb a b) refl
  where
    go : (t : Bool) → ltb a b ≡ t → leb (2 ^ 31) (minus a b) ≡ t
    go true e = le-leb (2 ^ 31) (minus a b) (omega (arith, ltb-true a b e))
    go false e = lt-leb (2 ^ 31) (minus a b) (omega (arith, ltb-false a b e))

pub after_small : (a b : ℕ) → a < 2 ^ 31 → b < 2 ^ 31 → is_after a b ≡ ltb b a
after_small a b x y = after_test a b ∙ go (ltb b a) refl (ltb a b) refl
  where
    no : (s : Bool) → (s && false) ≡ false
    no true = refl
    no false = refl

    go : (t : Bool) → ltb b a ≡ t → (u : Bool) → ltb a b ≡ u → (ltb 0 (minus a b) && ltb (minus a b) (2 ^ 31)) ≡ t
    go true e u f = rw (lt-ltb 0 (minus a b) (omega (arith, ltb-true b a e)), lt-ltb (minus a b) (2 ^ 31) (omega (arith, ltb-true b a e)))
    go false e true f = rw (le-ltb (minus a b) (2 ^ 31) (omega (arith, ltb-true a b f))) (no (ltb 0 (minus a b)))
    go false e false f = rw (le-ltb 0 (minus a b) (omega (arith, ltb-false a b f, ltb-false b a e)))

-- ---- either of two tests

pub or_left : (a b : Bool) → a ≡ true → (a || b) ≡ true
or_left a b e = rw e

pub or_both : (a b a' b' : Bool) → (a ≡ true → a' ≡ true) → (b ≡ true → b' ≡ true) → (a || b) ≡ true → (a' || b') ≡ true
or_both a b a' b' f g e = go (or-true a b e)
  where
    go : (a ≡ true) ⊎ (b ≡ true) → (a' || b') ≡ true
    go (inl x) = or_left a' b' (f x)
    go (inr x) = or_right a' b' (g x)
