-- Tests that decide statements.
-- Assumes nothing.
use Rattle.std.specs.Prelude.{◌≡◌, refl, Bool, true, false, not, ◌&&◌, ◌||◌, List, [], ◌∷◌, ℕ, ◌≤◌, ◌<◌, leb, ltb, eqb}
use Rattle.std.proofs.Common.{sym, true≢false, ltb-true, leb-true, eqb-true, lt-ltb, le-leb, eq-eqb}
use Rattle.std.proofs.lemmas.Bool.{false≢true}
use Rattle.session.specs.Valid.{all}

-- the test passes exactly where the statement holds
pub record Decides (b : Bool) (P : Type 0) : Type 0 where
  pub holds : b ≡ true → P
  pub passes : P → b ≡ true

-- P holds of each
abbrev pub All : {A : Type 0} → (A → Type 0) → List A → Type 0
All P [] = Unit {0}
All P (x ∷ l) = P x × All P l

pub leb_decides : (m n : ℕ) → Decides (leb m n) (m ≤ n)
leb_decides m n = record { holds = leb-true m n; passes = le-leb m n }

pub ltb_decides : (m n : ℕ) → Decides (ltb m n) (m < n)
ltb_decides m n = record { holds = ltb-true m n; passes = lt-ltb m n }

pub eqb_decides : (m n : ℕ) → Decides (eqb m n) (m ≡ n)
eqb_decides m n = record { holds = eqb-true m n; passes = eq-eqb m n }

-- a test that must fail
pub not_decides : (b : Bool) → Decides (not b) (b ≡ false)
not_decides true = record { holds = λ e. sym e; passes = λ e. sym e }
not_decides false = record { holds = λ e. refl; passes = λ e. refl }

pub and_parts : (a b : Bool) → (a && b) ≡ true → (a ≡ true) × (b ≡ true)
and_parts true b e = (refl, e)
and_parts false b e = absurd (false≢true e)

pub or_parts : (a b : Bool) → (a || b) ≡ false → (a ≡ false) × (b ≡ false)
or_parts true b e = absurd (true≢false e)
or_parts false b e = (refl, e)

pub and_decides : {a b : Bool} {P Q : Type 0} → Decides a P → Decides b Q → Decides (a && b) (P × Q)
and_decides {a} {b} p q = record {
  holds = λ e. let h = and_parts a b e in (p.holds h.0, q.holds h.1);
  passes = λ x. both (p.passes x.0) (q.passes x.1);
}
  where
    both : a ≡ true → b ≡ true → (a && b) ≡ true
    both e f = rw (e, f)

-- another way to say the statement
pub via : {b : Bool} {P Q : Type 0} → Decides b P → (P → Q) → (Q → P) → Decides b Q
via d f g = record { holds = λ e. f (d.holds e); passes = λ x. d.passes (g x) }

pub all_decides : {A : Type 0} (test : A → Bool) (P : A → Type 0) → ((x : A) → Decides (test x) (P x)) → (l : List A)
    → Decides (all test l) (All P l)
all_decides test P d [] = record { holds = λ e. tt; passes = λ x. refl }
all_decides test P d (x ∷ l) = and_decides (d x) (all_decides test P d l)
