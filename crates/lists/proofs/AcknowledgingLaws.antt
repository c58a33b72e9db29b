-- Laws of `Acknowledging`: removing by two tests, and what removing and skipping preserve.
-- Assumes nothing.
use Rattle.std.specs.Prelude.{◌≡◌, Bool, ◌&&◌}
use Rattle.std.proofs.Math.Path.{refl}
use Rattle.std.proofs.Math.Bool.{true, false, cond}
use mathlib.Core.List.{List, [], ◌∷◌}
use Prim.Native.Nat.{ℕ, suc, ◌+◌, ◌≤◌}
use native.Mathlib.Omega.{arith}
use Rattle.std.proofs.Math.ListN.{length}
use Rattle.protocol.specs.Serial.{is_before}
use Rattle.lists.specs.declared.Sent.{Sent}
use Rattle.lists.specs.Orders.{ascending}
use Rattle.lists.specs.OrderLaws.{First, ascending_first, ascending_cons, ascending_lower}
use Rattle.lists.specs.Acknowledging.{select, filter, one_skip, skip_before}

module _ {A : Type 0} where
  -- to select by two tests in turn is to select by both
  pub select_both : (f g : A → Bool) (l : List A) → select g (select f l) ≡ select (λ x. f x && g x) l
  unfolding select
  select_both f g [] = refl
  select_both f g (x ∷ l) = go (f x) (select_both f g l)
    where
      go : (t : Bool) → select g (select f l) ≡ select (λ x. f x && g x) l
          → select g (cond t (x ∷ select f l) (select f l)) ≡ cond (t && g x) (x ∷ select (λ x. f x && g x) l) (select (λ x. f x && g x) l)
      go true e = rw e
      go false e = e

  -- two tests that agree select the same
  pub select_same : (f g : A → Bool) → ((x : A) → f x ≡ g x) → (l : List A) → select f l ≡ select g l
  unfolding select
  select_same f g e [] = refl
  select_same f g e (x ∷ l) = rw (e x, select_same f g e l)

  pub select_length : (test : A → Bool) (l : List A) → length (select test l) ≤ length l
  unfolding select
  select_length test [] = omega arith
  select_length test (x ∷ l) = go (test x) (select_length test l)
    where
      go : (t : Bool) → length (select test l) ≤ length l → length (cond t (x ∷ select test l) (select test l)) ≤ suc (length l)
      go true h = omega arith
      go false h = omega arith

  -- an ascending list stays ascending
  pub select_ascending : (offset : A → ℕ) (test : A → Bool) (least limit : ℕ) (l : List A) → ascending offset least limit l ≡ true
      → ascending offset least limit (select test l) ≡ true
  unfolding select
  select_ascending offset test least limit [] h = h
  select_ascending offset test least limit (x ∷ l) h =
      let f = ascending_first offset least limit x l h in
      go (test x) f (select_ascending offset test (offset x + 1) limit l f.later)
    where
      go : (t : Bool) → First least (offset x) limit (ascending offset (offset x + 1) limit l)
          → ascending offset (offset x + 1) limit (select test l) ≡ true
          → ascending offset least limit (cond t (x ∷ select test l) (select test l)) ≡ true
      go true f ih = ascending_cons offset least limit x (select test l) (record { low = f.low; high = f.high; later = ih })
      go false f ih = ascending_lower offset least (offset x + 1) limit (select test l) (omega (arith, f.low)) ih

-- to remove by two tests in turn is to remove by both
pub filter_both : (f g : ℕ → Bool) (l : List Sent) → filter g (filter f l) ≡ filter (λ n. f n && g n) l
filter_both f g l = select_both (λ s. f s.record.number) (λ s. g s.record.number) l

-- a skip changes no number and no held part
pub skip_number : (n : ℕ) (s : Sent) → (skip_before n s).record.number ≡ s.record.number
unfolding skip_before
skip_number n s = go (is_before s.record.number n)
  where
    go : (t : Bool) → (cond t (one_skip s) s).record.number ≡ s.record.number
    go true = refl
    go false = refl

pub skip_held : (n : ℕ) (s : Sent) → (skip_before n s).held ≡ s.held
unfolding skip_before
skip_held n s = go (is_before s.record.number n)
  where
    go : (t : Bool) → (cond t (one_skip s) s).held ≡ s.held
    go true = refl
    go false = refl
