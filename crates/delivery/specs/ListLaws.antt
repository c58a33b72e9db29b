-- Entries of a list by their number (`get_elem?`), and parts of a list.
-- Assumes nothing.
use Rattle.std.specs.Prelude.{◌≡◌, refl, List, [], ◌∷◌, ℕ, zero, suc, ◌+◌, ◌-◌, ◌<◌, length, take, drop}
use Rattle.std.proofs.Common.{sym, suc-le-suc, not-suc-le-zero, le_of_suc-le-suc, zero-add, suc-add, arith}
use Rattle.std.proofs.Math.Option.{Option, none, some}
use Rattle.std.proofs.Math.Nat.{sub-zero, zero-sub, suc-sub-suc}
use Rattle.std.proofs.Math.ListN.{get_elem?}
use Rattle.std.proofs.Math.Seq.{take-nil}

-- ---- entries by number

pub none≢some : {A : Type 0} {a : A} → Path (Option A) none (some a) → ⊥
none≢some e = let z : ◌≡◌ {A = ℕ} 0 1 = cc in omega arith

pub entry_at_lem : {A : Type 0} (l : List A) (n : ℕ) → n < length l → (a : A) × (get_elem? l n ≡ some a)
entry_at_lem [] n h = absurd (not-suc-le-zero h)
entry_at_lem (x ∷ l) zero h = (x, refl)
entry_at_lem (x ∷ l) (suc n) h = entry_at_lem l n (le_of_suc-le-suc h)

pub entry_inside : {A : Type 0} (l : List A) (n : ℕ) (a : A) → get_elem? l n ≡ some a → n < length l
entry_inside [] n a e = absurd (none≢some e)
entry_inside (x ∷ l) zero a e = omega arith
entry_inside (x ∷ l) (suc n) a e = suc-le-suc (entry_inside l n a e)

-- the list from that entry on
pub drop_entry : {A : Type 0} (l : List A) (n : ℕ) (a : A) → get_elem? l n ≡ some a → drop n l ≡ a ∷ drop (suc n) l
drop_entry [] n a e = absurd (none≢some e)
drop_entry (x ∷ l) zero a e = cc
drop_entry (x ∷ l) (suc n) a e = drop_entry l n a e

pub drop_no_entry : {A : Type 0} (l : List A) (n : ℕ) → get_elem? l n ≡ none → drop n l ≡ []
drop_no_entry [] zero e = refl
drop_no_entry [] (suc n) e = refl
drop_no_entry (x ∷ l) zero e = absurd (none≢some (sym e))
drop_no_entry (x ∷ l) (suc n) e = drop_no_entry l n e

pub entry_of_drop : {A : Type 0} (l : List A) (n i : ℕ) → get_elem? (drop n l) i ≡ get_elem? l (n + i)
entry_of_drop l zero i = rw (zero-add i)
entry_of_drop [] (suc n) i = refl
entry_of_drop (x ∷ l) (suc n) i = rw (suc-add n i) (entry_of_drop l n i)

-- ---- front parts

pub drop_take : {A : Type 0} (a b : ℕ) (l : List A) → drop a (take b l) ≡ take (b - a) (drop a l)
drop_take zero b l = rw (sub-zero b)
drop_take (suc a) zero l = rw (zero-sub (suc a))
drop_take (suc a) (suc b) [] = sym (take-nil (suc b - suc a))
drop_take (suc a) (suc b) (x ∷ l) = rw (suc-sub-suc b a) (drop_take a b l)
