-- An acknowledgement noted in the ack list: the pairs, and what stands behind them.
-- Assumes nothing.
use mathlib.Core.Path.{◌≡◌, refl, sym, ap, ◌∙◌}
use mathlib.Core.Bool.{Bool, true, false, cond, ◌&&◌}
use mathlib.Core.List.{List, [], ◌∷◌, ◌++◌}
use Prim.Native.Nat.{ℕ, zero, suc, ◌+◌, ◌*◌, ◌≤◌, ◌<◌}
use native.Mathlib.Numerals.{add-one}
use native.Mathlib.Omega.{arith}
use borrow.Author.Tests.{lt-ltb, le-ltb, ltb-true}
use lib.Dec.{ltb}
use lib.ListN.{length, drop, set}
use lib.Seq.{sets, drop-set-lt, length-sets}
use Rattle.wire.specs.declared.Header.{Header}
use Rattle.session.specs.State.{Ack}
use Rattle.control.specs.Views.{pairs}
use Rattle.keeping.specs.Pushing.{is_in_window}
use Rattle.receive.specs.Pushes.{Noted}

-- ---- what `note` does

module _ (next : ℕ) (h : Header) (was : List ℕ) (n : ℕ) (b : Bool) (e : b ≡ is_in_window next h.sn) where
  pub noted : b ≡ true → n < 256 → Noted next h was n (set (set was (2 * n) h.sn) (2 * n + 1) h.ts) (n + 1)
  noted t l = let w = sym e ∙ t in record { count = rw (w, lt-ltb n 256 l); list = rw (w, lt-ltb n 256 l, add-one) }

  pub full : b ≡ true → 256 ≤ n → Noted next h was n was n
  full t l = let w = sym e ∙ t in record { count = rw (w, le-ltb n 256 l); list = rw (w, le-ltb n 256 l) }

  pub passed_by : b ≡ false → Noted next h was n was n
  passed_by t = let w = sym e ∙ t in record { count = rw w; list = rw w }

-- ---- pairs

two_more : (n : ℕ) → 2 * suc n ≡ suc (suc (2 * n))
two_more n = omega arith

pub pairs_length : (n : ℕ) (l : List ℕ) → 2 * n ≤ length l → length (pairs n l) ≡ n
unfolding pairs
pairs_length zero l h = refl
pairs_length (suc n) [] h = absurd (omega arith)
pairs_length (suc n) (a ∷ []) h = absurd (omega arith)
pairs_length (suc n) (a ∷ b ∷ l) h = ap suc (pairs_length n l (omega arith))

-- one more behind n pairs
pairs_more : (n : ℕ) (l : List ℕ) (sn ts : ℕ) → 2 * n + 2 ≤ length l → pairs (n + 1) (sets l (2 * n) (sn ∷ ts ∷ [])) ≡ pairs n l
    ++ (record { sn = sn; ts = ts } ∷ [])
unfolding pairs
pairs_more zero [] sn ts h = absurd (omega arith)
pairs_more zero (a ∷ []) sn ts h = absurd (omega arith)
pairs_more zero (a ∷ b ∷ l) sn ts h = refl
pairs_more (suc n) [] sn ts h = absurd (omega arith)
pairs_more (suc n) (a ∷ []) sn ts h = absurd (omega arith)
pairs_more (suc n) (a ∷ b ∷ l) sn ts h =
    rw (add-one, two_more n)
    (ap (λ (r : List Ack). record { sn = a; ts = b } ∷ r) (rw add-one at (pairs_more n l sn ts (omega arith))))

module _ (next : ℕ) (h : Header) (was : List ℕ) (n : ℕ) (is : List ℕ) (m : ℕ) (few : n ≤ 256) (long : 512 ≤ length was)
    (e : Noted next h was n is m) where
  -- the acks noted, as the definition has them
  abbrev acks_then : Bool → List Ack
  acks_then t = cond (t && ltb (length (pairs n was)) 256) (pairs n was ++ (record { sn = h.sn; ts = h.ts } ∷ [])) (pairs n was)

  pub noted_pairs : pairs m is ≡ acks_then (is_in_window next h.sn)
  noted_pairs = rw (e.count, e.list, pairs_length n was (omega arith)) (go (is_in_window next h.sn) (ltb n 256) refl)
    where
      go : (a b : Bool) → ltb n 256 ≡ b
          → pairs (cond (a && b) (n + 1) n) (cond (a && b) (sets was (2 * n) (h.sn ∷ h.ts ∷ [])) was)
          ≡ cond (a && b) (pairs n was ++ (record { sn = h.sn; ts = h.ts } ∷ [])) (pairs n was)
      go true true f = pairs_more n was h.sn h.ts (omega (arith, ltb-true n 256 f))
      go true false f = refl
      go false b f = refl

  -- what stands behind the pairs is as it was
  pub noted_beyond : drop (2 * m) is ≡ drop (2 * m) was
  noted_beyond = rw (e.count, e.list) (go (is_in_window next h.sn && ltb n 256))
    where
      go : (t : Bool) → drop (2 * cond t (n + 1) n) (cond t (sets was (2 * n) (h.sn ∷ h.ts ∷ [])) was) ≡ drop (2 * cond t (n + 1) n) was
      go true = drop-set-lt (2 * (n + 1)) (set was (2 * n) h.sn) (suc (2 * n)) h.ts (omega arith) ∙ drop-set-lt (2 * (n + 1)) was
          (2 * n) h.sn (omega arith)
      go false = refl

  pub noted_more : n ≤ m
  noted_more = rw e.count (go (is_in_window next h.sn && ltb n 256))
    where
      go : (t : Bool) → n ≤ cond t (n + 1) n
      go true = omega arith
      go false = omega arith

  -- none is noted past 256
  pub noted_few : m ≤ 256
  noted_few = rw e.count (go (is_in_window next h.sn) (ltb n 256) refl)
    where
      go : (a b : Bool) → ltb n 256 ≡ b → cond (a && b) (n + 1) n ≤ 256
      go true true f = omega (arith, ltb-true n 256 f)
      go true false f = few
      go false b f = few

  pub noted_length : length is ≡ length was
  noted_length = rw e.list (go (is_in_window next h.sn && ltb n 256))
    where
      go : (t : Bool) → length (cond t (sets was (2 * n) (h.sn ∷ h.ts ∷ [])) was) ≡ length was
      go true = length-sets was (2 * n) (h.sn ∷ h.ts ∷ [])
      go false = refl
