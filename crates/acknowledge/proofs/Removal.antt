-- The turns of the loop that removes acknowledged segments: words, transmissions and records side by side.
-- Assumes nothing.
use mathlib.Core.Path.{◌≡◌, sym, ap, ◌∙◌}
use mathlib.Core.Bool.{Bool, true, false}
use mathlib.Core.List.{List}
use Prim.Native.Nat.{ℕ, ◌+◌, ◌<◌}
use native.Mathlib.Omega.{arith}
use lib.ListN.{length, take, drop, get_or, set}
use Rattle.timing.specs.declared.Record.{Record}
use Rattle.lists.specs.Views.{Holds}
use Rattle.lists.specs.Joining.{with_record, joined}
use Rattle.lists.specs.JoiningLaws.{length_joined, take_joined, get_joined, set_joined}
use Rattle.lists.specs.Acknowledging.{filter}
use Rattle.lists.specs.declared.Outstanding.{Outstanding}
use Rattle.lists.specs.declared.Sent.{Sent}
use Rattle.lists.proofs.Loops.{Packed}
use Rattle.lists.proofs.Writes.{packed_pass, packed_fail}
use Rattle.words.specs.Words.{paired, outstanding_at, outstanding_in}
use Rattle.words.proofs.Pairs.{paired_length, paired_take, paired_get, paired_set}
use Rattle.acknowledge.specs.Flights.{JoinedIn}

-- ---- three arrays side by side

-- what stands in three arrays
abbrev pub beside : List ℕ → List ℕ → List Record → List Sent
beside ws ts rs = joined (paired outstanding_at ws ts) rs

module _ (ws ts : List ℕ) (rs : List Record) where
  pub beside_length : (n : ℕ) → length ws ≡ n → length ts ≡ n → length rs ≡ n → length (beside ws ts rs) ≡ n
  beside_length n e f g = length_joined (paired outstanding_at ws ts) rs n (paired_length outstanding_at ws ts n e f) g

  -- the first n
  pub beside_front : (n : ℕ) → take n (beside ws ts rs) ≡ joined (outstanding_in ws ts n) rs
  beside_front n = take_joined n (paired outstanding_at ws ts) rs ∙ ap (λ (os : List Outstanding). joined os rs)
      (sym (paired_take outstanding_at n ws ts))

  beside_get : (i : ℕ) (r : Record) → i < length ws → i < length ts → i < length (beside ws ts rs)
      → get_or (beside ws ts rs) i (with_record (outstanding_at 0 0) r) ≡ with_record (outstanding_at (get_or ws i 0) (get_or ts i 0)) (get_or rs i r)
  beside_get i r a b c =
      get_joined (paired outstanding_at ws ts) rs i (outstanding_at 0 0) r c
      ∙ ap (λ (o : Outstanding). with_record o (get_or rs i r)) (paired_get outstanding_at ws ts i (outstanding_at 0 0) a b)

  beside_set : (j w t : ℕ) (r : Record)
      → set (beside ws ts rs) j (with_record (outstanding_at w t) r) ≡ beside (set ws j w) (set ts j t) (set rs j r)
  beside_set j w t r =
      set_joined (paired outstanding_at ws ts) rs j (outstanding_at w t) r
      ∙ ap (λ (os : List Outstanding). joined os (set rs j r)) (paired_set outstanding_at ws ts j w t)

  -- a list that stands in their front
  pub in_front_lem : (n : ℕ) (l : List Sent) → length ws ≡ 32 → length ts ≡ 32 → Holds 32 (beside ws ts rs) n l → JoinedIn ws ts n rs l
  in_front_lem n l e f h = record { whole = e; wholes = f; fits = h.fits; list = sym (beside_front n) ∙ h.list }

-- ---- the turns: segments before i have been handled, and those that stay are before j

module _ {n : ℕ} {l₀ goal : List Sent} {i j : ℕ} (ws ts : List ℕ) (rs : List Record) (r : Record) (test : ℕ → Bool) (h : i < n)
    (e : length ws ≡ 32) (f : length ts ≡ 32)
    (p : Packed 32 n l₀ (beside ws ts rs) (filter test (drop i (take n l₀))) goal i j) where
  abbrev next : Sent
  next = with_record (outstanding_at (get_or ws i 0) (get_or ts i 0)) (get_or rs i r)

  -- what is read next
  read : get_or (beside ws ts rs) i (with_record (outstanding_at 0 0) r) ≡ next
  read = beside_get ws ts rs i r (omega (arith, p.room)) (omega (arith, p.room)) (omega (arith, p.room, p.written.whole))

  -- it stays
  pub removal_stays : test (get_or rs i r).number ≡ true
      → Packed 32 n l₀ (beside (set ws j (get_or ws i 0)) (set ts j (get_or ts i 0)) (set rs j (get_or rs i r)))
      (filter test (drop (i + 1) (take n l₀))) goal (i + 1) (j + 1)
  removal_stays t =
      let s : test (get_or (beside ws ts rs) i (with_record (outstanding_at 0 0) r)).record.number ≡ true = rw read t in
      rw (← (beside_set ws ts rs j (get_or ws i 0) (get_or ts i 0) (get_or rs i r)))
      (rw read at (packed_pass (with_record (outstanding_at 0 0) r) h (λ (x : Sent). test x.record.number) s p))

  -- it is removed
  pub removal_drops : test (get_or rs i r).number ≡ false
      → Packed 32 n l₀ (beside ws ts rs) (filter test (drop (i + 1) (take n l₀))) goal (i + 1) j
  removal_drops t = packed_fail (with_record (outstanding_at 0 0) r) h (λ (x : Sent). test x.record.number) (rw read t) p
