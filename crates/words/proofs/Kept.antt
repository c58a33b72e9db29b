-- Laws that nothing here cites, kept since they stood.
-- Assumes nothing.
use mathlib.Core.Path.{◌≡◌, ◌∙◌, subst}
use mathlib.Core.List.{List, [], ◌∷◌, ◌++◌}
use Prim.Native.Nat.{ℕ, ◌+◌, ◌≤◌, ◌<◌}
use native.Mathlib.Decide.{dec_lt}
use native.Mathlib.Omega.{arith}
use lib.ListN.{length, take, drop, get_or, set, length-set}
use Rattle.protocol.specs.Serial.{minus}
use Rattle.lists.specs.Views.{Holds}
use Rattle.lists.proofs.Loops.{Packed, holds_put, packed_done, written_put, written_done, view_end}
use Rattle.words.specs.Words.{Front}

-- ---- what a loop that writes the front of a lent array leaves

module _ {A : Type 0} {size : ℕ} where
  front : {at : List A} {n : ℕ} {l : List A} → length at ≡ size → Holds size at n l → Front size at n l
  front e h = record { whole = e; fits = h.fits; list = h.list }

  -- at another count, which is the same
  pub front_at : {at : List A} {n : ℕ} {l : List A} (m : ℕ) → n ≡ m → Front size at n l → Front size at m l
  front_at {at} {n} {l} m e f = subst (λ (i : ℕ). Front size at i l) e f

  pub front_put : (at : List A) (n : ℕ) (a : A) → length at ≡ size → n < size → Front size (set at n a) (n + 1) (take n at ++ (a ∷ []))
  front_put at n a e h = front (length-set at n a ∙ e) (holds_put at n a e h)

  pub front_packed : {n : ℕ} {l₀ l todo goal : List A} {i j : ℕ} → todo ≡ [] → Packed size n l₀ l todo goal i j → Front size l j goal
  front_packed e p = front p.written.whole (packed_done e p)

  -- what is carried is put behind the last
  pub front_carried : {n : ℕ} {l₀ l goal : List A} {a : A} {j : ℕ} (m : ℕ) → n ≤ j → n < size → n + 1 ≡ m
      → Packed size n l₀ l (a ∷ drop j (take n l₀)) goal j j → Front size (set l j a) m goal
  front_carried {n} {l₀} {l} {goal} {a} {j} m h g e p =
      front_at m (omega (arith, p.upto)) (front (length-set l j a ∙ p.written.whole)
      (written_done (view_end l₀ n j h) (written_put (omega (arith, p.upto)) p.written)))

-- ---- the search for a place
pub more_below : (base offset : ℕ) (ns : List ℕ) (i : ℕ) → minus (get_or ns i 0) base < offset
    → ((j : ℕ) → j < i → minus (get_or ns j 0) base < offset) → (j : ℕ) → j < i + 1 → minus (get_or ns j 0) base < offset
more_below base offset ns i h b j l = go (dec_lt j i)
  where
    go : Dec (j < i) → minus (get_or ns j 0) base < offset
    go (yes s) = b j s
    go (no s) = let q : j ≡ i = omega arith in rw q h
