-- Where a push goes among those that wait, and whether it is new.
-- Assumes nothing.
use mathlib.Core.Path.{◌≡◌, refl, sym, ◌∙◌}
use mathlib.Core.Bool.{Bool, true, false, not, ◌&&◌, ◌||◌, or-false}
use mathlib.Core.List.{List, [], ◌∷◌}
use Prim.Native.Nat.{ℕ, zero, suc, ◌+◌, ◌≤◌, ◌<◌}
use native.Mathlib.Nat.{not-suc-le-zero, le_of_suc-le-suc}
use native.Mathlib.Decide.{dec_lt}
use native.Mathlib.Omega.{arith}
use borrow.Author.Tests.{lt-ltb, le-ltb, ne_eqb}
use lib.Dec.{ltb, eqb}
use lib.ListN.{length, take, get_or}
use lib.Seq.{get_or-take, length-take-le}
use Rattle.protocol.specs.Serial.{minus, is_before}
use Rattle.lists.specs.Orders.{waiting_offset, is_held, ascending}
use Rattle.lists.specs.OrderLaws.{ascending_first, ascending_held}
use Rattle.keeping.specs.Pushing.{is_in_window}
use Rattle.keeping.proofs.Places.{searched}
use Rattle.words.specs.Words.{paired, waiting_at, Placed, is_at}
use Rattle.words.proofs.Pairs.{paired_length, paired_get, blank}
use Rattle.keeping.specs.Keeping.{Ascends, GoesIn, Passed}

ltb_suc : (i n : ℕ) → ltb (suc i) (suc n) ≡ ltb i n
ltb_suc i n = go (dec_lt i n)
  where
    go : Dec (i < n) → ltb (suc i) (suc n) ≡ ltb i n
    go (yes h) = lt-ltb (suc i) (suc n) (omega arith) ∙ sym (lt-ltb i n h)
    go (no h) = le-ltb (suc i) (suc n) (omega arith) ∙ sym (le-ltb i n (omega arith))

-- the list is in order, and index i is the first whose offset is not below k: k is held there or not at all
place_held : {A : Type 0} (offset : A → ℕ) (k : ℕ) (l : List A) (i : ℕ) (d : A) (least limit : ℕ) → i ≤ length l
    → ((j : ℕ) → j < i → offset (get_or l j d) < k) → (i < length l → k ≤ offset (get_or l i d))
    → ascending offset least limit l ≡ true → is_held offset k l ≡ (ltb i (length l) && eqb (offset (get_or l i d)) k)
unfolding is_held
place_held offset k [] zero d least limit w b g a = refl
place_held offset k [] (suc i) d least limit w b g a = absurd (not-suc-le-zero w)
place_held offset k (x ∷ l) zero d least limit w b g a = rw (lt-ltb 0 (suc (length l)) (omega arith)) (go (is_held offset k l) refl)
  where
    go : (t : Bool) → is_held offset k l ≡ t → (eqb (offset x) k || t) ≡ eqb (offset x) k
    go true e = absurd (omega (
      arith,
      g (omega arith),
      (ascending_held offset k (offset x + 1) limit l (ascending_first offset least limit x l a).later e).0,
    ))
    go false e = or-false (eqb (offset x) k)
place_held offset k (x ∷ l) (suc i) d least limit w b g a =
    let less : offset x < k = b 0 (omega arith) in
    rw (ne_eqb (offset x) k (λ q. omega arith), ltb_suc i (length l))
    (place_held offset k l i d (offset x + 1) limit (le_of_suc-le-suc w) (λ j h. b (suc j) (omega arith)) (λ h. g (omega arith))
    (ascending_first offset least limit x l a).later)

module _ (next sn : ℕ) (ns : List ℕ) (n i : ℕ) (f : length ns ≡ 128) (few : n ≤ 128) (p : Placed next (minus sn next) ns n i) where
  is_held_lem : (ws : List ℕ) → length ws ≡ 128 → Ascends next n ws ns
      → is_held (waiting_offset next) (minus sn next) (take n (paired waiting_at ws ns)) ≡ is_at ns n i next (minus sn next)
  is_held_lem ws e a =
      place_held (waiting_offset next) (minus sn next) (take n (paired waiting_at ws ns)) i blank 0 128 (rw size p.within)
      (λ j h. rw (here j (omega (arith, p.within))) (p.below j h)) (λ h. let q : i < n = (rw size at h) in rw (here i q) (p.here q)) a
      ∙ rw size (go (dec_lt i n))
    where
      size : length (take n (paired waiting_at ws ns)) ≡ n
      size = length-take-le n (paired waiting_at ws ns) (rw (paired_length waiting_at ws ns 128 e f) few)

      here : (j : ℕ) → j < n → waiting_offset next (get_or (take n (paired waiting_at ws ns)) j blank) ≡ minus (get_or ns j 0) next
      here j h = rw (get_or-take n (paired waiting_at ws ns) j blank h, paired_get waiting_at ws ns j blank (omega arith) (omega arith)) refl

      go : Dec (i < n) → (ltb i n && eqb (waiting_offset next (get_or (take n (paired waiting_at ws ns)) i blank)) (minus sn next)) ≡ is_at ns n
          i next (minus sn next)
      go (yes h) = rw (here i h) refl
      go (no h) = rw (le-ltb i n (omega arith)) refl

  -- a and b are the tests of the number, r whether it is held at index i
  module _ (a b : Bool) (ea : a ≡ is_in_window next sn) (eb : b ≡ is_before sn next) (t : a && not b ≡ true) where
    -- it is new
    pub found_here : is_at ns n i next (minus sn next) ≡ false → GoesIn next sn ns n i
    found_here z =
        record {
          place = p;
          lacks = z;
          kept = λ ws e o. sym (searched next sn (take n (paired waiting_at ws ns)) a b ea eb false (sym (is_held_lem ws e o ∙ z)) t);
        }

    -- it is held
    pub found_held : is_at ns n i next (minus sn next) ≡ true → Passed next sn ns n
    found_held z ws e o = sym (searched next sn (take n (paired waiting_at ws ns)) a b ea eb true (sym (is_held_lem ws e o ∙ z)) t)
