-- Laws that nothing here cites, kept since they stood.
-- Assumes nothing.
use mathlib.Core.Path.{◌≡◌, sym, ◌∙◌}
use mathlib.Core.Bool.{true, false}
use mathlib.Core.List.{List, [], ◌∷◌, ◌++◌, map}
use Prim.Native.Nat.{ℕ, suc, ◌+◌, ◌≤◌, ◌<◌}
use native.Mathlib.Numerals.{add-one}
use native.Mathlib.Omega.{arith}
use borrow.Author.Tests.{le-ltb, eq-eqb, ne_eqb}
use lib.ListN.{length, take, drop, get_or, set}
use lib.Seq.{take-suc, take-take, append_snoc, length-take-le, get_or-take}
use Rattle.lists.specs.declared.Outstanding.{Outstanding}
use Rattle.timing.specs.declared.Record.{Record}
use Rattle.lists.specs.Orders.{is_held, insert}
use Rattle.lists.specs.Joining.{joined}
use Rattle.lists.proofs.Loops.{Written, Packed, written_put, packed_start, packed_put, packed_next, view_next, view_end}

-- ---- at index i of the first n elements of an array

module _ {A : Type 0} (offset : A → ℕ) (l : List A) (n i : ℕ) where
  pub held_end : (k : ℕ) → n ≤ i → is_held offset k (drop i (take n l)) ≡ false
  unfolding is_held
  held_end k h = rw (view_end l n i h)

  -- o is the offset of the entry at i
  module _ (d : A) (o : ℕ) (h : i < n) (g : n ≤ length l) (e : o ≡ offset (get_or l i d)) where
    pub held_here : (k : ℕ) → o ≡ k → is_held offset k (drop i (take n l)) ≡ true
    unfolding is_held
    held_here k q = rw (view_next l n i d h g, ← e, eq-eqb o k q)

    pub held_later : (k : ℕ) → (o ≡ k → ⊥) → is_held offset k (drop i (take n l)) ≡ is_held offset k (drop (i + 1) (take n l))
    unfolding is_held
    held_later k q = rw (view_next l n i d h g, ← e, ne_eqb o k q)

-- The search for the place of a: the entries before index i have smaller offsets, so that a goes in behind them.
module _ {A : Type 0} (offset : A → ℕ) (a : A) (l : List A) (n i : ℕ) (g : n ≤ length l)
    (inv : insert offset a (take n l) ≡ take i (take n l) ++ insert offset a (drop i (take n l))) where
  -- o is the offset of the entry at i, k that of a
  module _ (d : A) (o k : ℕ) (h : i < n) (e : o ≡ offset (get_or l i d)) (f : k ≡ offset a) where
    pub insert_later : (o ≡ k → ⊥) → o ≤ k → insert offset a (take n l) ≡ take (i + 1) (take n l)
        ++ insert offset a (drop (i + 1) (take n l))
    unfolding insert
    insert_later p q =
        let s : i < length (take n l) = rw (length-take-le n l g) h in
        inv
        ∙ rw (view_next l n i d h g, ← e, ← f, ne_eqb o k p, le-ltb k o q, add-one, take-suc (take n l) i d s, get_or-take n l i d h)
        (sym (append_snoc (take i (take n l)) (get_or l i d) (insert offset a (drop (suc i) (take n l)))))

-- ---- the turns of loops that write a list

module _ {A : Type 0} {size n : ℕ} {l₀ l goal : List A} {i j : ℕ} (d : A) (h : i < n) where
  -- an element is moved
  pub packed_move : Packed size n l₀ l (drop i (take n l₀)) goal i j
      → Packed size n l₀ (set l j (get_or l i d)) (drop (i + 1) (take n l₀)) goal (i + 1) (j + 1)
  packed_move p = packed_put h (rw (packed_next d h p) at p)

  -- a carried element is put, and the one that stood there is carried on
  pub packed_shift : {a : A} → Packed size n l₀ l (a ∷ drop i (take n l₀)) goal i j
      → Packed size n l₀ (set l j a) (get_or l i d ∷ drop (i + 1) (take n l₀)) goal (i + 1) (j + 1)
  packed_shift p = packed_put h (rw (packed_next d h p) at p)

-- an element goes in at index j
pub packed_insert : {A : Type 0} {size n : ℕ} {l : List A} (a : A) (j : ℕ) → j ≤ n → n ≤ size → length l ≡ size
    → Packed size n l l (a ∷ drop j (take n l)) (take j (take n l) ++ (a ∷ drop j (take n l))) j j
packed_insert {A} {size} {n} {l} a j h g e = rw (take-take j n l h) (packed_start (a ∷ drop j (take n l)) j j (omega arith) h g e)

-- the image of an element of another list is brought
pub written_bring : {A B : Type 0} {size : ℕ} {l goal : List B} {j : ℕ} (f : A → B) (src : List A) (k m : ℕ) (d : A) → m < k
    → k ≤ length src → j < size
    → Written size l (map f (drop m (take k src))) goal j
    → Written size (set l j (f (get_or src m d))) (map f (drop (m + 1) (take k src))) goal (j + 1)
written_bring f src k m d h g b w = written_put b (rw (view_next src k m d h g) at w)

pub joined_end : (os : List Outstanding) (rs : List Record) (n i : ℕ) → n ≤ i → joined (drop i (take n os)) rs ≡ []
unfolding joined
joined_end os rs n i h = rw (view_end os n i h)
