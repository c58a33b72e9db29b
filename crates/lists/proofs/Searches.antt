-- The turns of the loops that look through a list: at index i of the first n elements of an array.
-- Assumes nothing.
use mathlib.Core.Path.{◌≡◌, ap, ◌∙◌}
use mathlib.Core.List.{List, ◌∷◌, ◌++◌}
use Prim.Native.Nat.{ℕ, ◌+◌, ◌≤◌, ◌<◌}
use native.Mathlib.Omega.{arith}
use borrow.Author.Tests.{lt-ltb, eq-eqb, ne_eqb}
use lib.ListN.{length, take, drop, get_or, length-take, length-drop, length-append, take-append-drop}
use lib.Seq.{length-take-le}
use Rattle.protocol.specs.Serial.{plus, minus}
use Rattle.lists.specs.declared.Waiting.{Waiting}
use Rattle.lists.specs.Orders.{insert}
use Rattle.lists.specs.Receiving.{run_of}
use Rattle.lists.proofs.Loops.{view_next, view_end}

-- The search for the place of a: the entries before index i have smaller offsets, so that a goes in behind them.
module _ {A : Type 0} (offset : A → ℕ) (a : A) (l : List A) (n i : ℕ) (g : n ≤ length l)
    (inv : insert offset a (take n l) ≡ take i (take n l) ++ insert offset a (drop i (take n l))) where
  pub insert_end : n ≤ i → insert offset a (take n l) ≡ take i (take n l) ++ (a ∷ drop i (take n l))
  unfolding insert
  insert_end h = inv ∙ rw (view_end l n i h)

  -- the list with one more is within its size
  pub insert_room : (size : ℕ) → length (insert offset a (take n l)) ≤ size → insert offset a (take n l) ≡ take i (take n l)
      ++ (a ∷ drop i (take n l)) → n < size
  insert_room size b e =
      omega (
        arith,
        ap length e,
        length-append (take i (take n l)) (a ∷ drop i (take n l)),
        length-take i (take n l),
        length-drop i (take n l),
        length-take-le n l g,
      )

  -- o is the offset of the entry at i, k that of a
  module _ (d : A) (o k : ℕ) (h : i < n) (e : o ≡ offset (get_or l i d)) (f : k ≡ offset a) where
    pub insert_same : o ≡ k → insert offset a (take n l) ≡ take n l
    unfolding insert
    insert_same q = inv ∙ rw (view_next l n i d h g, ← e, ← f, eq-eqb o k q) (rw (← view_next l n i d h g) (take-append-drop i (take n l)))

    pub insert_here : (o ≡ k → ⊥) → k < o → insert offset a (take n l) ≡ take i (take n l) ++ (a ∷ drop i (take n l))
    unfolding insert
    insert_here p q = inv ∙ rw (view_next l n i d h g, ← e, ← f, ne_eqb o k p, lt-ltb k o q)

-- The count of those numbered next, next + 1 and so on: i so far, and those numbered from k on.
module _ (l : List Waiting) (n i k total : ℕ) (inv : total ≡ i + run_of k (drop i (take n l))) where
  pub run_end : n ≤ i → total ≡ i
  unfolding run_of
  run_end h = inv ∙ rw (view_end l n i h) (omega arith)

  -- o is the offset of the entry at i
  module _ (d : Waiting) (o : ℕ) (h : i < n) (g : n ≤ length l) (e : o ≡ minus (get_or l i d).number k) where
    pub run_stop : (o ≡ 0 → ⊥) → total ≡ i
    unfolding run_of
    run_stop q = inv ∙ rw (view_next l n i d h g, ← e, ne_eqb o 0 q) (omega arith)

    pub run_more : (k' : ℕ) → k' ≡ plus k 1 → o ≡ 0 → total ≡ i + 1 + run_of k' (drop (i + 1) (take n l))
    unfolding run_of
    run_more k' f q = inv ∙ rw (view_next l n i d h g, ← e, eq-eqb o 0 q, ← f) (omega arith)
