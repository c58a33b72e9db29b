-- Laws of loops over a list that stands in the front of an array: what is read next, and what has been written.
-- Assumes nothing.
use mathlib.Core.Path.{◌≡◌, refl, sym, ap, ◌∙◌}
use mathlib.Core.List.{List, [], ◌∷◌, ◌++◌, map, append-nil}
use Prim.Native.Nat.{ℕ, ◌+◌, ◌≤◌, ◌<◌}
use native.Mathlib.Numerals.{add-one}
use native.Mathlib.Omega.{arith}
use lib.ListN.{length, take, drop, get_or, set, length-take, length-set, length-map, drop_of_length-le}
use lib.Seq.{take-suc-set, drop-cons, drop-set-lt, drop-drop, get_or-drop, get_or-take, append_snoc, length-take-le}
use Rattle.lists.specs.Views.{Holds}

-- the length of an array of structs: what owning one tells is of the list of its elements' own values
pub length_mapped : (X Y : Type 0) (f : X → Y) (l : List X) (n : ℕ) → length (map f l) ≡ n → length l ≡ n
length_mapped X Y f l n p = sym (length-map l f) ∙ p

pub room : (X Y : Type 0) (f : X → Y) (l : List X) (i n : ℕ) → length (map f l) ≡ n → i ≤ n → i ≤ length l
room X Y f l i n p h = omega (arith, length_mapped X Y f l n p)

module _ {A : Type 0} where
  -- what is left of the front at index i, and at its end
  pub view_next : (l : List A) (n i : ℕ) (d : A) → i < n → n ≤ length l → drop i (take n l) ≡ get_or l i d ∷ drop (i + 1) (take n l)
  view_next l n i d h g =
      let s : i < length (take n l) = simp length-take-le (omega arith) in
      drop-cons (take n l) i d s ∙ rw (get_or-take, add-one)

  pub view_end : (l : List A) (n i : ℕ) → n ≤ i → drop i (take n l) ≡ []
  view_end l n i h = drop_of_length-le (take n l) {i = i} (simp length-take (omega arith))

  -- a store at the end of the front
  take_put : (l : List A) (i : ℕ) (a : A) → i < length l → take (i + 1) (set l i a) ≡ take i l ++ (a ∷ [])
  take_put l i a h = rw add-one (take-suc-set l i a h)

  pub holds_as : {size : ℕ} {at : List A} {n : ℕ} {l m : List A} → Holds size at n l → l ≡ m → Holds size at n m
  holds_as h e = record { fits = h.fits; list = h.list ∙ e }

  -- one element more
  pub holds_put : {size : ℕ} (l : List A) (n : ℕ) (a : A) → length l ≡ size → n < size
      → Holds size (set l n a) (n + 1) (take n l ++ (a ∷ []))
  holds_put l n a e h = record { fits = omega arith; list = take_put l n a (omega arith) }

  drop_more : (l m : List A) (i : ℕ) → drop i l ≡ drop i m → drop (i + 1) l ≡ drop (i + 1) m
  drop_more l m i e = sym (drop-drop 1 i l) ∙ ap (drop 1) e ∙ drop-drop 1 i m

-- A loop writes the front of an array. It has written l up to j; with what is to do, that is goal.
pub record Written {A : Type 0} (size : ℕ) (l todo goal : List A) (j : ℕ) : Type 0 where
  pub whole : length l ≡ size
  pub within : j ≤ size
  pub front : take j l ++ todo ≡ goal

pub written_start : {A : Type 0} {size : ℕ} {l : List A} (todo : List A) (j : ℕ) → length l ≡ size → j ≤ size
    → Written size l todo (take j l ++ todo) j
written_start todo j h g = record { whole = h; within = g; front = refl }

module _ {A : Type 0} {size : ℕ} {l goal : List A} {j : ℕ} where
  -- the next element is written
  pub written_put : {a : A} {todo : List A} → j < size → Written size l (a ∷ todo) goal j → Written size (set l j a) todo goal (j + 1)
  written_put {a} h w = record {
    whole = length-set l j a ∙ w.whole;
    within = omega arith;
    front = rw (take_put l j a (omega arith), append_snoc) w.front;
  }

  -- nothing is left to do
  pub written_done : {todo : List A} → todo ≡ [] → Written size l todo goal j → Holds size l j goal
  written_done e w = record { fits = w.within; list = sym (append-nil (take j l)) ∙ rw e at w.front }

-- A loop writes to the front what it makes of the first n elements of the same array. It has read l₀ up to i.
pub record Packed {A : Type 0} (size n : ℕ) (l₀ l todo goal : List A) (i j : ℕ) : Type 0 where
  pub under : j ≤ i
  pub upto : i ≤ n
  pub room : n ≤ size
  pub whole : length l₀ ≡ size
  pub written : Written size l todo goal j
  pub rest : drop i l ≡ drop i l₀

pub packed_start : {A : Type 0} {size n : ℕ} {l : List A} (todo : List A) (i j : ℕ) → j ≤ i → i ≤ n → n ≤ size → length l ≡ size
    → Packed size n l l todo (take j l ++ todo) i j
packed_start todo i j a b g e =
    record { under = a; upto = b; room = g; whole = e; written = written_start todo j e (omega arith); rest = refl }

module _ {A : Type 0} {size n : ℕ} {l₀ l goal : List A} {i j : ℕ} where
  -- the next element is written, or passed over
  pub packed_put : {a : A} {todo : List A} → i < n → Packed size n l₀ l (a ∷ todo) goal i j
      → Packed size n l₀ (set l j a) todo goal (i + 1) (j + 1)
  packed_put {a} h p =
      record {
        under = omega arith;
        upto = omega arith;
        room = p.room;
        whole = p.whole;
        written = written_put (omega arith) p.written;
        rest = drop-set-lt (i + 1) l j a (omega arith) ∙ drop_more l l₀ i p.rest;
      }

  pub packed_skip : {todo : List A} → i < n → Packed size n l₀ l todo goal i j → Packed size n l₀ l todo goal (i + 1) j
  packed_skip h p = record {
    under = omega arith;
    upto = omega arith;
    room = p.room;
    whole = p.whole;
    written = p.written;
    rest = drop_more l l₀ i p.rest;
  }

  -- what is read next is what was there at first
  pub packed_next : {todo : List A} (d : A) → i < n → Packed size n l₀ l todo goal i j → drop i (take n l₀) ≡ get_or l i d
      ∷ drop (i + 1) (take n l₀)
  packed_next d h p =
      let q : i + 0 ≡ i = omega arith in
      let e : get_or l₀ i d ≡ get_or l i d =
      rw q at (sym (get_or-drop i l₀ 0 d) ∙ ap (λ (r : List A). get_or r 0 d) (sym p.rest) ∙ get_or-drop i l 0 d) in
      rw e at (view_next l₀ n i d h (omega arith))

  pub packed_done : {todo : List A} → todo ≡ [] → Packed size n l₀ l todo goal i j → Holds size l j goal
  packed_done e p = written_done e p.written
