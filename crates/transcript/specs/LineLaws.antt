-- Laws of `Lines`: element by element.
-- Assumes nothing.
use Rattle.std.specs.Prelude.{◌≡◌, refl, List, [], ◌∷◌, ◌++◌, ℕ, ◌+◌, ◌≤◌, ◌<◌, min, take, drop}
use Rattle.std.proofs.Common.{subst, append_assoc, append-nil, add-one, drop_of_length-le, take-suc, drop-cons}
use native.Mathlib.Omega.{arith}
use borrow.Author.Tests.{le-leb, lt-leb}
use Rattle.std.proofs.Math.ListN.{length, get_or}
use Rattle.std.specs.List.{IsSplitAt}
use Rattle.words.specs.Words.{paired}
use Rattle.notation.specs.Ascii.{ascii}
use Rattle.notation.specs.Puts.{Put}
use Rattle.notation.specs.PutLaws.{put_then}
use Rattle.transcript.specs.Lines.{each, bytes_line, datagram_lines}

each_append : {A : Type 0} (f : A → List ℕ) (xs ys : List A) → each f (xs ++ ys) ≡ each f xs ++ each f ys
each_append f [] ys = refl
each_append f (x ∷ xs) ys = rw (each_append f xs ys, append_assoc)

each_one : {A : Type 0} (f : A → List ℕ) (x : A) → each f (x ∷ []) ≡ f x
each_one f x = append-nil (f x)

each_next : {A : Type 0} (f : A → List ℕ) (l : List A) (i : ℕ) (d : A) → i < length l → each f (take (i + 1) l) ≡ each f (take i l)
    ++ f (get_or l i d)
each_next f l i d h = rw (add-one, take-suc l i d, each_append, each_one)

-- the text of an equal element
pub put_same : {A : Type 0} (f : A → List ℕ) {x y : A} {was is : List ℕ} {at k : ℕ} → x ≡ y → Put was at (f x) k is → Put was at (f y) k is
put_same f {x} {y} {was} {is} {at} {k} e p = subst (λ (z : _). Put was at (f z) k is) e p

-- one element more
pub each_put : {A : Type 0} (f : A → List ℕ) (l : List A) (i : ℕ) (d : A) (was mid is : List ℕ) (at j k : ℕ) → i < length l →
    Put was at (each f (take i l)) j mid → Put mid j (f (get_or l i d)) k is → Put was at (each f (take (i + 1) l)) k is
each_put f l i d was mid is at j k h p q = rw (each_next f l i d) (put_then _ _ _ _ _ _ _ _ p q)

-- ---- words and numbers side by side

pub pairs_length : {A : Type 0} (entry : ℕ → ℕ → A) (ws ns : List ℕ) → length (paired entry ws ns) ≡ min (length ws) (length ns)
unfolding paired
pairs_length entry [] ns = omega arith
pairs_length entry (w ∷ ws) [] = omega arith
pairs_length entry (w ∷ ws) (n ∷ ns) = omega (arith, pairs_length entry ws ns)

-- ---- datagrams

module _ (packed ns : List ℕ) (i : ℕ) where
  -- no line for a datagram that is not there whole, nor for those behind it
  pub lines_cut : i < length ns → length packed < get_or ns i 0 → datagram_lines packed (drop i ns) ≡ []
  unfolding datagram_lines
  lines_cut h short = rw (drop-cons ns i 0, lt-leb _ _ short)

  -- the line of the next datagram, and those of what is behind it
  pub lines_next : (n : ℕ) (datagram behind : List ℕ) → i < length ns → n ≡ get_or ns i 0 → IsSplitAt packed n datagram behind
      → datagram_lines packed (drop i ns) ≡ bytes_line (ascii "datagram ") datagram ++ datagram_lines behind (drop (i + 1) ns)
  unfolding datagram_lines
  lines_next n datagram behind h e split =
      let whole : get_or ns i 0 ≤ length packed = omega (arith, split.0) in
      rw (drop-cons ns i 0, add-one, le-leb _ _ whole, ← e, split.1, split.2)

  -- none is left
  pub lines_last : length ns ≤ i → datagram_lines packed (drop i ns) ≡ []
  unfolding datagram_lines
  lines_last h = rw (drop_of_length-le ns h)
