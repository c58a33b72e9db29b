-- Laws of `Puts`: text behind text.
-- Assumes nothing.
use Rattle.std.specs.Prelude.{◌≡◌, refl, List, [], ◌∷◌, ◌++◌, ℕ, suc, ◌+◌, ◌≤◌, ◌<◌, min, max, length, take, get_or}
use Rattle.std.proofs.Common.{◌∙◌, sym, append_assoc, append-nil, add-one, arith, length-append, take-suc}
use Rattle.std.proofs.Math.Decide.{dec_le}
use Rattle.std.proofs.lemmas.List.Edits.{sets}
use Rattle.std.proofs.Math.Seq.{set_out, length-sets}
use Rattle.wire.specs.Stores.{sets_append}
use Rattle.notation.specs.Puts.{Put}

-- nothing is stored past the end
sets_past : (l : List ℕ) (i : ℕ) (t : List ℕ) → length l ≤ i → sets l i t ≡ l
sets_past l i [] h = refl
sets_past l i (a ∷ t) h = rw (set_out l i a) (sets_past l (suc i) t (omega arith))

pub put_none : (l : List ℕ) (i : ℕ) → Put l i [] i l
put_none l i = record { bytes = refl; next = omega arith }

-- without room nothing is put
pub put_full : (l : List ℕ) (i : ℕ) (t : List ℕ) → length l ≤ i → Put l i t i l
put_full l i t h = record { bytes = sym (sets_past l i t h); next = omega arith }

-- t, and u behind it
pub put_then : (was mid is : List ℕ) (i j k : ℕ) (t u : List ℕ) → Put was i t j mid → Put mid j u k is → Put was i (t ++ u) k is
put_then was mid is i j k t u a b = go (dec_le (i + length t) (length was))
  where
    long : length mid ≡ length was
    long = rw a.bytes (length-sets was i t)

    next : k ≡ min (i + length (t ++ u)) (max i (length was))
    next = rw length-append (omega (arith, long, a.next, b.next))

    go : Dec (i + length t ≤ length was) → Put was i (t ++ u) k is
    go (yes h) =
        let j-is : j ≡ i + length t = omega (arith, a.next) in
        record { bytes = rw (b.bytes, a.bytes, j-is, sets_append was i t u); next = next }
    go (no h) =
        let past : length mid ≤ j = omega (arith, long, a.next) in
        let past' : length (sets was i t) ≤ i + length t = rw (length-sets was i t) (omega arith) in
        record {
          bytes = rw (sets_append was i t u, sets_past (sets was i t) (i + length t) u past')
              (b.bytes ∙ sets_past mid j u past ∙ a.bytes);
          next = next;
        }

-- one byte more of s
pub put_next : (was mid is : List ℕ) (i j k : ℕ) (s : List ℕ) (n : ℕ) → n < length s → Put was i (take n s) j mid
    → Put mid j (get_or s n 0 ∷ []) k is → Put was i (take (n + 1) s) k is
put_next was mid is i j k s n h a b = rw (add-one, take-suc s n 0) (put_then was mid is i j k _ _ a b)

-- the output keeps its length
pub put_length : (was : List ℕ) (i : ℕ) (t : List ℕ) (r : ℕ) (is : List ℕ) → Put was i t r is → length is ≡ length was
put_length was i t r is p = rw p.bytes (length-sets was i t)

-- ---- text that is put part by part

-- a first part of the text `all` is put, and `rest` is left
pub record Partly (was : List ℕ) (i : ℕ) (all : List ℕ) (here : ℕ) (now rest : List ℕ) : Type 0 where
  pub first : List ℕ
  pub put : Put was i first here now
  pub whole : first ++ rest ≡ all

pub partly_none : (l : List ℕ) (i : ℕ) (all : List ℕ) → Partly l i all i l all
partly_none l i all = record { first = []; put = put_none l i; whole = refl }

-- one part more
pub partly_more : (was mid is : List ℕ) (i j k : ℕ) (all rest t u : List ℕ) → Partly was i all j mid rest → rest ≡ t ++ u → Put mid j t k is
    → Partly was i all k is u
partly_more was mid is i j k all rest t u p e q =
    record { first = p.first ++ t; put = put_then _ _ _ _ _ _ _ _ p.put q; whole = rw append_assoc (rw e at p.whole) }

pub partly_all : (was is : List ℕ) (i k : ℕ) (all rest : List ℕ) → Partly was i all k is rest → rest ≡ [] → Put was i all k is
partly_all was is i k all rest p e =
    let same : all ≡ p.first = sym (rw e at p.whole) ∙ append-nil p.first in
    rw same p.put
