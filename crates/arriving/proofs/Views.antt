-- Words and numbers side by side: the lists that they are.
-- Assumes nothing.
use mathlib.Core.Path.{◌≡◌, refl, sym, ap, ◌∙◌}
use mathlib.Core.List.{List, [], ◌∷◌, map}
use Prim.Native.Nat.{ℕ, ◌≤◌}
use native.Mathlib.Omega.{arith}
use lib.ListN.{length, take, length-map}
use lib.Seq.{length-take-le}
use Rattle.std.proofs.lemmas.List.{take-map}
use Rattle.lists.specs.declared.Held.{Held}
use Rattle.lists.specs.Views.{held_of, waiting_of, waiting_part}
use Rattle.words.specs.Words.{unpack, held_in, paired, waiting_at, waiting_in}
use Rattle.words.proofs.Pairs.{paired_take}
use Rattle.arriving.specs.Arrivals.{ready_list, waiting_list}

pub held_length : (words : List ℕ) (n : ℕ) → n ≤ length words → length (held_in words n) ≡ n
held_length words n h = length-map (take n words) unpack ∙ length-take-le n words h

-- the segments of words, without their numbers
paired_parts : (ws ns : List ℕ) → length ws ≡ length ns → map waiting_part (paired waiting_at ws ns) ≡ map unpack ws
unfolding paired
paired_parts [] ns e = refl
paired_parts (w ∷ ws) [] e = absurd (omega arith)
paired_parts (w ∷ ws) (n ∷ ns) e = ap (λ (r : List Held). unpack w ∷ r) (paired_parts ws ns (omega arith))

-- the lists are those of the block
pub ready_view : (words : List ℕ) (n : ℕ) → held_of (ready_list words n) ≡ held_in words n
ready_view words n = take-map unpack n words

pub waiting_view : (words numbers : List ℕ) (n : ℕ) → waiting_of (waiting_list words numbers n) ≡ waiting_in words numbers n
waiting_view words numbers n = sym (paired_take waiting_at n words numbers)

pub waiting_parts : (words numbers : List ℕ) (n : ℕ) → length words ≡ 128 → length numbers ≡ 128 → n ≤ 128
    → map waiting_part (take n (paired waiting_at words numbers)) ≡ held_in words n
waiting_parts words numbers n e f h =
    ap (map waiting_part) (sym (paired_take waiting_at n words numbers))
    ∙ paired_parts (take n words) (take n numbers) (length-take-le n words (omega arith) ∙ sym (length-take-le n numbers (omega arith)))
