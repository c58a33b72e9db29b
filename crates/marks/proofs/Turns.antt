-- The turns of the loop that marks the slots of words, at index i.
-- Assumes nothing.
use Rattle.std.proofs.Common.{◌≡◌, refl, sym, ◌∙◌, Bool, true, ◌&&◌, List, [], ◌∷◌, map, ℕ, zero, suc, ◌+◌, ◌≤◌, ◌<◌, ◌%◌, arith, eqb, ltb, ltb-true, length, drop, get_or, set, length-set}
use Rattle.std.proofs.Math.Bool.{and-true, and_assoc}
use lib.ListN.{drop_of_length-le}
use lib.Seq.{drop-cons}
use native.Mathlib.Numerals.{add-one}
use Rattle.session.specs.Decides.{and_parts}
use Rattle.slots.specs.Slots.{slots_of, all_below}
use Rattle.words.specs.Words.{unpack}
use Rattle.marks.specs.Marks.{marked_all, unmarked_all, Marks}

-- the slots from index i on
abbrev pub left : List ℕ → ℕ → List ℕ
left ws i = slots_of (map unpack (drop i ws))

left_next : (ws : List ℕ) (i : ℕ) → i < length ws → left ws i ≡ (get_or ws i 0 % 256 ∷ left ws (i + 1))
left_next ws i h = rw (drop-cons ws i 0 h, add-one)

left_end : (ws : List ℕ) (i : ℕ) → length ws ≤ i → left ws i ≡ []
left_end ws i h = rw (drop_of_length-le ws {i = i} h)

-- `m` are the marks so far, and `once` says that none was marked before
pub record Marking (size : ℕ) (before ws : List ℕ) (m : List ℕ) (once : Bool) (i : ℕ) : Type 0 where
  pub whole : length m ≡ size
  pub marked : marked_all before (left ws 0) ≡ marked_all m (left ws i)
  pub unmarked : unmarked_all before (left ws 0) ≡ (once && unmarked_all m (left ws i))

module _ {size : ℕ} {before ws : List ℕ} {m : List ℕ} {once : Bool} {i : ℕ} (p : Marking size before ws m once i) where
  pub marking_next : (s : ℕ) → s ≡ get_or ws i 0 % 256 → i < length ws
      → Marking size before ws (set m s 1) (once && eqb (get_or m s 0) 0) (i + 1)
  unfolding marked_all unmarked_all
  marking_next s e h =
      record {
        whole = length-set m s 1 ∙ p.whole;
        marked = p.marked ∙ rw (left_next ws i h, ← e) refl;
        unmarked = p.unmarked ∙ rw (left_next ws i h, ← e) (sym (and_assoc once (eqb (get_or m s 0) 0) _));
      }

  pub marking_end : length ws ≤ i → Marks size before (left ws 0) m once
  unfolding marked_all unmarked_all
  marking_end h =
      record {
        whole = p.whole;
        marked = sym (p.marked ∙ rw (left_end ws i h) refl);
        unmarked = sym (p.unmarked ∙ rw (left_end ws i h) (and-true once));
      }

-- a slot of a list that is below k
pub low_at : (k : ℕ) (ws : List ℕ) (i : ℕ) → all_below k (slots_of (map unpack ws)) ≡ true → i < length ws → get_or ws i 0 % 256 < k
unfolding all_below
low_at k [] i e h = absurd (omega arith)
low_at k (w ∷ ws) zero e h = ltb-true (w % 256) k (and_parts (ltb (w % 256) k) _ e).0
low_at k (w ∷ ws) (suc i) e h = low_at k ws i (and_parts (ltb (w % 256) k) _ e).1 (omega arith)
