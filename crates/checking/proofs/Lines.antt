-- A pool of which every slot is held in order: its marks, and that none is held twice.
-- Assumes nothing.
use mathlib.Core.Path.{◌≡◌, refl, sym, ap, ◌∙◌}
use mathlib.Core.Bool.{Bool, true, ◌&&◌, and-true, and_assoc}
use mathlib.Core.List.{List, [], ◌∷◌, ◌++◌, map}
use Prim.Native.Nat.{ℕ, zero, suc, ◌+◌, ◌%◌, ◌≤◌, ◌<◌}
use native.Mathlib.Omega.{arith}
use borrow.Author.Tests.{eqb-true}
use lib.Dec.{eqb}
use lib.ListN.{length, drop, get_or, replicate, length-replicate, drop_of_length-le}
use lib.Seq.{drop-cons}
use native.Mathlib.Numerals.{add-one}
use Rattle.slots.specs.Slots.{slots_of, is_used, once}
use Rattle.session.specs.Decides.{and_parts}
use Rattle.words.specs.Words.{unpack}
use Rattle.marks.specs.Marks.{none, marked_all}
use Rattle.checking.specs.Tests.{in_line, receive_slots_in, HeldOnce}

-- ---- the loop, at index i

module _ (ws : List ℕ) (from i : ℕ) (goal fit : Bool) (inv : goal ≡ (fit && in_line (from + i) (drop i ws))) where
  pub line_next : (t : Bool) → i < length ws → t ≡ eqb (get_or ws i 0 % 256) (from + i)
      → goal ≡ (fit && t && in_line (from + (i + 1)) (drop (i + 1) ws))
  unfolding in_line
  line_next t h e =
      let next : from + i + 1 ≡ from + (i + 1) = omega arith in
      inv ∙ rw (drop-cons ws i 0 h, ← e, next, add-one) (sym (and_assoc fit t _))

  pub line_end : length ws ≤ i → goal ≡ fit
  unfolding in_line
  line_end h = inv ∙ rw (drop_of_length-le ws {i = i} h) (and-true fit)

-- ---- the slots

-- k numbers from n on
up_from : ℕ → ℕ → List ℕ
up_from n zero = []
up_from n (suc k) = n ∷ up_from (n + 1) k

line_slots : (from : ℕ) (ws : List ℕ) → in_line from ws ≡ true → slots_of (map unpack ws) ≡ up_from from (length ws)
unfolding in_line up_from
line_slots from [] e = refl
line_slots from (w ∷ ws) e =
    let p = and_parts (eqb (w % 256) from) (in_line (from + 1) ws) e in
    rw (eqb-true (w % 256) from p.0, line_slots (from + 1) ws p.1)

abbrev every : List ℕ
every = up_from 0 128 ++ up_from 128 128

every_once : once every ≡ true
unfolding up_from once is_used
every_once = refl

every_marked : marked_all none every ≡ replicate 256 1
unfolding up_from marked_all
every_marked = refl

-- every slot is held in order
pub full_held : (ready waiting : List ℕ) (x y : Bool) → length ready ≤ 128 → length waiting ≤ 128 → length ready + length waiting ≡ 256
    → x ≡ in_line 0 ready → y ≡ in_line 128 waiting → (x && y) ≡ true → HeldOnce ready waiting (replicate 256 1) true
full_held ready waiting x y hn hm s ex ey t =
    let p = and_parts x y t in
    let en : length ready ≡ 128 = omega arith in
    let em : length waiting ≡ 128 = omega arith in
    let er : slots_of (map unpack ready) ≡ up_from 0 128 = line_slots 0 ready (sym ex ∙ p.0) ∙ ap (up_from 0) en in
    let ew : slots_of (map unpack waiting) ≡ up_from 128 128 = line_slots 128 waiting (sym ey ∙ p.1) ∙ ap (up_from 128) em in
    let all : receive_slots_in ready waiting ≡ every = rw (er, ew) refl in
    record {
      whole = length-replicate {A = ℕ} 256 1;
      marked = sym (ap (marked_all none) all ∙ every_marked);
      held = sym (ap once all ∙ every_once);
    }
