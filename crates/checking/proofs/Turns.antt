-- The turns of the loops, at index i of the first n of an array.
-- Assumes nothing.
use mathlib.Core.Path.{◌≡◌, refl, sym, ap, ◌∙◌}
use mathlib.Core.Bool.{Bool, true, false, not, ◌&&◌, and-true, and_assoc, false≢true}
use mathlib.Core.List.{List, ◌∷◌}
use Rattle.std.specs.Prelude.{Some, None}
use Rattle.std.specs.declared.option.Option.{Option}
use mathlib.Core.Bool.{cond}
use Prim.Native.Nat.{ℕ, suc, ◌+◌, ◌-◌, ◌≤◌, ◌<◌, min}
use native.Mathlib.Decide.{dec_lt}
use native.Mathlib.Omega.{arith}
use native.Mathlib.Numerals.{add-one}
use lib.ListN.{length, take, drop, get_or, length-replicate, drop_of_length-le}
use lib.Seq.{take_all, drop-cons}
use Rattle.protocol.specs.Serial.{minus}
use Rattle.timing.specs.declared.Record.{Record}
use Rattle.slots.specs.Slots.{once}
use Rattle.session.specs.Valid.{all}
use Rattle.marks.specs.Marks.{none_of, none_to_send, marked_all}
use Rattle.checking.specs.Tests.{follows, neighbours, fits_after, least_after, least_after_all}
use Rattle.checking.specs.Tests.{carried_after, send_word_fits, sent_few, send_slots_in, SendingFits}

pub not-true : (b : Bool) → not b ≡ true → b ≡ false
not-true true e = sym e
not-true false e = refl

pub not-false : (b : Bool) → not b ≡ false → b ≡ true
not-false true e = refl
not-false false e = sym e

-- a test of each; fit so far
module _ {A : Type 0} (test : A → Bool) (l : List A) (i : ℕ) (goal fit : Bool) (inv : goal ≡ (fit && all test (drop i l))) where
  pub all_next : (d : A) (t : Bool) → i < length l → t ≡ test (get_or l i d) → goal ≡ (fit && t && all test (drop (i + 1) l))
  all_next d t h e = inv ∙ rw (drop-cons l i d h, ← e, add-one) (sym (and_assoc fit t _))

  pub all_end : length l ≤ i → goal ≡ fit
  all_end h = inv ∙ rw (drop_of_length-le l {i = i} h) (and-true fit)

-- neighbours, the one at i and the one before it
module _ (ws : List ℕ) (i : ℕ) (goal fit : Bool) (low : 1 ≤ i) (inv : goal ≡ (fit && neighbours (drop (i - 1) ws))) where
  near_front : i - 1 < length ws → drop (i - 1) ws ≡ get_or ws (i - 1) 0 ∷ drop i ws
  near_front h = let q : suc (i - 1) ≡ i = omega arith in rw q at (drop-cons ws (i - 1) 0 h)

  pub near_next : (t : Bool) → i < length ws → t ≡ follows (get_or ws (i - 1) 0) (get_or ws i 0)
      → goal ≡ (fit && t && neighbours (drop (i + 1 - 1) ws))
  unfolding neighbours
  near_next t h e =
      let q : i + 1 - 1 ≡ i = omega arith in
      inv ∙ ap (λ (l : List ℕ). fit && neighbours l) (near_front (omega arith)) ∙ ap (λ (b : Bool). fit && b) step ∙ rw q
      (sym (and_assoc fit t _))
    where
      step : neighbours (get_or ws (i - 1) 0 ∷ drop i ws) ≡ (t && neighbours (drop i ws))
      step = rw (drop-cons ws i 0 h, ← e) refl

  pub near_end : length ws ≤ i → goal ≡ fit
  unfolding neighbours
  near_end h = go (dec_lt (i - 1) (length ws))
    where
      go : Dec (i - 1 < length ws) → goal ≡ fit
      go (yes s) = inv ∙ rw (near_front s, drop_of_length-le ws {i = i} h) (and-true fit)
      go (no s) = let q : length ws ≤ i - 1 = omega arith in inv ∙ rw (drop_of_length-le ws {i = i - 1} q) (and-true fit)

-- records; what is carried
module _ (mode una next : ℕ) (rs : List Record) (i least : ℕ) (goal : Option ℕ) (d : Record) (h : i < length rs)
    (inv : goal ≡ least_after_all mode una next least (drop i rs)) where
  abbrev off : ℕ
  off = minus (get_or rs i d).number una

  here : goal ≡ cond (fits_after mode una next least (get_or rs i d)) (least_after_all mode una next (off + 1) (drop (i + 1) rs)) None
  unfolding least_after_all
  here = let q : i + 1 ≡ suc i = omega arith in rw q (inv ∙ rw (drop-cons rs i d h) refl)

  pub least_next : (k : ℕ) → Some k ≡ least_after mode una next least (get_or rs i d)
      → goal ≡ least_after_all mode una next k (drop (i + 1) rs)
  least_next k = go (fits_after mode una next least (get_or rs i d)) here
    where
      go : (b : Bool) → goal ≡ cond b (least_after_all mode una next (off + 1) (drop (i + 1) rs)) None
          → Some k ≡ cond b (Some (off + 1)) None → goal ≡ least_after_all mode una next k (drop (i + 1) rs)
      go true e p = let q : k ≡ off + 1 = cc in rw q e
      go false e p = cc

  pub least_none : None ≡ least_after mode una next least (get_or rs i d) → goal ≡ None
  least_none = go (fits_after mode una next least (get_or rs i d)) here
    where
      go : (b : Bool) → goal ≡ cond b (least_after_all mode una next (off + 1) (drop (i + 1) rs)) None
          → None ≡ cond b (Some (off + 1)) None → goal ≡ None
      go true e p = cc
      go false e p = e

pub least_end : (mode una next : ℕ) (rs : List Record) (i least : ℕ) (goal : Option ℕ) → length rs ≤ i
    → goal ≡ least_after_all mode una next least (drop i rs) → goal ≡ Some least
unfolding least_after_all
least_end mode una next rs i least goal h inv = inv ∙ rw (drop_of_length-le rs {i = i} h)

-- what passing over records gives behind what is carried
unfoldable pub carried_all : ℕ → ℕ → ℕ → Option ℕ → List Record → Option ℕ
carried_all mode una next None l = None
carried_all mode una next (Some least) l = least_after_all mode una next least l

pub carried_next : (mode una next : ℕ) (rs : List Record) (i : ℕ) (goal : Option ℕ) (d : Record) → i < length rs → (c k : Option ℕ)
    → goal ≡ carried_all mode una next c (drop i rs) → k ≡ carried_after mode una next c (get_or rs i d)
    → goal ≡ carried_all mode una next k (drop (i + 1) rs)
unfolding carried_all
carried_next mode una next rs i goal d h None k inv e = rw e inv
carried_next mode una next rs i goal d h (Some least) k inv e =
    rw e (go (fits_after mode una next least (get_or rs i d)) (here mode una next rs i least goal d h inv))
  where
    off : ℕ
    off = minus (get_or rs i d).number una

    go : (b : Bool) → goal ≡ cond b (least_after_all mode una next (off + 1) (drop (i + 1) rs)) None
        → goal ≡ carried_all mode una next (cond b (Some (off + 1)) None) (drop (i + 1) rs)
    go true e = e
    go false e = e

pub carried_end : (mode una next : ℕ) (rs : List Record) (i : ℕ) (goal : Option ℕ) → length rs ≤ i → (c : Option ℕ)
    → goal ≡ carried_all mode una next c (drop i rs) → goal ≡ c
unfolding carried_all
carried_end mode una next rs i goal h None inv = inv
carried_end mode una next rs i goal h (Some least) inv = least_end mode una next rs i least goal h inv

-- the records looked at are those of the count
pub looked_all : (rs : List Record) (n m : ℕ) → length rs ≡ 32 → m ≡ min n 32 → take m rs ≡ take n rs
looked_all rs n m e f = go (dec_lt n 32)
  where
    go : Dec (n < 32) → take m rs ≡ take n rs
    go (yes h) = let q : m ≡ n = omega arith in rw q
    go (no h) = take_all m rs (omega arith) ∙ sym (take_all n rs (omega arith))

-- ---- the segments of a half

pub none_whole : (k : ℕ) (m : List ℕ) → m ≡ none_of k → length m ≡ k
none_whole k m e = ap length e ∙ length-replicate {A = ℕ} k 0

pub limits_parts : (x y z : Bool) → not (x && y && z) ≡ false → (x ≡ true) × (y ≡ true)
limits_parts true true z e = (refl, refl)
limits_parts true false z e = absurd (false≢true (sym e))
limits_parts false y z e = absurd (false≢true (sym e))

module _ (mss : ℕ) (queued outstanding transmissions : List ℕ) (x y z : Bool) (marks : List ℕ)
    (ex : x ≡ all (send_word_fits mss) queued) (ey : y ≡ all (send_word_fits mss) outstanding)
    (ez : z ≡ all sent_few transmissions) where
  pub limits_fail : marks ≡ none_to_send → not (x && y && z) ≡ true → SendingFits mss queued outstanding transmissions marks false
  limits_fail e t =
      record {
        whole = none_whole 128 marks e;
        fits = sym (rw (← ex, ← ey, ← ez, not-true (x && y && z) t) refl);
        marked = λ z. absurd (false≢true z);
      }

  pub limits_fit : (r : Bool) → not (x && y && z) ≡ false → r ≡ once (send_slots_in queued outstanding) → length marks ≡ 128
      → marks ≡ marked_all none_to_send (send_slots_in queued outstanding)
      → SendingFits mss queued outstanding transmissions marks r
  limits_fit r t er w e = record { whole = w; fits = rw (← ex, ← ey, ← ez, not-false (x && y && z) t) er; marked = λ z. e }
