-- The front of a part that is lent.
-- Assumes nothing.
use Rattle.std.specs.Prelude.{◌≡◌, List, ◌++◌, ℕ, ◌≤◌, ◌<◌, min, length, take, drop}
use Rattle.std.proofs.Common.{sym, ap, ◌∙◌, append-nil, arith, length-append, length-drop, drop_of_length-le, length-take-le, take_all}
use Rattle.std.proofs.Math.Decide.{dec_le}
use Rattle.std.proofs.Math.Seq.{take-append_seam, drop-append_seam}

-- n elements of a part are lent: the count, or all where there are fewer
pub record Front (count n : ℕ) (part : List ℕ) : Type 0 where
  pub least : n ≡ min count (length part)
  pub inside : n ≤ length part
  pub long : n ≡ length (take n part)

pub front_part_lem : (count : ℕ) (part : List ℕ) → count < length part → Front count count part
front_part_lem count part h = record { least = omega arith; inside = omega arith; long = sym (length-take-le count part (omega arith)) }

pub front_all : (count : ℕ) (part : List ℕ) → length part ≤ count → Front count (length part) part
front_all count part h = record { least = omega arith; inside = omega arith; long = sym (length-take-le (length part) part (omega arith)) }

-- what is lent is as many elements as the count says, as far as there are any
pub front_take : (count n : ℕ) (part : List ℕ) → Front count n part → take n part ≡ take count part
front_take count n part f = go (dec_le count (length part))
  where
    go : Dec (count ≤ length part) → take n part ≡ take count part
    go (yes h) = let same : n ≡ count = omega arith in rw same
    go (no h) = take_all n part (omega arith) ∙ sym (take_all count part (omega arith))

-- another front of the same length
module _ (count n : ℕ) (part front : List ℕ) (f : Front count n part) (same : length front ≡ n) where
  pub front_new : take count (front ++ drop n part) ≡ front
  front_new = go (dec_le count (length part))
    where
      go : Dec (count ≤ length part) → take count (front ++ drop n part) ≡ front
      go (yes h) = let here : count ≡ length front = omega arith in rw here (take-append_seam front (drop n part))
      go (no h) = let whole : length (front ++ drop n part) ≤ count =
          omega (arith, length-append front (drop n part), length-drop n part) in
          take_all count (front ++ drop n part) whole ∙ rw (drop_of_length-le part {i = n} (omega arith), append-nil)

  pub front_behind : drop count (front ++ drop n part) ≡ drop count part
  front_behind = go (dec_le count (length part))
    where
      go : Dec (count ≤ length part) → drop count (front ++ drop n part) ≡ drop count part
      go (yes h) =
          let here : count ≡ length front = omega arith in
          let there : count ≡ n = omega arith in
          rw here (drop-append_seam front (drop n part)) ∙ ap (λ (k : ℕ). drop k part) (sym there)
      go (no h) =
          let whole : length (front ++ drop n part) ≤ count = omega (arith, length-append front (drop n part), length-drop n part) in
          drop_of_length-le (front ++ drop n part) whole ∙ sym (drop_of_length-le part {i = count} (omega arith))
