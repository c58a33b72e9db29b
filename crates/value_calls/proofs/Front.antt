-- The records that are lent of a table of 128: its front, and the table with that front changed.
-- Assumes nothing.
use mathlib.Core.Path.{◌≡◌, sym, ap, ◌∙◌}
use mathlib.Core.List.{List, [], ◌++◌, append-nil}
use Prim.Native.Nat.{ℕ, ◌≤◌, min}
use native.Mathlib.Decide.{dec_le}
use native.Mathlib.Omega.{arith}
use lib.ListN.{length, take, drop, length-take, drop_of_length-le}
use lib.Seq.{take_all, take-append_seam, drop-append_seam}
use Rattle.timing.specs.declared.Record.{Record}

module _ (table : List Record) (lent n : ℕ) (whole : length table ≡ 128) (e : n ≡ min lent 128) where
  pub front : take lent table ≡ take n table
  front = go (dec_le lent 128)
    where
      go : Dec (lent ≤ 128) → take lent table ≡ take n table
      go (yes h) = let q : n ≡ lent = omega arith in rw q
      go (no h) = let q : n ≡ 128 = omega arith in rw q (take_all lent table (omega arith) ∙ sym (take_all 128 table (omega arith)))

  pub lent_rest : drop n table ≡ drop lent table
  lent_rest = go (dec_le lent 128)
    where
      go : Dec (lent ≤ 128) → drop n table ≡ drop lent table
      go (yes h) = let q : n ≡ lent = omega arith in rw q
      go (no h) = let q : n ≡ 128 = omega arith in
          rw q (drop_of_length-le table {i = 128} (omega arith) ∙ sym (drop_of_length-le table {i = lent} (omega arith)))

  -- once those records are others
  module _ (next : List Record) (many : length next ≡ length (take n table)) where
    pub fronted : take lent (next ++ drop n table) ≡ next
    fronted = go (dec_le lent 128)
      where
        go : Dec (lent ≤ 128) → take lent (next ++ drop n table) ≡ next
        go (yes h) =
            let q : lent ≡ length next = omega (arith, many, length-take n table) in
            ap (λ (k : ℕ). take k (next ++ drop n table)) q ∙ take-append_seam next (drop n table)
        go (no h) =
            let none : drop n table ≡ [] = drop_of_length-le table {i = n} (omega arith) in
            rw (none, append-nil next) (take_all lent next (omega (arith, many, length-take n table)))

    pub behind : drop lent (next ++ drop n table) ≡ drop lent table
    behind = go (dec_le lent 128)
      where
        go : Dec (lent ≤ 128) → drop lent (next ++ drop n table) ≡ drop lent table
        go (yes h) =
            let q : lent ≡ length next = omega (arith, many, length-take n table) in
            let r : n ≡ lent = omega arith in
            ap (λ (k : ℕ). drop k (next ++ drop n table)) q ∙ drop-append_seam next (drop n table) ∙ ap (λ (k : ℕ). drop k table) r
        go (no h) =
            let none : drop n table ≡ [] = drop_of_length-le table {i = n} (omega arith) in
            rw (none, append-nil next)
            (drop_of_length-le next {i = lent} (omega (arith, many, length-take n table)) ∙ sym
            (drop_of_length-le table {i = lent} (omega arith)))
