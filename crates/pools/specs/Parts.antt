-- A part of a list.
-- Assumes nothing.
use Rattle.std.specs.Prelude.{List, ℕ, take, drop}

-- the n elements from index i on
abbrev pub part : {A : Type 0} → List A → ℕ → ℕ → List A
part l i n = take n (drop i l)
