-- How a number that C gets stands for an answer. Definition.
-- Assumes nothing.
use Rattle.std.specs.Prelude.{◌≡◌, ℤ}

-- the number is the code of an answer that keeps the promise
pub record Gives {A : Type 0} (code : A → ℤ) (P : A → Type 0) (r : ℤ) : Type 0 where
  pub answer : A
  pub number : r ≡ code answer
  pub promise : P answer
