-- What C is told of a group written or read. Definitions.
-- Assumes nothing.
use Rattle.std.specs.Prelude.{◌≡◌, Result, Ok, Err, List, ℕ, min, ℤ, pos, length}
use Rattle.codes.specs.Codes.{number_code}
use Rattle.frames.specs.declared.Refusal.{Refusal}
use Rattle.frames.specs.Outcomes.{Outcome, refused, wrote, number_of, bytes_after, lengths_after}

-- a count up to 12
abbrev pub count_code : ℕ → ℤ
count_code n = pos (min n 12)

abbrev pub answer_code : Result ℕ Refusal → ℤ
answer_code (Ok n) = count_code n
answer_code (Err r) = number_code (number_of r)

-- how many parts are written, or the refusal's number below zero
abbrev pub outcome_code : Outcome → ℤ
outcome_code (refused r) = number_code (number_of r)
outcome_code (wrote l) = pos (length l)

-- a call with this outcome: its number, and what it makes of the lent bytes and lengths
pub record Told (o : Outcome) (out ns : List ℕ) (r : ℤ) (out' ns' : List ℕ) : Type 0 where
  pub number : r ≡ outcome_code o
  pub bytes : out' ≡ bytes_after o out
  pub lengths : ns' ≡ lengths_after o ns
