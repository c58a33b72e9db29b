-- The least distance over a list of records, as a fold, and the records that there are.
-- Assumes nothing.
use Rattle.std.proofs.Common.{◌≡◌, refl, List, [], ◌∷◌, ℕ, ◌≤◌, min, arith, length, take}
use Rattle.std.specs.List.{fold}
use Rattle.std.proofs.lemmas.List.{take_all}
use native.Mathlib.Decide.{dec_le}
use Rattle.timing.specs.declared.Record.{Record}
use Rattle.schedule.specs.Schedules.{ahead, dues_of, earliest}

-- no more are taken than there are
pub take_held : (l : List Record) (n k : ℕ) → length l ≡ k → take (min n k) l ≡ take n l
take_held l n k e = go (dec_le n k)
  where
    go : Dec (n ≤ k) → take (min n k) l ≡ take n l
    go (yes h) = let m : min n k ≡ n = omega arith in rw m
    go (no h) = let m : min n k ≡ k = omega arith in rw (m, take_all k l (omega arith), take_all n l (omega arith))

pub earliest_fold : (now most : ℕ) (l : List Record) → fold (λ wait r. min wait (ahead now r.due)) most l ≡ earliest now most (dues_of l)
unfolding earliest
earliest_fold now most [] = refl
earliest_fold now most (r ∷ l) = earliest_fold now (min most (ahead now r.due)) l
