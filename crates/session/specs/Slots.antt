-- What occurs in a list of numbers, how many do, and the lowest number that does not: free slots, and the next number expected.
-- Definitions.
-- Assumes nothing.
use Rattle.std.specs.Prelude.{List, [], ◌∷◌, Bool, false, cond, ◌||◌, ℕ, zero, suc, eqb}

-- n is one of the list
unfoldable pub occurs : ℕ → List ℕ → Bool
occurs n [] = false
occurs n (k ∷ ks) = eqb n k || occurs n ks

-- the lowest of n, n + 1, .. that is not in the list, n + k at most
unfoldable pub lowest_from : List ℕ → ℕ → ℕ → ℕ
lowest_from used n zero = n
lowest_from used n (suc k) = cond (occurs n used) (lowest_from used (suc n) k) n

-- the lowest slot below n that is not used, n where all are
unfoldable pub lowest_free : List ℕ → ℕ → ℕ
lowest_free used n = lowest_from used 0 n

-- how many of the slots 0 to n - 1 are in the list
unfoldable pub used_below : ℕ → List ℕ → ℕ
used_below zero l = 0
used_below (suc n) l = cond (occurs n l) (suc (used_below n l)) (used_below n l)
