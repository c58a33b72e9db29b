-- Rows of bytes. Definitions.
-- Assumes nothing.
use Rattle.std.specs.Prelude.{◌≡◌, cond, List, ℕ, zero, suc, ◌-◌, ◌<◌, ltb, length, get_or}
use Rattle.galois.specs.Field.{double}

-- the row is f 0, f 1, .. to f (n - 1)
pub record Row (f : ℕ → ℕ) (n : ℕ) (row : List ℕ) : Type 0 where
  pub size : length row ≡ n
  pub byte : (x : ℕ) → x < n → get_or row x 0 ≡ f x

-- byte x of l where l starts at `at`, and zeros stand around it
unfoldable pub behind : ℕ → List ℕ → ℕ → ℕ
behind at l x = cond (ltb x at) 0 (get_or l (x - at) 0)

-- from one place to the one before it: the weights of the second parity double
unfoldable pub stepped : ℕ → ℕ → ℕ
stepped zero v = v
stepped (suc w) v = double v
