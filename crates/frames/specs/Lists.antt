-- Packed parts, and lists, counts and sums over places. Definitions.
-- Assumes nothing.
use Rattle.std.specs.Prelude.{Bool, true, false, cond, ◌||◌, List, [], ◌∷◌, ◌++◌, ℕ, zero, suc, ◌+◌, max, eqb, length, take, drop}
use Rattle.galois.specs.Field.{plus}

-- ---- packed parts

-- one behind the other
unfoldable pub joined : List (List ℕ) → List ℕ
joined [] = []
joined (x ∷ xs) = x ++ joined xs

-- the length of each
unfoldable pub lengths_of : List (List ℕ) → List ℕ
lengths_of [] = []
lengths_of (x ∷ xs) = length x ∷ lengths_of xs

-- packed bytes, taken apart by their lengths
unfoldable pub parts : List ℕ → List ℕ → List (List ℕ)
parts s [] = []
parts s (n ∷ ns) = take n s ∷ parts (drop n s) ns

unfoldable pub add_up : List ℕ → ℕ
add_up [] = 0
add_up (n ∷ ns) = n + add_up ns

unfoldable pub largest : List ℕ → ℕ
largest [] = 0
largest (n ∷ ns) = max n (largest ns)

-- the test holds of each part
unfoldable pub every : (List ℕ → Bool) → List (List ℕ) → Bool
every t [] = true
every t (x ∷ xs) = cond (t x) (every t xs) false

-- n is among the numbers
unfoldable pub among : ℕ → List ℕ → Bool
among n [] = false
among n (m ∷ ms) = eqb m n || among n ms

-- how many different numbers there are
unfoldable pub different : List ℕ → ℕ
different [] = 0
different (n ∷ ns) = cond (among n ns) (different ns) (suc (different ns))

-- ---- places

module _ {A : Type 0} where
  -- f 0, f 1, .. to f (n - 1)
  unfoldable pub listed : (ℕ → A) → ℕ → List A
  listed f zero = []
  listed f (suc n) = listed f n ++ (f n ∷ [])

-- the sum, in the field, of f 0 to f (n - 1)
unfoldable pub total : (ℕ → ℕ) → ℕ → ℕ
total f zero = 0
total f (suc n) = plus (total f n) (f n)

-- at how many of 0 to n - 1 the test holds
unfoldable pub count : (ℕ → Bool) → ℕ → ℕ
count h zero = 0
count h (suc n) = cond (h n) (suc (count h n)) (count h n)

-- the last of 0 to n - 1, other than i, at which the test fails; 12 where there is none
unfoldable pub other : (ℕ → Bool) → ℕ → ℕ → ℕ
other h i zero = 12
other h i (suc n) = cond (h n || eqb n i) (other h i n) n
