-- A held segment as one word of 32 bits: its slot, its fragment number and its length; lists as the front of arrays of words.
-- Definitions.
-- Assumes nothing.
use Rattle.std.specs.Prelude.{◌≡◌, List, [], ◌∷◌, map, Bool, true, false, ◌&&◌, ℕ, ◌≤◌, ◌<◌, ltb, eqb, length, take, get_or, MatchResult}
use Rattle.std.specs.declared.result.Result.{Result}
use Rattle.protocol.specs.Serial.{minus}
use Rattle.lists.specs.declared.Held.{Held}
pub use Rattle.lists.specs.Views.{unpack}
use Rattle.lists.specs.declared.Waiting.{Waiting}
use Rattle.lists.specs.declared.Outstanding.{Outstanding}

-- the segments of the first n words
abbrev pub held_in : List ℕ → ℕ → List Held
held_in words n = map unpack (take n words)

-- two arrays side by side, an entry of each made into one
module _ {A : Type 0} (entry : ℕ → ℕ → A) where
  unfoldable pub paired : List ℕ → List ℕ → List A
  paired [] numbers = []
  paired (w ∷ words) [] = []
  paired (w ∷ words) (n ∷ numbers) = entry w n ∷ paired words numbers

  -- the first n of both
  abbrev pub paired_in : List ℕ → List ℕ → ℕ → List A
  paired_in words numbers n = paired (take n words) (take n numbers)

-- a waiting segment: its word, and its number
abbrev pub waiting_at : ℕ → ℕ → Waiting
waiting_at word number = record { number = number; held = unpack word }

abbrev pub waiting_in : List ℕ → List ℕ → ℕ → List Waiting
waiting_in = paired_in waiting_at

-- an outstanding segment: its word, and its transmissions
abbrev pub outstanding_at : ℕ → ℕ → Outstanding
outstanding_at word transmissions = record { held = unpack word; transmissions = transmissions }

abbrev pub outstanding_in : List ℕ → List ℕ → ℕ → List Outstanding
outstanding_in = paired_in outstanding_at

-- an array of this size whose first elements, up to the count, are l
pub record Front {A : Type 0} (size : ℕ) (at : List A) (count : ℕ) (l : List A) : Type 0 where
  pub whole : length at ≡ size
  pub fits : count ≤ size
  pub list : take count at ≡ l

-- two arrays of this size whose first entries, up to the count and side by side, are l
pub record Sides {A : Type 0} (entry : ℕ → ℕ → A) (size : ℕ) (words numbers : List ℕ) (count : ℕ) (l : List A) : Type 0 where
  pub whole : length words ≡ size
  pub wholes : length numbers ≡ size
  pub fits : count ≤ size
  pub list : paired_in entry words numbers count ≡ l

-- i is the first of n numbers whose offset from base is not below `offset`
pub record Placed (base offset : ℕ) (numbers : List ℕ) (n i : ℕ) : Type 0 where
  pub within : i ≤ n
  pub below : (j : ℕ) → j < i → minus (get_or numbers j 0) base < offset
  pub here : i < n → offset ≤ minus (get_or numbers i 0) base

-- index i is one of n, and the number there has that offset from base
abbrev pub is_at : List ℕ → ℕ → ℕ → ℕ → ℕ → Bool
is_at numbers n i base offset = ltb i n && eqb (minus (get_or numbers i 0) base) offset

-- the index of a number with that offset from base, or else the index at which one goes in
abbrev pub Sought : ℕ → ℕ → List ℕ → ℕ → Result ℕ ℕ → Type 0
Sought base offset numbers n r =
    MatchResult r (λ i. Placed base offset numbers n i × (is_at numbers n i base offset ≡ true))
    (λ i. Placed base offset numbers n i × (is_at numbers n i base offset ≡ false))
