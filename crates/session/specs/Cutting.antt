-- A message cut into segments, and in stream mode the bytes of a send.
-- Assumes nothing.
use Rattle.std.specs.Prelude.{Bool, cond, List, [], ◌∷◌, ℕ, zero, suc, ◌+◌, ◌-◌, ◌/◌, max, length, take, drop}

-- a message of n bytes makes max(1, n / mss rounded up) segments
unfoldable pub fragment_count : ℕ → ℕ → ℕ
fragment_count mss n = max 1 ((n + (mss - 1)) / mss)

-- so many payloads of at most mss bytes, one behind the other
unfoldable pub pieces : ℕ → ℕ → List ℕ → List (List ℕ)
pieces mss zero m = []
pieces mss (suc k) m = take mss m ∷ pieces mss k (drop mss m)

-- the new segments of n bytes: a message's, and in stream mode n / mss rounded up, so that none is added where nothing is left to cut
unfoldable pub segment_count : Bool → ℕ → ℕ → ℕ
segment_count stream mss n = cond stream ((n + (mss - 1)) / mss) (fragment_count mss n)

-- their payloads
unfoldable pub cut_as : Bool → ℕ → List ℕ → List (List ℕ)
cut_as stream mss m = pieces mss (segment_count stream mss (length m)) m

-- the payloads of a message's segments
unfoldable pub cut : ℕ → List ℕ → List (List ℕ)
cut mss m = pieces mss (fragment_count mss (length m)) m
