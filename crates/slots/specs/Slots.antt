-- Slots of a pool, as the list of those used. Definitions.
-- Assumes nothing.
use Rattle.std.specs.Prelude.{Bool, true, false, cond, not, ◌&&◌, ◌||◌, List, [], ◌∷◌, ◌++◌, map, ℕ, zero, suc, ◌+◌, ltb, eqb}
use Rattle.lists.specs.declared.Held.{Held}
use Rattle.lists.specs.declared.Listed.{Listed}
use Rattle.lists.specs.declared.Waiting.{Waiting}
use Rattle.lists.specs.declared.Outstanding.{Outstanding}
use Rattle.lists.specs.Views.{held_of, waiting_of, outstanding_of, waiting_part, outstanding_part}

-- the slots that segments are held in
abbrev pub slots_of : List Held → List ℕ
slots_of = map (λ h. h.slot)

-- the receive slots used: those of what is ready and of what waits
abbrev pub receive_used : Listed Held 128 → Listed Waiting 128 → List ℕ
receive_used ready waiting = slots_of (held_of ready ++ map waiting_part (waiting_of waiting))

-- the send slots used: those of what is sent and not acknowledged, and of what is queued
abbrev pub send_used : Listed Held 128 → Listed Outstanding 32 → List ℕ
send_used queued sent = slots_of (map outstanding_part (outstanding_of sent) ++ held_of queued)

-- is the slot used?
unfoldable pub is_used : ℕ → List ℕ → Bool
is_used k [] = false
is_used k (s ∷ used) = eqb s k || is_used k used

-- the first number from k on, of the next f, that does not pass a test; k + f where all pass
unfoldable pub first_not : (ℕ → Bool) → ℕ → ℕ → ℕ
first_not test k zero = k
first_not test k (suc f) = cond (test k) (first_not test (k + 1) f) k

-- the lowest of the next f slots from k on that is not used; k + f where all are used
abbrev pub free_from : List ℕ → ℕ → ℕ → ℕ
free_from used = first_not (λ i. is_used i used)

-- the lowest of n slots that is not used; n where all are used
abbrev pub lowest_free : List ℕ → ℕ → ℕ
lowest_free used n = free_from used 0 n

-- how many of n slots are not used
unfoldable pub free_count : List ℕ → ℕ → ℕ
free_count used zero = 0
free_count used (suc n) = cond (is_used n used) (free_count used n) (suc (free_count used n))

-- is each below n?
unfoldable pub all_below : ℕ → List ℕ → Bool
all_below n [] = true
all_below n (s ∷ used) = ltb s n && all_below n used

-- does none occur again later?
unfoldable pub once : List ℕ → Bool
once [] = true
once (s ∷ used) = not (is_used s used) && once used

-- slots below n, none held twice
abbrev pub distinct : ℕ → List ℕ → Bool
distinct n used = all_below n used && once used
