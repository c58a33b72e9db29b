-- Stream mode by computing (request 2026-05): what sends leave queued, and what a refused one leaves.
-- Assumes nothing.
use Rattle.std.specs.Prelude.{◌≡◌, refl, List, [], ◌∷◌, ◌++◌, map, ℕ, take, replicate}
use Rattle.protocol.specs.Refusals.{number_of}
use Rattle.protocol.specs.declared.Settings.{Settings}
use Rattle.lists.specs.declared.Held.{Held}
use Rattle.session.specs.Slots.{occurs, lowest_from, lowest_free}
use Rattle.session.specs.State.{Outcome, with_queued}
use Rattle.session.specs.Opening.{opened}
use Rattle.session.specs.Cutting.{fragment_count, segment_count, pieces, cut_as}
use Rattle.session.specs.Sending.{Sends, place, filled, sending}

-- mss 26
abbrev in_mode : ℕ → Settings
in_mode stream = record { conv = 1; mtu = 50; interval = 100; mode = 0; threshold = 0; stream = stream; congestion = 0 }

-- after these sends, one behind the other; a refused one leaves all as it was
abbrev behind : Sends → Outcome Sends → Sends
behind x (Outcome.refused r) = x
behind x (Outcome.done y) = y

unfoldable sends : Sends → List (List ℕ) → Sends
sends x [] = x
sends x (b ∷ bs) = sends (behind x (sending x.state x.pool b)) bs

abbrev fresh : ℕ → Sends
fresh stream = record { state = opened (in_mode stream); pool = replicate 78 0 }

abbrev lengths : Sends → List ℕ
lengths x = map (λ (h : Held). h.len) x.state.sending.queued

-- the refusal's number, 0 where there is none
abbrev answer : Outcome Sends → ℕ
answer (Outcome.refused r) = number_of r
answer (Outcome.done x) = 0

-- sends of 10, 20 and 0 bytes: a full segment and one of 4, fragment numbers 0
two : lengths (sends (fresh 1) (replicate 10 1 ∷ replicate 20 2 ∷ [] ∷ [])) ≡ 26 ∷ 4 ∷ []
unfolding sends opened sending filled place cut_as pieces segment_count fragment_count lowest_free lowest_from occurs
two = refl

numbers : map (λ (h : Held). h.fragment) (sends (fresh 1) (replicate 10 1 ∷ replicate 60 2 ∷ [])).state.sending.queued ≡ 0 ∷ 0 ∷ 0 ∷ []
unfolding sends opened sending filled place cut_as pieces segment_count fragment_count lowest_free lowest_from occurs
numbers = refl

-- the bytes stand one behind the other, the fill behind what was there
bytes : take 30 (sends (fresh 1) (replicate 10 1 ∷ replicate 20 2 ∷ [])).pool ≡ replicate 10 1 ++ replicate 20 2
unfolding sends opened sending filled place cut_as pieces segment_count fragment_count lowest_free lowest_from occurs
bytes = refl

-- nothing left to cut adds no segment; an empty send adds none in stream mode, and one in message mode
exact : lengths (sends (fresh 1) (replicate 10 1 ∷ replicate 16 2 ∷ [])) ≡ 26 ∷ []
unfolding sends opened sending filled place cut_as pieces segment_count fragment_count lowest_free lowest_from occurs
exact = refl

none : lengths (sends (fresh 1) ([] ∷ [])) ≡ []
unfolding sends opened sending filled place cut_as pieces segment_count fragment_count lowest_free lowest_from occurs
none = refl

one : lengths (sends (fresh 0) ([] ∷ [])) ≡ 0 ∷ []
unfolding sends opened sending filled place cut_as pieces segment_count fragment_count lowest_free lowest_from occurs
one = refl

-- 16 bytes fill, and 127 x 26 are left to cut: accepted. One more gives 10, and fills nothing
abbrev ten : Sends
ten = sends (record { state = opened (in_mode 1); pool = [] }) (replicate 10 1 ∷ [])

most : answer (sending ten.state [] (replicate 3318 2)) ≡ 0
unfolding sends opened sending filled place cut_as pieces segment_count fragment_count lowest_free lowest_from occurs
most = refl

above : answer (sending ten.state [] (replicate 3319 2)) ≡ 10
unfolding sends opened sending filled place cut_as pieces segment_count fragment_count lowest_free lowest_from occurs
above = refl

unfilled : lengths (sends ten (replicate 3319 2 ∷ [])) ≡ 10 ∷ []
unfolding sends opened sending filled place cut_as pieces segment_count fragment_count lowest_free lowest_from occurs
unfilled = refl

-- a block that another hand made, its last queued segment numbered 3: shorter than mss, the number becomes 0, by an empty send too
abbrev queued_as : ℕ → Sends
queued_as len =
    record { state = with_queued (opened (in_mode 1)) (record { slot = 0; len = len; fragment = 3 } ∷ []); pool = replicate 78 0 }

abbrev fragments : Sends → List ℕ
fragments x = map (λ (h : Held). h.fragment) x.state.sending.queued

renumbered : (fragments (sends (queued_as 10) ([] ∷ [])) ≡ 0 ∷ []) × (fragments (sends (queued_as 25) (replicate 2 1 ∷ [])) ≡ 0 ∷ 0 ∷ [])
unfolding sends opened sending filled place cut_as pieces segment_count fragment_count lowest_free lowest_from occurs
renumbered = (refl, refl)

-- a full one has it still
full : fragments (sends (queued_as 26) ([] ∷ replicate 1 1 ∷ [])) ≡ 3 ∷ 0 ∷ []
unfolding sends opened sending filled place cut_as pieces segment_count fragment_count lowest_free lowest_from occurs
full = refl
