-- The edges of the una rule, with 12 numbered and where numbers wrap. Proved by computing.
-- Assumes nothing.
use Rattle.std.specs.Prelude.{◌≡◌, refl, Bool, true, false, List, [], ◌∷◌, map, ℕ, ◌+◌, ◌-◌, ◌^◌}
use Rattle.protocol.specs.Serial.{signed, is_after}
use Rattle.lists.specs.declared.Acknowledges.TheVariants.{Una}
use Rattle.lists.specs.Acknowledging.{acknowledged}

-- whether a una acknowledges each of these numbers
abbrev each : ℕ → ℕ → List ℕ → List Bool
each next una numbers = map (acknowledged next (Una una)) numbers

-- una = snd_nxt acknowledges all, one within it those before it
pub up_to_next : (each 12 12 (0 ∷ 11 ∷ []) ≡ true ∷ true ∷ []) × (each 12 5 (0 ∷ 4 ∷ 5 ∷ []) ≡ true ∷ true ∷ false ∷ [])
unfolding signed is_after
up_to_next = (refl, refl)

-- after snd_nxt by 1 and by 2^31 - 1: none
pub ahead : (each 12 13 (0 ∷ 11 ∷ []) ≡ false ∷ false ∷ []) × (each 12 (12 + (2 ^ 31 - 1)) (0 ∷ 11 ∷ []) ≡ false ∷ false ∷ [])
unfolding signed is_after
ahead = (refl, refl)

-- half way round it is not after snd_nxt, nor after what is outstanding
pub half_way : each 12 (12 + 2 ^ 31) (0 ∷ 11 ∷ []) ≡ false ∷ false ∷ []
unfolding signed is_after
half_way = refl

-- by the signed difference: una 3 is after snd_nxt 4,294,967,295; una 4,294,967,295 is greater than snd_nxt 2, and before it
pub wrapped : (each 4294967295 3 (4294967293 ∷ []) ≡ false ∷ []) × (each 2 4294967295 (4294967294 ∷ 4294967295 ∷ []) ≡ true ∷ false ∷ [])
unfolding signed is_after
wrapped = (refl, refl)
