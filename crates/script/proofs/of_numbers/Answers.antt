-- `script::of_numbers` meets its contract: with six numbers an opening has no congestion.
use Rattle.std.proofs.Common.{◌≡◌, ◌∙◌, refl, List, [], ◌∷◌, ℕ, ◌≤◌, ◌<◌, length, get_or, arith}
use Rattle.script.specs.Commands.{of_six, of_seven, of_numbers}
use Rattle.script.proofs.of_numbers.Goals as goal

six : (name : ℕ) (l : List ℕ) → 6 ≤ length l → length l < 7 →
    of_seven name (get_or l 0 0) (get_or l 1 0) (get_or l 2 0) (get_or l 3 0) (get_or l 4 0) (get_or l 5 0) 0 ≡ of_numbers name l
unfolding of_six of_seven
six name [] h g = absurd (omega arith)
six name (a ∷ []) h g = absurd (omega arith)
six name (a ∷ b ∷ []) h g = absurd (omega arith)
six name (a ∷ b ∷ c ∷ []) h g = absurd (omega arith)
six name (a ∷ b ∷ c ∷ d ∷ []) h g = absurd (omega arith)
six name (a ∷ b ∷ c ∷ d ∷ e ∷ []) h g = absurd (omega arith)
six name (a ∷ b ∷ c ∷ d ∷ e ∷ f ∷ []) h g = refl
six name (a ∷ b ∷ c ∷ d ∷ e ∷ f ∷ x ∷ l) h g = absurd (omega arith)

pub returns-in-len6 : goal.returns-in-len6
returns-in-len6 c = c.opening.ensures ∙ six _ _ c.in-len6.len_at_least c.in-len6.len_below
