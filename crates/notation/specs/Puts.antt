-- Text put into lent output. Definitions.
-- Assumes nothing.
use Rattle.std.specs.Prelude.{◌≡◌, List, ℕ, ◌+◌, min, max, length}
use Rattle.std.proofs.lemmas.List.Edits.{sets}

-- the text t at index i of `was`, as far as there is room, every other byte as it was; and the index behind it
pub record Put (was : List ℕ) (i : ℕ) (t : List ℕ) (r : ℕ) (is : List ℕ) : Type 0 where
  pub bytes : is ≡ sets was i t
  pub next : r ≡ min (i + length t) (max i (length was))
