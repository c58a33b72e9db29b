-- What the crate's own functions promise each other: text put behind text. Definitions.
-- Assumes nothing.
use Rattle.std.specs.Prelude.{◌≡◌, List, [], ◌∷◌, ◌++◌, ℕ, ◌+◌, ◌≤◌, length}
use Rattle.std.proofs.lemmas.List.Edits.{sets}
use Rattle.listing.specs.Lines.{space, field}

-- fields with a space behind each
abbrev pub spaced : List ℕ → List ℕ
spaced [] = []
spaced (n ∷ ns) = field n space ++ spaced ns

-- the text t at index i of `was`, every other byte as it was, and the index behind it
pub record Wrote (was : List ℕ) (i : ℕ) (t : List ℕ) (r : ℕ) (is : List ℕ) : Type 0 where
  pub bytes : is ≡ sets was i t
  pub next : r ≡ i + length t
  pub inside : r ≤ length is
