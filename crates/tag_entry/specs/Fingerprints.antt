-- A fingerprint of a name, a number below 256: equal names have equal ones. Definitions.
-- Assumes nothing.
use Rattle.std.specs.Prelude.{List, ℕ, ◌+◌, ◌*◌, ◌%◌, fold}

abbrev pub mixed : ℕ → List ℕ → ℕ
mixed = fold (λ f b. (31 * f + b) % 256)

abbrev pub fingerprint : List ℕ → ℕ
fingerprint l = mixed 0 l
