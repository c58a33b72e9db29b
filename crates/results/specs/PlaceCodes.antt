-- A place in the receive pool as C gets it: its count as a number, and its start in 32 bits, both as they are (crate `counts`).
-- Definitions.
-- Assumes nothing.
use Rattle.std.specs.Prelude.{ℕ, min, ℤ}
use Rattle.read_core.specs.declared.Place.{Place}
use Rattle.codes.specs.Codes.{size_code}

abbrev pub place_code : Place → ℤ
place_code p = size_code p.count

abbrev pub place_start : Place → ℕ
place_start p = min p.start 4294967295
