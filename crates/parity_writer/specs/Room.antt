-- Room for a group. Definitions.
-- Assumes nothing.
use Rattle.std.specs.Prelude.{List, ℕ, ◌+◌, ◌*◌, ◌≤◌, ◌<◌, length}
use Rattle.frames.specs.Lists.{add_up, largest}

-- room for the data frames of packed datagrams s with lengths ns, in room bytes and slots lengths
pub record FitsData (start : ℕ) (s ns : List ℕ) (room slots : ℕ) : Type 0 where
  pub whole : add_up ns ≤ length s
  pub bytes : add_up ns + 8 * length ns ≤ room
  pub lengths : length ns ≤ slots
  pub small : largest ns + 8 < 65536
  pub numbers : start + length ns < 4294967296

-- room for the group
pub record Fits (start : ℕ) (s ns : List ℕ) (room slots : ℕ) : Type 0 where
  pub whole : add_up ns ≤ length s
  pub bytes : add_up ns + 8 * length ns + 2 * (largest ns + 8) ≤ room
  pub lengths : length ns + 2 ≤ slots
  pub small : largest ns + 8 < 65536
  pub numbers : start + length ns + 1 < 4294967296
