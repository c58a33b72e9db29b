-- What is restored. Definitions.
-- Assumes nothing.
use Rattle.std.specs.Prelude.{◌≡◌, cond, Option, None, Some, List, ℕ, ◌≤◌, eqb, length}
use Rattle.wire.specs.LittleEndian.{AllBytes}
use Rattle.rows.specs.Rows.{Row}
use Rattle.frames.specs.Reading.{solved}
use Rattle.parity_scan.specs.Held.{Held, size_in}

-- a place that is lost, 12 for none; and back
abbrev pub place : Option ℕ → ℕ
place None = 12
place (Some p) = p

abbrev pub lost : ℕ → Option ℕ
lost p = cond (eqb p 12) None (Some p)

-- no shard held is longer than n
pub record Within (h : Held) (n : ℕ) : Type 0 where
  pub within : (p : ℕ) → size_in h p ≤ n

-- rows a and b of n bytes: the shards found for places i and j, where these are lost
pub record Restored (k : ℕ) (shards : ℕ → List ℕ) (i j n : ℕ) (a b : List ℕ) : Type 0 where
  pub size_a : length a ≡ n
  pub size_b : length b ≡ n
  pub bytes_a : AllBytes a
  pub bytes_b : AllBytes b
  pub first : (i ≡ 12 → ⊥) → Row (solved k shards i j) n a
  pub second : (i ≡ 12 → ⊥) → (j ≡ 12 → ⊥) → Row (solved k shards j i) n b
