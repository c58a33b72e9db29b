-- A group whose shards are held or restored. Definitions.
-- Assumes nothing.
use Rattle.std.specs.Prelude.{◌≡◌, true, List, ℕ, ◌+◌, ◌≤◌, ◌<◌, length, get_or}
use Rattle.wire.specs.LittleEndian.{number_at, AllBytes}
use Rattle.frames.specs.Lists.{count, other}
use Rattle.frames.specs.Reading.{byte_at, len_at, datagram_at, found}
use Rattle.parity_scan.specs.Held.{size_in, shard_in, sized, Inside}
use Rattle.parity_restore.specs.Restored.{place, Restored}
use Rattle.parity_found.specs.declared.found.Group.{Group}

-- the shards that are held
abbrev pub shards_in : Group → ℕ → List ℕ
shards_in g = shard_in g.frames.bytes.now g.held

-- byte x of the data shard at place p, its len, its datagram, and the datagrams of all places
abbrev pub byte_in : Group → ℕ → ℕ → ℕ
byte_in g p x = byte_at g.shape.k (shards_in g) p x

abbrev pub len_in : Group → ℕ → ℕ
len_in g p = len_at g.shape.k (shards_in g) p

abbrev pub datagram_in : Group → ℕ → List ℕ
datagram_in g p = datagram_at g.shape.k (shards_in g) p

abbrev pub found_in : Group → List (List ℕ)
found_in g = found g.shape.k (shards_in g)

-- enough shards are held of the packed frames, with the len that each says, and what is lost stands in the rows a and b
pub record Ready (g : Group) : Type 0 where
  pub inside : Inside g.frames.bytes.now g.held
  pub places : length g.held ≡ 12
  pub enough : g.shape.k ≤ count (sized g.held) (g.shape.k + 2)
  pub first : place g.first ≡ other (sized g.held) 12 g.shape.k
  pub second : place g.second ≡ other (sized g.held) (place g.first) g.shape.k
  pub restored : Restored g.shape.k (shards_in g) (place g.first) (place g.second) (g.shape.mtu + 2) g.a.now g.b.now
  pub long : (p : ℕ) → sized g.held p ≡ true → 26 ≤ size_in g.held p
  pub len : (p : ℕ) → p < g.shape.k → sized g.held p ≡ true → number_at 2 (shards_in g p) 0 ≡ size_in g.held p

-- l begins with the data shard at place p, and holds all of it where its len is at most mtu + 2
pub record Whole (g : Group) (p : ℕ) (l : List ℕ) : Type 0 where
  pub small : AllBytes l
  pub two : 2 ≤ length l
  pub byte : (x : ℕ) → x < length l → get_or l x 0 ≡ byte_in g p x
  pub fits : len_in g p ≤ g.shape.mtu + 2 → len_in g p ≤ length l
