-- A group's frames. A frame is a 32-bit sequence, a 16-bit type and a shard. A data shard is a 16-bit len, which counts itself and the
-- datagram, and the datagram; a parity shard is computed over the data shards. Definitions.
-- Assumes nothing.
use Rattle.std.specs.Prelude.{cond, List, [], ◌++◌, ℕ, zero, suc, ◌+◌, ◌-◌, ltb, length, get_or}
use Rattle.wire.specs.LittleEndian.{bytes_of}
use Rattle.galois.specs.Field.{mul, power}
use Rattle.frames.specs.Lists.{listed, lengths_of, largest, total}

-- the types of the frames
abbrev pub data_type : ℕ
data_type = 241

abbrev pub parity_type : ℕ
parity_type = 242

-- the data shard of a datagram
unfoldable pub shard : List ℕ → List ℕ
shard d = bytes_of 2 (length d + 2) ++ d

-- the length of the group's longest shard
unfoldable pub longest : List (List ℕ) → ℕ
longest ds = largest (lengths_of ds) + 2

-- what the shard at place p weighs: 1 in the first parity, 2 to the power p in the second
unfoldable pub weight : ℕ → ℕ → ℕ
weight zero p = 1
weight (suc w) p = power p

-- byte x of parity w: the weighed sum of the data shards' bytes there, each padded with zeros
unfoldable pub parity_byte : ℕ → List (List ℕ) → ℕ → ℕ
parity_byte w ds x = total (λ p. mul (weight w p) (get_or (shard (get_or ds p [])) x 0)) (length ds)

-- as long as the group's longest
unfoldable pub parity_shard : ℕ → List (List ℕ) → List ℕ
parity_shard w ds = listed (parity_byte w ds) (longest ds)

-- the shard at place p of the group of the datagrams ds, and the type of a frame there
unfoldable pub shard_at : List (List ℕ) → ℕ → List ℕ
shard_at ds p = cond (ltb p (length ds)) (shard (get_or ds p [])) (parity_shard (p - length ds) ds)

unfoldable pub type_at : ℕ → ℕ → ℕ
type_at k p = cond (ltb p k) data_type parity_type

unfoldable pub frame : ℕ → ℕ → List ℕ → List ℕ
frame sequence type shard = bytes_of 4 sequence ++ (bytes_of 2 type ++ shard)

-- the frame at place p of the group that starts at sequence s
unfoldable pub frame_at : ℕ → List (List ℕ) → ℕ → List ℕ
frame_at s ds p = frame (s + p) (type_at (length ds) p) (shard_at ds p)

-- the group: the data frames, then two parity frames
unfoldable pub group : ℕ → List (List ℕ) → List (List ℕ)
group s ds = listed (frame_at s ds) (length ds + 2)
