-- A packer: what it has put into lent output, tied to the packing of a flush. Definitions.
-- Assumes nothing.
use Rattle.std.specs.Prelude.{◌≡◌, Bool, cond, ℕ, ◌+◌, ◌-◌, ◌≤◌, ◌<◌, ◌^◌, min, leb, eqb, length, set}
use mathlib.Core.List.{List, [], ◌∷◌, ◌++◌, map, foldl}
use Rattle.std.proofs.lemmas.List.Edits.{sets}
use Rattle.datagram.specs.Datagrams.{Segment}
use Rattle.session.specs.Flushing.{Packing, bytes_of_segments, pack_one}
use Rattle.session.specs.Flushing as session
use Rattle.packing.specs.declared.Packer.{Packer}
use Rattle.packing.specs.declared.Carried.{Carried}

-- what all segments of a flush carry
abbrev pub carried_of : Carried → session.Carried
carried_of c = record { conv = c.conv; wnd = c.wnd; una = c.una }

-- ---- datagrams in the output

-- datagrams one behind the other, without gaps
unfoldable pub joined : List (List ℕ) → List ℕ
joined [] = []
joined (d ∷ ds) = d ++ joined ds

-- the length of each
unfoldable pub lengths_of : List (List ℕ) → List ℕ
lengths_of [] = []
lengths_of (d ∷ ds) = length d ∷ lengths_of ds

-- the output's first bytes are the datagrams, its first lengths theirs, and count is their number; what stands beyond keeps its values
pub record Output (ds : List (List ℕ)) (out₀ lengths₀ : List ℕ) (count : ℕ) (out lengths : List ℕ) : Type 0 where
  pub bytes : out ≡ sets out₀ 0 (joined ds)
  pub sizes : lengths ≡ sets lengths₀ 0 (lengths_of ds)
  pub number : count ≡ length ds

-- the bytes of each datagram of segments
abbrev pub bytes_of_datagrams : List (List Segment) → List (List ℕ)
bytes_of_datagrams = map bytes_of_segments

-- ---- a packer

-- nothing is packed
abbrev pub none : Packer
none = record { at = 0; start = 0; count = 0 }

-- the packer k has put this packing into the output: the closed datagrams with their lengths, then the one that is being filled
pub record Packs (out₀ lengths₀ : List ℕ) (p : Packing) (k : Packer) (out lengths : List ℕ) : Type 0 where
  pub bytes : out ≡ sets out₀ 0 (joined (bytes_of_datagrams p.closed) ++ bytes_of_segments p.filling)
  pub sizes : lengths ≡ sets lengths₀ 0 (lengths_of (bytes_of_datagrams p.closed))
  pub start : k.start ≡ length (joined (bytes_of_datagrams p.closed))
  pub at : k.at ≡ k.start + length (bytes_of_segments p.filling)
  pub count : k.count ≡ length p.closed

-- the datagrams that it has begun: those closed, and the one that is being filled unless it is empty
abbrev pub begun : Packer → ℕ
begun k = k.count + min 1 (k.at - k.start)

-- its numbers: the datagram that is being filled is within mtu, which a 16-bit length holds
pub record Fills (mtu : ℕ) (k : Packer) : Type 0 where
  pub word : mtu < 2 ^ 16
  pub order : k.start ≤ k.at
  pub within : k.at ≤ k.start + mtu

-- there is room for n bytes more, in m datagrams more
pub record Room (mtu n m : ℕ) (k : Packer) (out lengths : List ℕ) : Type 0 where
  pub fills : Fills mtu k
  pub bytes : k.at + n ≤ length out
  pub datagrams : begun k + m ≤ length lengths

-- segments are packed behind whatever was packed: at most n bytes, in at most m datagrams more
pub record Adds (mtu : ℕ) (gs : List Segment) (n m : ℕ) (k : Packer) (out lengths : List ℕ) (k' : Packer) (out' lengths' : List ℕ) : Type 0
  where
    pub packs : (out₀ lengths₀ : List ℕ) (p : Packing) → Packs out₀ lengths₀ p k out lengths
        → Packs out₀ lengths₀ (foldl (pack_one mtu) p gs) k' out' lengths'
    pub fills : Fills mtu k'
    pub bytes : k'.at ≤ k.at + n
    pub datagrams : begun k' ≤ begun k + m
    pub out_length : length out' ≡ length out
    pub lengths_length : length lengths' ≡ length lengths

-- ---- the steps of a packer

-- n bytes more keep the datagram that is being filled within mtu
abbrev pub fits : ℕ → ℕ → Packer → Bool
fits mtu n k = leb (k.at - k.start + n) mtu

-- that datagram closed, and its length noted
abbrev pub closed : Packer → Packer
closed k = record { at = k.at; start = k.at; count = k.count + 1 }

abbrev pub with_length : Packer → List ℕ → List ℕ
with_length k lengths = set lengths k.count (k.at - k.start)

-- n bytes are to come: what would take a datagram past mtu starts a new one
pub record MakesRoom (mtu n : ℕ) (k : Packer) (lengths : List ℕ) (k' : Packer) (lengths' : List ℕ) : Type 0 where
  pub packer : k' ≡ cond (fits mtu n k) k (closed k)
  pub sizes : lengths' ≡ cond (fits mtu n k) lengths (with_length k lengths)

-- these bytes are put, the first of n that are to come
pub record Puts (mtu n : ℕ) (bytes : List ℕ) (k : Packer) (out lengths : List ℕ) (k' : Packer) (out' lengths' : List ℕ) : Type 0 where
  pub output : out' ≡ sets out k.at bytes
  pub at : k'.at ≡ k.at + length bytes
  pub start : k'.start ≡ cond (fits mtu n k) k.start k.at
  pub count : k'.count ≡ cond (fits mtu n k) k.count (k.count + 1)
  pub sizes : lengths' ≡ cond (fits mtu n k) lengths (with_length k lengths)

-- the last datagram is closed, unless it is empty
pub record Finishes (k : Packer) (lengths : List ℕ) (count : ℕ) (lengths' : List ℕ) : Type 0 where
  pub number : count ≡ begun k
  pub sizes : lengths' ≡ cond (eqb k.at k.start) lengths (with_length k lengths)
