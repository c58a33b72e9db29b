-- How much a call can count, from its promise alone: the datagrams of a flush, the bytes of a message, the place of a segment in the
-- receive pool; and how many segments are ready where no message can be read.
-- It holds of every block and all lent parts: a count is given only of a block that passed 13.
-- Definitions; the theorems are in proofs/.
-- Assumes nothing.
use Rattle.std.specs.Prelude.{ℕ, ◌+◌, ◌-◌, ◌*◌, ◌≤◌}
use Rattle.std.proofs.Math.ListN.{length}
use Rattle.protocol.specs.Protocol.{header_size, mtu_most, fragments_most, receive_slots, lengths_least}
use Rattle.protocol.specs.Ranges.{mss}
use Rattle.protocol.specs.declared.Settings.{Settings}
use Rattle.session.specs.State.{Outcome, refused, done}
use Rattle.session.specs.Reading.{Part}
use Rattle.session.specs.Updating.{Updates}

-- P holds of the result, if there is one
abbrev pub OfResult : {A : Type 0} → (A → Type 0) → Outcome A → Type 0
OfResult P (refused r) = Unit {0}
OfResult P (done x) = P x

-- the largest payload of any link
abbrev pub payload_most : ℕ
payload_most = mtu_most - header_size

-- ---- bytes of a message

-- a message is at most 127 segments of mss bytes, which is 174,752 bytes at the largest mtu
pub record MessageFits (c : Settings) (n : ℕ) : Type 0 where
  pub bytes : n ≤ fragments_most * mss c
  pub payload : mss c ≤ payload_most

-- ---- the place of a segment

-- a payload is at most mss bytes, in one of the 256 slots
pub record PlaceFits (c : Settings) (x : Part) : Type 0 where
  pub count : x.count ≤ mss c
  pub within : x.start + x.count ≤ receive_slots * mss c
  pub payload : mss c ≤ payload_most

-- ---- datagrams of an update

-- at most 290, where it flushes
abbrev pub FewDatagrams : Updates → Type 0
FewDatagrams (Updates.waits s) = Unit {0}
FewDatagrams (Updates.flushes x) = length x.datagrams ≤ lengths_least
