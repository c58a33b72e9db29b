-- The message at the front of the ready segments: what reading it asks, and what it leaves. Definitions.
-- Assumes nothing.
use Rattle.std.specs.Prelude.{◌≡◌, true, cond, List, ℕ, ◌*◌, ◌≤◌, ◌<◌, leb, length, take}
use Rattle.std.proofs.lemmas.List.Edits.{sets}
use Rattle.protocol.specs.Protocol.{receive_slots}
use Rattle.protocol.specs.declared.Refusal.TheVariants.{ShortPart, NoMessage}
use Rattle.lists.specs.declared.Held.{Held}
use Rattle.session.specs.Decides.{All}
use Rattle.session.specs.State.{Ack, Outcome, refused, done}
use Rattle.session.specs.Reading.{front_count, readable, length_of, joined_in, after_read}
use Rattle.words.specs.Words.{held_in}
use Rattle.control.specs.Views.{receiving_of}
use Rattle.control.specs.declared.Arrival.{Arrival}
use Rattle.arriving.specs.Arrivals.{WholeLists, Fits}

-- the segments of the message at the front
abbrev pub front_of : List Held → List Held
front_of l = take (front_count l) l

-- each segment fits its slot
pub record InSlots (mss : ℕ) (l : List Held) : Type 0 where
  pub lengths : All (λ (h : Held). h.len ≤ mss) l
  pub slots : All (λ (h : Held). h.slot < receive_slots) l

-- each segment fits its slot, and the pool has all slots
pub record InPool (mss : ℕ) (pool : List ℕ) (l : List Held) : Type 0 where
  pub each : InSlots mss l
  pub whole : receive_slots * mss ≤ length pool

-- the length of the message at the front: 9 where there is none, then 7 for a buffer shorter than it
unfoldable pub fitting_of : List Held → ℕ → Outcome ℕ
fitting_of ready room =
    let size = length_of (front_of ready) in
    cond (readable ready) (cond (leb size room) (done size) (refused ShortPart)) (refused NoMessage)

-- a message can be read, and there is room for it
pub record FitsIn (ready : List Held) (room : ℕ) : Type 0 where
  pub complete : readable ready ≡ true
  pub within : length_of (front_of ready) ≤ room

-- the message is read: it stands at the start of the buffer, which is as it was beyond it, and r is the half after reading
pub record Taken (a : Arrival) (mss : ℕ) (ready waiting numbers pool buffer : List ℕ) (r : Arrival)
    (ready' waiting' numbers' buffer' : List ℕ) : Type 0 where
  pub whole : WholeLists ready' waiting' numbers'
  pub counts : Fits r
  pub same_acks : r.acks ≡ a.acks
  pub reads : (acks : List Ack) → receiving_of r ready' waiting' numbers' acks ≡ after_read (receiving_of a ready waiting numbers acks)
  pub bytes : buffer' ≡ sets buffer 0 (joined_in mss pool (front_of (held_in ready a.ready)))
