-- Reading a message, telling the size of the next one, showing its first segment.
-- Assumes nothing.
use Rattle.std.specs.Prelude.{Bool, false, cond, ◌||◌, ◌&&◌, List, [], ◌∷◌, ◌++◌, ℕ, ◌+◌, ◌*◌, leb, ltb, eqb, length, take, drop}
use Rattle.protocol.specs.Protocol.{receive_window}
use Rattle.protocol.specs.Ranges.{mss}
use Rattle.protocol.specs.declared.Refusal.TheVariants.{ShortPart, NoMessage}
use Rattle.lists.specs.declared.Held.{Held}
use Rattle.session.specs.Input.{moved_up}
use Rattle.session.specs.State.{State, Receiving, Outcome, refused, done, with_lists, with_notes, with_receiving}

-- the segments of the message at the front: the front segment's fragment number plus 1
abbrev pub front_count : List Held → ℕ
front_count [] = 0
front_count (h ∷ l) = h.fragment + 1

-- a message can be read when that many are ready
abbrev pub readable : List Held → Bool
readable [] = false
readable (h ∷ l) = leb (h.fragment + 1) (length (h ∷ l))

-- a segment's payload, as the part of the receive pool from slot x mss on
abbrev pub payload_in : ℕ → List ℕ → Held → List ℕ
payload_in m pool h = take h.len (drop (h.slot * m) pool)

-- payloads joined
unfoldable pub joined_in : ℕ → List ℕ → List Held → List ℕ
joined_in m pool [] = []
joined_in m pool (h ∷ l) = payload_in m pool h ++ joined_in m pool l

-- the message at the front: exactly that many segments joined
unfoldable pub message : State → List ℕ → List ℕ
message s pool = joined_in (mss s.settings) pool (take (front_count s.receiving.ready) s.receiving.ready)

-- its length
unfoldable pub length_of : List Held → ℕ
length_of [] = 0
length_of (h ∷ l) = h.len + length_of l

unfoldable pub message_size : Receiving → ℕ
message_size r = length_of (take (front_count r.ready) r.ready)

-- reading frees the message's segments, moves waiting segments up, and wants a tell if 128 were ready before and fewer after
unfoldable pub after_read : Receiving → Receiving
after_read r =
    let moved = moved_up (with_lists r r.next (drop (front_count r.ready) r.ready) r.waiting) in
    with_notes moved moved.acks (moved.tell || eqb (length r.ready) receive_window && ltb (length moved.ready) receive_window)

-- what a read gives: the state after it, and the message
pub record Reads : Type 0 where
  pub state : State
  pub bytes : List ℕ

-- reading checks 9, then 7 for the message buffer
unfoldable pub reading : State → List ℕ → ℕ → Outcome Reads
reading s pool room =
    let ready = s.receiving.ready in
    cond (readable ready)
    (cond (leb (message_size s.receiving) room)
    (done (record { state = with_receiving s (after_read s.receiving); bytes = message s pool }))
    (refused ShortPart))
    (refused NoMessage)

-- telling the size
unfoldable pub telling : State → Outcome ℕ
telling s = cond (readable s.receiving.ready) (done (message_size s.receiving)) (refused NoMessage)

-- a part of the receive pool: where it starts, and its length
pub record Part : Type 0 where
  pub start : ℕ
  pub count : ℕ

abbrev pub front_part : ℕ → List Held → Part
front_part m [] = record { start = 0; count = 0 }
front_part m (h ∷ l) = record { start = h.slot * m; count = h.len }

-- showing gives the front segment's payload as the very part of the receive pool that holds it
unfoldable pub showing : State → Outcome Part
showing s = cond (readable s.receiving.ready) (done (front_part (mss s.settings) s.receiving.ready)) (refused NoMessage)
