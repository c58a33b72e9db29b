-- What is claimed of calls since an accepted opening, in the terms of the caller: block, lent parts, and the answers given.
-- Assumes nothing.
use Rattle.std.specs.Prelude.{◌≡◌, ℕ, ◌+◌, ◌<◌, ◌%◌, ◌^◌, length, drop, Ok}
use mathlib.Core.List.{List, ◌++◌, flatten}
use Rattle.protocol.specs.Ranges.{mss}
use Rattle.protocol.specs.declared.Settings.{Settings}
use Rattle.protocol.specs.declared.Refusal.TheVariants.{ShortPart, InvalidBlock}
use Rattle.session.specs.Reading.{joined_in}
use Rattle.session.specs.Calls.{Call, Reply, Event, accepted_list}
use Rattle.delivery.specs.Accepted.{numbered_by}
use Rattle.delivery.specs.Claims.{Observed}
use Rattle.delivery.specs.Ledger.{fragments_by, acknowledged_by}
use Rattle.promises.specs.Parts.{state_in}
use Rattle.promises.specs.Promises.{SizePromise}
use Rattle.demands.specs.Steps.{Endpoint, Called, Runs, start, next}
use Rattle.demands.specs.Stations.{station_of}

-- ---- refusals

-- the call is a read, and its buffer is shorter than the message, whose size telling it gives
abbrev pub ShortBuffer : Endpoint → Call → Type 0
ShortBuffer e (Call.read room) = (n : ℕ) × SizePromise e.link e.parts (Ok n) × (room < n)
ShortBuffer e (Call.send m) = ⊥
ShortBuffer e (Call.take_in d) = ⊥
ShortBuffer e (Call.flush t) = ⊥
ShortBuffer e (Call.update t) = ⊥
ShortBuffer e (Call.check t) = ⊥

-- the answer is not 13, and it is 7 only where the buffer is short
pub record Passes (short : Type 0) (a : Reply) : Type 0 where
  pub made : a ≡ Reply.refused InvalidBlock → ⊥
  pub lent : a ≡ Reply.refused ShortPart → short

-- of each call of a list
abbrev pub Each : (Endpoint → Call → Reply → Type 0) → {e e' : Endpoint} {xs : List Call} {events : List Event} → Runs e xs events e'
    → Type 0
Each P start = Unit {0}
Each P (next e x a e' h r) = P e x a × Each P r

-- ---- the ledger

-- the segments acknowledged by the calls of a list: each call gets the endpoint as the last one left it
unfoldable pub segments_acknowledged : {e e' : Endpoint} {xs : List Call} {events : List Event} → Runs e xs events e' → ℕ
segments_acknowledged start = 0
segments_acknowledged (next e x a e' h r) = acknowledged_by (station_of e) x a + segments_acknowledged r

-- the fragments accepted in the calls of a list: the new segments of the sends that are not refused
unfoldable pub fragments_accepted : {e e' : Endpoint} {xs : List Call} {events : List Event} → Runs e xs events e' → ℕ
fragments_accepted start = 0
fragments_accepted (next e x a e' h r) = fragments_by (station_of e) x a + fragments_accepted r

-- ---- the bytes queued (request 2026-05)

-- the payloads queued, joined
abbrev pub queued_bytes : Settings → Endpoint → List ℕ
queued_bytes c e = joined_in (mss c) e.parts.send_pool (state_in e.link e.parts).sending.queued

-- after these events as many segments are numbered as snd_nxt says (modulo 2^32); their bytes, then those queued, are the bytes
-- accepted; so those queued are the bytes accepted and not yet numbered
pub record QueuedBytes (c : Settings) (events : List Event) (e : Endpoint) : Type 0 where
  pub next : (state_in e.link e.parts).sending.next ≡ length (numbered_by c events) % 2 ^ 32
  pub accepted : flatten (numbered_by c events) ++ queued_bytes c e ≡ flatten (accepted_list events)
  pub queued : queued_bytes c e ≡ drop (length (flatten (numbered_by c events))) (flatten (accepted_list events))

-- ---- demand 3

-- a receiver that made these calls with these answers, and is now e: a read that comes next is any that keeps its promise
abbrev pub observed : List Call → List Event → Endpoint → Observed
observed calls events e =
    record {
      calls = calls;
      events = events;
      NextRead = λ room a. (later : Endpoint) × Called e (Call.read room) a later;
      expected = (state_in e.link e.parts).receiving.next;
    }
