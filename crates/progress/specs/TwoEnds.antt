-- What request 2026-13 speaks of: two ends that have heard only each other's datagrams, a receiver that has read until 9, and one good
-- round trip. Definitions.
-- Assumes nothing.
use Rattle.std.specs.Prelude.{◌≡◌, true, ℕ, ◌^◌, ◌<◌}
use mathlib.Core.List.{List, [], ◌∷◌, ◌++◌, map, Memᴰ}
use Rattle.protocol.specs.Serial.{is_after}
use Rattle.protocol.specs.declared.Settings.{Settings}
use Rattle.protocol.specs.declared.Refusal.TheVariants.{NoMessage}
use Rattle.session.specs.Slots.{occurs}
use Rattle.session.specs.Calls.{Call, Reply, Event, datagrams_in}
use Rattle.session.specs.Decides.{All}
use Rattle.delivery.specs.PlainReceiver.{pushes_in}
use Rattle.delivery.specs.Hearing.{CallFits}
use Rattle.demands.specs.Steps.{Endpoint, Called, Runs, SinceOpening}
use Rattle.demands.specs.Claims.{fragments_accepted}

-- ---- the calls of two ends, in the order in which they happen

-- a call of the end A or of the end B, with its answer
pub data Move : Type 0 where
  at_a : Call → Reply → Move
  at_b : Call → Reply → Move

-- the calls of each end, with their answers
unfoldable pub events_of_a : List Move → List Event
events_of_a [] = []
events_of_a (at_a x a ∷ ms) = record { call = x; answer = a } ∷ events_of_a ms
events_of_a (at_b x a ∷ ms) = events_of_a ms

unfoldable pub events_of_b : List Move → List Event
events_of_b [] = []
events_of_b (at_a x a ∷ ms) = events_of_b ms
events_of_b (at_b x a ∷ ms) = record { call = x; answer = a } ∷ events_of_b ms

abbrev pub calls_of : List Event → List Call
calls_of events = map (λ (e : Event). e.call) events

-- the end e, opened with the settings c, made these calls with these answers: lent and changed as demand 3 says
abbrev pub MadeBy : Settings → List Event → Endpoint → Type 0
MadeBy c events e = SinceOpening c (calls_of events) events e

-- fewer than 2^30 segments: those that its accepted sends made, in both modes of cutting
abbrev pub FewSegments : {c : Settings} {events : List Event} {e : Endpoint} → MadeBy c events e → Type 0
FewSegments h = fragments_accepted h.runs < 2 ^ 30

-- what the call takes in, if it takes in a datagram, is one of these
abbrev pub TakesOneOf : List (List ℕ) → Call → Type 0
TakesOneOf ds (Call.take_in d) = Memᴰ d ds
TakesOneOf ds (Call.send m) = Unit {0}
TakesOneOf ds (Call.flush t) = Unit {0}
TakesOneOf ds (Call.read room) = Unit {0}
TakesOneOf ds (Call.update t) = Unit {0}
TakesOneOf ds (Call.check t) = Unit {0}

-- where A has written by_a and B has written by_b: each end takes in only what the other one had written before, lost, late, repeated
-- or shuffled as it may be
abbrev pub HeardFrom : List (List ℕ) → List (List ℕ) → List Move → Type 0
HeardFrom by_a by_b [] = Unit {0}
HeardFrom by_a by_b (at_a x a ∷ ms) = TakesOneOf by_b x × HeardFrom (by_a ++ datagrams_in a) by_b ms
HeardFrom by_a by_b (at_b x a ∷ ms) = TakesOneOf by_a x × HeardFrom by_a (by_b ++ datagrams_in a) ms

abbrev pub HeardOnlyEachOther : List Move → Type 0
HeardOnlyEachOther ms = HeardFrom [] [] ms

-- ---- read until 9

-- a call that takes in no datagram
abbrev pub TakesNone : Event → Type 0
TakesNone e = TakesOneOf [] e.call

-- some read gave 9, and no datagram was taken in since
pub record ReadUntil9 (events : List Event) : Type 0 where
  pub before : List Event
  pub room : ℕ
  pub since : List Event
  pub are : events ≡ before ++ (record { call = Call.read room; answer = Reply.refused NoMessage } ∷ since)
  pub unheard : All TakesNone since

-- ---- a good round trip

-- a push numbered n is in one of these datagrams
pub record GoesOut (c : Settings) (n : ℕ) (ds : List (List ℕ)) : Type 0 where
  pub it : List ℕ
  pub one_of : Memᴰ it ds
  pub has_it : occurs n (pushes_in c it) ≡ true

-- all of these datagrams arrive, and nothing else does: in any order, any of them more than once
pub record AllArrive (ds arrivals : List (List ℕ)) : Type 0 where
  pub all : All (λ (d : List ℕ). Memᴰ d arrivals) ds
  pub only : All (λ (d : List ℕ). Memᴰ d ds) arrivals

-- the end a makes a call that writes, a flush or an update that flushes, and what it writes all arrives at the end b: this call and
-- these feeds, and no other call
pub record FlushArrives (a b a' b' : Endpoint) : Type 0 where
  pub call : Call
  pub writes : List (List ℕ)
  pub flushes : Called a call (Reply.wrote writes) a'
  pub arrivals : List (List ℕ)
  pub all_arrive : AllArrive writes arrivals
  pub events : List Event
  pub hears : Runs b (map Call.take_in arrivals) events b'
  -- its time has 32 bits, and bytes are bytes
  pub fits : All CallFits (call ∷ map Call.take_in arrivals)

-- the sender a flushes and all of that arrives at the receiver b, who flushes then; and all of that arrives at a. The sender's lowest
-- outstanding segment, numbered snd_una (a flush leaves snd_una as it is), goes out in its flush
pub record GoodRoundTrip (c : Settings) (a b a'' : Endpoint) : Type 0 where
  -- the sender after its flush, the receiver after hearing it, and after its own flush
  pub a' : Endpoint
  pub b' : Endpoint
  pub b'' : Endpoint
  pub there : FlushArrives a b a' b'
  pub back : FlushArrives b' a' b'' a''
  pub goes_out : GoesOut c a.link.flight.una there.writes

-- ---- the claim

-- snd_una has passed n: it is after n by the signed difference, and greater as a number
pub record Passed (n una : ℕ) : Type 0 where
  pub greater : n < una
  pub after : is_after una n ≡ true
