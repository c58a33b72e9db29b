-- Which refusals a call gives that passes the checks of 7 and 13: never 13, and 7 only for a read's buffer.
-- Assumes nothing.
use Rattle.std.specs.Prelude.{◌≡◌, Ok, Err, Bool, true, false, cond, not, ◌&&◌, leb, ltb, eqb, length}
use Rattle.std.proofs.Math.Path.{refl}
use Rattle.std.proofs.Common.{sym, ap, ◌∙◌, true≢false, arith, leb-false}
use mathlib.Core.List.{List, [], ◌∷◌}
use Prim.Native.Nat.{ℕ, zero, suc, ◌+◌, ◌-◌, ◌*◌, ◌<◌}
use Rattle.std.proofs.lemmas.Bool.{not-true}
use Rattle.protocol.specs.Protocol.{push, window_tell, header_size, fragment_most, send_slots, fragments_most}
use Rattle.protocol.specs.Ranges.{mss}
use Rattle.protocol.specs.Refusals.{number_of}
use Rattle.protocol.specs.declared.Refusal.TheVariants.{
  ShortPart,
  ShortDatagram,
  OtherConversation,
  LengthPastEnd,
  UnknownCommand,
  LongPayload,
  HighFragment,
  NoMessage,
  LongMessage,
  NoFreeSlots,
}
use Rattle.wire.specs.Headers.{decode}
use Rattle.wire.specs.declared.Header.{Header}
use Rattle.datagram.specs.Datagrams.{Segment, Verdict, of_push, verdict, segment_of, Parsed, in_front, tail, walk, parse}
use Rattle.session.specs.State.{State, Outcome, send_held, slots, with_receiving}
use Rattle.session.specs.Sending.{Sends, sending}
use Rattle.session.specs.Input.{Took, taking, input}
use Rattle.session.specs.Reading.{Reads, readable, message_size, message, after_read, reading, telling}
use Rattle.session.specs.Updating.{Updates}
use Rattle.session.specs.Calls.{Station, Call, Reply, after_send, after_take_in, after_reading, after_update, own}
use Rattle.session.specs.Decides.{and_parts}
use Rattle.delivery.specs.CallCases.{filling, new_segments, sent_by, updating_cases}
use Rattle.demands.specs.Claims.{Passes}

-- ---- numbers of answers

-- neither 7 nor 13
abbrev clear : ℕ → Bool
clear n = not (eqb n 7) && not (eqb n 13)

-- what is refused is refused with another number
abbrev Clear : {A : Type 0} → Outcome A → Type 0
Clear (Outcome.refused r) = clear (number_of r) ≡ true
Clear (Outcome.done x) = Unit {0}

-- the refusals of a verdict and of a datagram
abbrev ClearVerdict : Verdict → Type 0
ClearVerdict (Ok _) = Unit {0}
ClearVerdict (Err r) = clear (number_of r) ≡ true

abbrev ClearParsed : Parsed → Type 0
ClearParsed (Parsed.refused r) = clear (number_of r) ≡ true
ClearParsed (Parsed.segments gs) = Unit {0}

-- ---- a datagram: 1 to 6, and 14

verdict_clear : (conv m room : ℕ) (h : Header) → ClearVerdict (verdict conv m room h)
unfolding verdict
verdict_clear conv m room h =
    go (eqb h.conv conv) (leb h.len room) (leb push h.cmd && leb h.cmd window_tell) (of_push h (leb h.len m))
    (of_push h (leb h.frg fragment_most))
  where
    -- the tests of 2 to 6
    go : (conversation inside command payload fragment : Bool)
        → ClearVerdict
        (cond conversation
        (cond inside (cond command (cond payload (cond fragment (Ok tt) (Err HighFragment)) (Err LongPayload))
        (Err UnknownCommand)) (Err LengthPastEnd))
        (Err OtherConversation))
    go false b c d e = refl
    go true false c d e = refl
    go true true false d e = refl
    go true true true false e = refl
    go true true true true false = refl
    go true true true true true = tt

front_clear : (v : Verdict) (g : Segment) (p : Parsed) → ClearVerdict v → ClearParsed p → ClearParsed (in_front v g p)
front_clear (Ok _) g (Parsed.refused r) a b = b
front_clear (Ok _) g (Parsed.segments gs) a b = tt
front_clear (Err r) g p a b = a

either_clear : (b : Bool) (p q : Parsed) → ClearParsed p → ClearParsed q → ClearParsed (cond b p q)
either_clear true p q h k = h
either_clear false p q h k = k

module _ (conv m : ℕ) where
  walk_clear : (skip : ℕ) (s : List ℕ) → ClearParsed (walk conv m skip s)
  unfolding walk tail
  walk_clear skip [] = tt
  walk_clear zero (x ∷ s) =
      let v : Verdict = verdict conv m (length (x ∷ s) - header_size) (decode (x ∷ s) 0) in
      let rest : Parsed = walk conv m (23 + (decode (x ∷ s) 0).len) s in
      either_clear (leb header_size (length (x ∷ s))) (in_front v (segment_of (x ∷ s)) rest) (tail (x ∷ s))
      (front_clear v (segment_of (x ∷ s)) rest (verdict_clear conv m (length (x ∷ s) - header_size) (decode (x ∷ s) 0))
      (walk_clear (23 + (decode (x ∷ s) 0).len) s))
      refl
  walk_clear (suc skip) (x ∷ s) = walk_clear skip s

  parse_clear : (d : List ℕ) → ClearParsed (parse conv m d)
  unfolding parse
  parse_clear d = either_clear (leb header_size (length d)) (walk conv m 0 d) (Parsed.refused ShortDatagram) (walk_clear 0 d) refl

input_clear : (s : State) (pool d : List ℕ) → Clear (input s pool d)
unfolding input
input_clear s pool d = go (parse s.settings.conv (mss s.settings) d) (parse_clear s.settings.conv (mss s.settings) d)
  where
    go : (p : Parsed) → ClearParsed p → Clear (taking s pool p)
    go (Parsed.refused r) h = h
    go (Parsed.segments gs) h = tt

-- ---- a message: 10 and 11

sending_clear : (s : State) (pool m : List ℕ) → Clear (sending s pool m)
unfolding sending
sending_clear s pool m =
    go (ltb (fragments_most * mss s.settings) (length (filling s.settings s.sending pool m).rest))
    (ltb (send_slots - length (slots (send_held s.sending))) (new_segments s.settings s.sending pool m))
  where
    go : (long full : Bool) →
        Clear (cond long (Outcome.refused LongMessage) (cond full (Outcome.refused NoFreeSlots) (Outcome.done (sent_by s pool m))))
    go true full = refl
    go false true = refl
    go false false = tt

-- ---- a read: 9, and 7 for its buffer

-- the size of the message at the front is told, and the buffer is shorter
abbrev pub Short : State → ℕ → Type 0
Short s room = (telling s ≡ Outcome.done (message_size s.receiving)) × (room < message_size s.receiving)

-- 13 is not given, and 7 only there
abbrev ClearRead : State → ℕ → Outcome Reads → Type 0
ClearRead s room (Outcome.refused r) = (eqb (number_of r) 13 ≡ false) × (number_of r ≡ 7 → Short s room)
ClearRead s room (Outcome.done x) = Unit {0}

reading_clear : (s : State) (pool : List ℕ) (room : ℕ) → ClearRead s room (reading s pool room)
unfolding reading telling
reading_clear s pool room = go (readable s.receiving.ready) refl (leb (message_size s.receiving) room) refl
  where
    result : Outcome Reads
    result = Outcome.done (record { state = with_receiving s (after_read s.receiving); bytes = message s pool })

    go : (a : Bool) → readable s.receiving.ready ≡ a → (b : Bool) → leb (message_size s.receiving) room ≡ b
        → ClearRead s room (cond a (cond b result (Outcome.refused ShortPart)) (Outcome.refused NoMessage))
    go true e true f = tt
    go true e false f = (refl, λ n. (rw e, leb-false (message_size s.receiving) room f))
    go false e b f = (refl, λ n. absurd (omega arith))

-- ---- answers

-- the number of a refusal, else 0
abbrev number_in : Reply → ℕ
number_in (Reply.refused r) = number_of r
number_in Reply.accepted = 0
number_in (Reply.wrote ds) = 0
number_in (Reply.message m) = 0
number_in Reply.waited = 0
number_in (Reply.named t) = 0

-- by its number
passes_by : (short : Type 0) (a : Reply) → eqb (number_in a) 13 ≡ false → (number_in a ≡ 7 → short) → Passes short a
passes_by short a made lent = record {
  made = λ e. true≢false (sym (ap (λ (x : Reply). eqb (number_in x) 13) e) ∙ made);
  lent = λ e. lent (ap number_in e);
}

clear_passes : (a : Reply) → clear (number_in a) ≡ true → Passes ⊥ a
clear_passes a h =
    let p = and_parts (not (eqb (number_in a) 7)) (not (eqb (number_in a) 13)) h in
    passes_by ⊥ a (not-true _ p.1) (λ e. true≢false (sym (ap (λ (n : ℕ). eqb n 7) e) ∙ not-true _ p.0))

sent_passes : (s : Station) (o : Outcome Sends) → Clear o → Passes ⊥ (after_send s o).answer
sent_passes s (Outcome.refused r) h = clear_passes (Reply.refused r) h
sent_passes s (Outcome.done x) h = clear_passes Reply.accepted refl

took_passes : (s : Station) (o : Outcome Took) → Clear o → Passes ⊥ (after_take_in s o).answer
took_passes s (Outcome.refused r) h = clear_passes (Reply.refused r) h
took_passes s (Outcome.done x) h = clear_passes Reply.accepted refl

read_passes : (s : Station) (room : ℕ) (o : Outcome Reads) → ClearRead s.state room o
    → Passes (Short s.state room) (after_reading s o).answer
read_passes s room (Outcome.refused r) h = passes_by (Short s.state room) (Reply.refused r) h.0 h.1
read_passes s room (Outcome.done x) h = passes_by (Short s.state room) (Reply.message x.bytes) refl (λ e. absurd (omega arith))

-- ---- all calls

-- the call is a read into a buffer that is too short
abbrev pub ShortRead : Station → Call → Type 0
ShortRead s (Call.read room) = Short s.state room
ShortRead s (Call.send m) = ⊥
ShortRead s (Call.take_in d) = ⊥
ShortRead s (Call.flush t) = ⊥
ShortRead s (Call.update t) = ⊥
ShortRead s (Call.check t) = ⊥

pub own_passes : (s : Station) (x : Call) → Passes (ShortRead s x) (own s x).answer
own_passes s (Call.send m) = sent_passes s (sending s.state s.send_pool m) (sending_clear s.state s.send_pool m)
own_passes s (Call.take_in d) = took_passes s (input s.state s.receive_pool d) (input_clear s.state s.receive_pool d)
own_passes s (Call.flush t) = clear_passes (own s (Call.flush t)).answer refl
own_passes s (Call.update t) =
    updating_cases (λ (y : Updates). Passes ⊥ (after_update s y).answer) s.state t s.send_pool (clear_passes _ refl)
    (clear_passes _ refl)
own_passes s (Call.check t) = clear_passes (own s (Call.check t)).answer refl
own_passes s (Call.read room) =
    read_passes s room (reading s.state s.receive_pool room) (reading_clear s.state s.receive_pool room)
