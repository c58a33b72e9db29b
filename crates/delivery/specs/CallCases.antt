-- The outcomes of each call: what holds of each of them holds of what the call gives.
-- Assumes nothing.
use Rattle.std.specs.Prelude.{◌≡◌, refl, Bool, true, false, cond, List, ◌++◌, ℕ, ◌-◌, ◌*◌, leb, ltb, length}
use Rattle.protocol.specs.Protocol.{send_slots, fragments_most}
use Rattle.protocol.specs.Ranges.{mss, is_stream}
use Rattle.protocol.specs.declared.Settings.{Settings}
use Rattle.protocol.specs.declared.Refusal.{Refusal}
use Rattle.protocol.specs.declared.Refusal.TheVariants.{ShortPart, NoMessage, LongMessage, NoFreeSlots}
use Rattle.datagram.specs.Datagrams.{Segment, Parsed, parse}
use Rattle.schedule.specs.Schedules.{updated}
use Rattle.schedule.specs.declared.Schedule.{Schedule}
use Rattle.session.specs.State.{State, Sending, Outcome, send_held, slots, with_queued, with_receiving, with_times, with_schedule}
use Rattle.session.specs.Valid.{valid}
use Rattle.session.specs.Cutting.{segment_count, cut_as}
use Rattle.session.specs.Sending.{Placed, place, Filled, filled, Sends, sending}
use Rattle.session.specs.Input.{Took, applied, taking, input}
use Rattle.session.specs.Flushing.{flushing}
use Rattle.session.specs.Updating.{Updates, waits, flushes, updating}
use Rattle.session.specs.Calls.{Station, Call, Reply, Stepped, after_send, after_take_in, after_flush, after_reading, after_update, own}
use Rattle.session.specs.Reading.{Reads, readable, message_size, message, after_read, reading}

-- a half with these settings: its queue filled, and what is left to cut
abbrev pub filling : Settings → Sending → List ℕ → List ℕ → Filled
filling c s pool m = filled (is_stream c) (mss c) s.queued pool m

-- the payloads of the new segments, and where they are placed
abbrev pub cutting : Settings → Sending → List ℕ → List ℕ → List (List ℕ)
cutting c s pool m = cut_as (is_stream c) (mss c) (filled (is_stream c) (mss c) s.queued pool m).rest

abbrev pub placing : Settings → Sending → List ℕ → List ℕ → Placed
placing c s pool m =
    place (is_stream c) (mss c) (slots (send_held s)) (filled (is_stream c) (mss c) s.queued pool m).pool
    (cut_as (is_stream c) (mss c) (filled (is_stream c) (mss c) s.queued pool m).rest)

-- what is left to cut is not above 127 x mss bytes
abbrev pub Short : Settings → Sending → List ℕ → List ℕ → Type 0
Short c s pool m = ltb (fragments_most * mss c) (length (filled (is_stream c) (mss c) s.queued pool m).rest) ≡ false

-- how many new segments it makes
abbrev pub new_segments : Settings → Sending → List ℕ → List ℕ → ℕ
new_segments c s pool m = segment_count (is_stream c) (mss c) (length (filled (is_stream c) (mss c) s.queued pool m).rest)

-- no more than there are free slots
abbrev pub Room : Settings → Sending → List ℕ → List ℕ → Type 0
Room c s pool m = ltb (send_slots - length (slots (send_held s))) (new_segments c s pool m) ≡ false

pub record Sendable (s : State) (pool m : List ℕ) : Type 0 where
  pub short : Short s.settings s.sending pool m
  pub room : Room s.settings s.sending pool m

-- what an accepted send leaves
abbrev pub sent_by : State → List ℕ → List ℕ → Sends
sent_by s pool m =
    let c = s.settings in
    let d = s.sending in
    record { state = with_queued s ((filling c d pool m).queued ++ (placing c d pool m).segments); pool = (placing c d pool m).pool }

pub sending_cases : (P : Outcome Sends → Type 0) (s : State) (pool m : List ℕ) →
    ((r : Refusal) → P (Outcome.refused r)) →
    (Sendable s pool m → P (Outcome.done (sent_by s pool m))) →
    P (sending s pool m)
unfolding sending
sending_cases P s pool m refused done = go (ltb (fragments_most * mss c) left) refl (ltb free (new_segments c s.sending pool m)) refl
  where
    c : Settings
    c = s.settings

    left : ℕ
    left = length (filling s.settings s.sending pool m).rest

    free : ℕ
    free = send_slots - length (slots (send_held s.sending))

    go : (a : Bool) → ltb (fragments_most * mss s.settings) left ≡ a →
        (b : Bool) → ltb free (new_segments s.settings s.sending pool m) ≡ b →
        P (cond a (Outcome.refused LongMessage) (cond b (Outcome.refused NoFreeSlots) (Outcome.done (sent_by s pool m))))
    go true e b f = refused LongMessage
    go false e true f = refused NoFreeSlots
    go false e false f = done (record { short = e; room = f })

pub input_cases : (P : Outcome Took → Type 0) (s : State) (pool d : List ℕ) →
    ((r : Refusal) → P (Outcome.refused r)) →
    ((gs : List Segment) → parse s.settings.conv (mss s.settings) d ≡ Parsed.segments gs → P (Outcome.done (applied s pool gs))) →
    P (input s pool d)
unfolding input
input_cases P s pool d refused done = go (parse s.settings.conv (mss s.settings) d) refl
  where
    go : (p : Parsed) → parse s.settings.conv (mss s.settings) d ≡ p → P (taking s pool p)
    go (Parsed.refused r) e = refused r
    go (Parsed.segments gs) e = done gs e

pub reading_cases : (P : Outcome Reads → Type 0) (s : State) (pool : List ℕ) (room : ℕ) →
    ((r : Refusal) → P (Outcome.refused r)) →
    P (Outcome.done (record { state = with_receiving s (after_read s.receiving); bytes = message s pool })) →
    P (reading s pool room)
unfolding reading
reading_cases P s pool room refused done = go (readable s.receiving.ready) (leb (message_size s.receiving) room)
  where
    result : Reads
    result = record { state = with_receiving s (after_read s.receiving); bytes = message s pool }

    go : (a b : Bool) → P (cond a (cond b (Outcome.done result) (Outcome.refused ShortPart)) (Outcome.refused NoMessage))
    go true true = done
    go true false = refused ShortPart
    go false b = refused NoMessage

-- the schedule after an update at t
abbrev pub scheduled_at : State → ℕ → Schedule
scheduled_at s t = (updated s.schedule t s.settings.interval).schedule

-- the station with this schedule
abbrev pub rescheduled : Station → Schedule → Station
rescheduled s k = record { state = with_schedule s.state k; send_pool = s.send_pool; receive_pool = s.receive_pool; lent = s.lent }

-- 13 does not look at it
pub valid_rescheduled : (s : State) (k : Schedule) → valid (with_schedule s k) ≡ valid s
unfolding valid
valid_rescheduled s k = refl

pub updating_cases : (P : Updates → Type 0) (s : State) (t : ℕ) (pool : List ℕ) →
    P (flushes (flushing (with_schedule s (scheduled_at s t)) t pool)) →
    P (waits (with_times s t (scheduled_at s t))) →
    P (updating s t pool)
unfolding updating
updating_cases P s t pool flushed waited = go (updated s.schedule t s.settings.interval).flushes
  where
    go : (b : Bool) → P (cond b (flushes (flushing (with_schedule s (scheduled_at s t)) t pool)) (waits (with_times s t (scheduled_at s t))))
    go true = flushed
    go false = waited

-- all calls at once: each is refused and leaves the station, or goes on as it does
pub own_cases : (Q : Call → Stepped → Type 0) (s : Station) →
    ((x : Call) (r : Refusal) → Q x (record { station = s; answer = Reply.refused r })) →
    ((m : List ℕ) →
    Sendable s.state s.send_pool m →
    Q (Call.send m) (after_send s (Outcome.done (sent_by s.state s.send_pool m)))) →
    ((d : List ℕ) (gs : List Segment) →
    parse s.state.settings.conv (mss s.state.settings) d ≡ Parsed.segments gs →
    Q (Call.take_in d) (after_take_in s (Outcome.done (applied s.state s.receive_pool gs)))) →
    ((t : ℕ) → Q (Call.flush t) (after_flush s (flushing s.state t s.send_pool))) →
    ((room : ℕ) →
    Q (Call.read room)
    (after_reading s
    (Outcome.done (record {
      state = with_receiving s.state (after_read s.state.receiving);
      bytes = message s.state s.receive_pool;
    })))) →
    ((t : ℕ) → Q (Call.update t) (after_flush s (flushing (with_schedule s.state (scheduled_at s.state t)) t s.send_pool))) →
    ((t : ℕ) → Q (Call.update t) (after_update s (waits (with_times s.state t (scheduled_at s.state t))))) →
    ((t : ℕ) → Q (Call.check t) (own s (Call.check t))) →
    (x : Call) →
    Q x (own s x)
own_cases Q s refused sends takes flushed reads updates waited checks (Call.send m) =
    sending_cases (λ (y : Outcome Sends). Q (Call.send m) (after_send s y)) s.state s.send_pool m (refused (Call.send m)) (sends m)
own_cases Q s refused sends takes flushed reads updates waited checks (Call.take_in d) =
    input_cases (λ (y : Outcome Took). Q (Call.take_in d) (after_take_in s y)) s.state s.receive_pool d (refused (Call.take_in d))
    (takes d)
own_cases Q s refused sends takes flushed reads updates waited checks (Call.flush t) = flushed t
own_cases Q s refused sends takes flushed reads updates waited checks (Call.update t) =
    updating_cases (λ (y : Updates). Q (Call.update t) (after_update s y)) s.state t s.send_pool (updates t) (waited t)
own_cases Q s refused sends takes flushed reads updates waited checks (Call.check t) = checks t
own_cases Q s refused sends takes flushed reads updates waited checks (Call.read room) =
    reading_cases (λ (y : Outcome Reads). Q (Call.read room) (after_reading s y)) s.state s.receive_pool room (refused (Call.read room))
    (reads room)
