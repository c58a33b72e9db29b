-- Whole calls, and lists of them: what a station with its lent parts answers, and what it is afterwards.
-- Assumes nothing.
use Rattle.std.specs.Prelude.{Bool, List, [], ◌∷◌, ◌++◌, map, ℕ, length}
use Rattle.protocol.specs.Ranges.{mss}
use Rattle.protocol.specs.declared.Refusal.{Refusal}
use Rattle.session.specs.State.{State, Outcome, admitted}
use Rattle.sizes.specs.Sizes.{enough, enough_to_flush}
use Rattle.sizes.specs.declared.Lengths.{Lengths}
use Rattle.session.specs.Valid.{valid}
use Rattle.session.specs.Sending.{Sends, sending}
use Rattle.session.specs.Input.{Took, input}
use Rattle.session.specs.Flushing.{Flushed, flushing, bytes_of_segments}
use Rattle.session.specs.Reading.{Reads, reading}
use Rattle.session.specs.Updating.{Updates, waits, flushes, updating, checking}

-- the lengths of the lent parts that a link's state does not hold: records, ack list, and a flush's output and lengths
pub record Lent : Type 0 where
  pub table : ℕ
  pub ack_list : ℕ
  pub output : ℕ
  pub lengths : ℕ

-- a link with its lent parts
pub record Station : Type 0 where
  pub state : State
  pub send_pool : List ℕ
  pub receive_pool : List ℕ
  pub lent : Lent

pub data Call : Type 0 where
  -- send a message
  send : List ℕ → Call
  -- take in a datagram
  take_in : List ℕ → Call
  -- flush at a time
  flush : ℕ → Call
  -- read into a buffer that long
  read : ℕ → Call
  -- update at a time: a flush, or a new current time alone
  update : ℕ → Call
  -- name the time at which the next update is wanted
  check : ℕ → Call

-- what the caller sees of a call
pub data Reply : Type 0 where
  refused : Refusal → Reply
  -- a message sent, or a datagram taken in
  accepted : Reply
  -- a flush's datagrams, or those of an update that flushes
  wrote : List (List ℕ) → Reply
  -- the message read
  message : List ℕ → Reply
  -- an update that does not flush
  waited : Reply
  -- the time that a check names
  named : ℕ → Reply

-- a station after a call, and the call's answer
pub record Stepped : Type 0 where
  pub station : Station
  pub answer : Reply

abbrev pub lengths_of : Station → Lengths
lengths_of s = record { send = length s.send_pool; receive = length s.receive_pool; table = s.lent.table; acks = s.lent.ack_list }

-- a refused call leaves the station as it was
abbrev pub refused_step : Station → Refusal → Stepped
refused_step s r = record { station = s; answer = Reply.refused r }

abbrev pub after_send : Station → Outcome Sends → Stepped
after_send s (Outcome.refused r) = refused_step s r
after_send s (Outcome.done x) = record {
  station = record
      { state = x.state; send_pool = x.pool; receive_pool = s.receive_pool; lent = s.lent };
  answer = accepted;
}

abbrev pub after_take_in : Station → Outcome Took → Stepped
after_take_in s (Outcome.refused r) = refused_step s r
after_take_in s (Outcome.done x) =
    record { station = record { state = x.state; send_pool = s.send_pool; receive_pool = x.pool; lent = s.lent }; answer = accepted }

abbrev pub after_flush : Station → Flushed → Stepped
after_flush s x =
    record {
      station = record { state = x.state; send_pool = s.send_pool; receive_pool = s.receive_pool; lent = s.lent };
      answer = wrote (map bytes_of_segments x.datagrams);
    }

abbrev pub after_reading : Station → Outcome Reads → Stepped
after_reading s (Outcome.refused r) = refused_step s r
after_reading s (Outcome.done x) =
    record {
      station = record { state = x.state; send_pool = s.send_pool; receive_pool = s.receive_pool; lent = s.lent };
      answer = message x.bytes;
    }

abbrev pub after_update : Station → Updates → Stepped
after_update s (waits x) =
    record { station = record { state = x; send_pool = s.send_pool; receive_pool = s.receive_pool; lent = s.lent }; answer = waited }
after_update s (flushes x) = after_flush s x

-- what the call itself does
abbrev pub own : Station → Call → Stepped
own s (send m) = after_send s (sending s.state s.send_pool m)
own s (take_in d) = after_take_in s (input s.state s.receive_pool d)
own s (flush t) = after_flush s (flushing s.state t s.send_pool)
own s (read room) = after_reading s (reading s.state s.receive_pool room)
own s (update t) = after_update s (updating s.state t s.send_pool)
own s (check t) = record { station = s; answer = named (checking s.state t) }

-- whether the lent parts are as long as the call asks
abbrev pub long_enough : Station → Call → Bool
long_enough s (send m) = enough (mss s.state.settings) (lengths_of s)
long_enough s (take_in d) = enough (mss s.state.settings) (lengths_of s)
long_enough s (flush t) = enough_to_flush (mss s.state.settings) (lengths_of s) s.lent.output s.lent.lengths
long_enough s (read room) = enough (mss s.state.settings) (lengths_of s)
long_enough s (update t) = enough_to_flush (mss s.state.settings) (lengths_of s) s.lent.output s.lent.lengths
long_enough s (check t) = enough (mss s.state.settings) (lengths_of s)

unfoldable pub step : Station → Call → Stepped
step s x = admitted (refused_step s) (long_enough s x) (valid s.state) (own s x)

-- ---- lists of calls

-- a call with its answer
pub record Event : Type 0 where
  pub call : Call
  pub answer : Reply

-- the calls of a list with their answers: each gets the station as the last one left it
unfoldable pub history : Station → List Call → List Event
history s [] = []
history s (x ∷ xs) = record { call = x; answer = (step s x).answer } ∷ history (step s x).station xs

-- the station after them
unfoldable pub after : Station → List Call → Station
after s [] = s
after s (x ∷ xs) = after (step s x).station xs

-- the sends not refused make the accepted list
abbrev pub accepted_by : Call → Reply → List (List ℕ)
accepted_by (send m) accepted = m ∷ []
accepted_by (send m) (Reply.refused r) = []
accepted_by (send m) (wrote ds) = []
accepted_by (send m) (message b) = []
accepted_by (send m) waited = []
accepted_by (send m) (named t) = []
accepted_by (take_in d) a = []
accepted_by (flush t) a = []
accepted_by (read room) a = []
accepted_by (update t) a = []
accepted_by (check t) a = []

unfoldable pub accepted_list : List Event → List (List ℕ)
accepted_list [] = []
accepted_list (e ∷ es) = accepted_by e.call e.answer ++ accepted_list es

-- its datagrams are its flushes' output
abbrev pub datagrams_in : Reply → List (List ℕ)
datagrams_in (wrote ds) = ds
datagrams_in accepted = []
datagrams_in (Reply.refused r) = []
datagrams_in (message b) = []
datagrams_in waited = []
datagrams_in (named t) = []

unfoldable pub datagrams_by : List Event → List (List ℕ)
datagrams_by [] = []
datagrams_by (e ∷ es) = datagrams_in e.answer ++ datagrams_by es

-- the answers of the reads
abbrev pub read_answers : List Event → List Reply
read_answers [] = []
read_answers (e ∷ es) = of_read e.call e.answer ++ read_answers es
  where
    of_read : Call → Reply → List Reply
    of_read (read room) a = a ∷ []
    of_read (send m) a = []
    of_read (take_in d) a = []
    of_read (flush t) a = []
    of_read (update t) a = []
    of_read (check t) a = []

-- the messages read
unfoldable pub messages_read : List Reply → List (List ℕ)
messages_read [] = []
messages_read (message b ∷ l) = b ∷ messages_read l
messages_read (accepted ∷ l) = messages_read l
messages_read (Reply.refused r ∷ l) = messages_read l
messages_read (wrote ds ∷ l) = messages_read l
messages_read (waited ∷ l) = messages_read l
messages_read (named t ∷ l) = messages_read l
