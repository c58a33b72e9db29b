-- The state that a control block stands for, with the records of its outstanding segments and the lent ack list. Definitions.
-- Assumes nothing.
use Rattle.std.specs.Prelude.{◌≡◌, Bool, not, ◌&&◌, List, [], ◌∷◌, ℕ, zero, suc, leb, eqb, length}
use Rattle.protocol.specs.Protocol.{acks_most}
use Rattle.protocol.specs.declared.Settings.{Settings}
use Rattle.timing.specs.declared.Record.{Record}
use Rattle.lists.specs.Joining.{joined}
use Rattle.schedule.specs.declared.Schedule.{Schedule}
use Rattle.session.specs.State.{Ack, Sending, Receiving, State}
use Rattle.session.specs.Valid.{valid}
use Rattle.words.specs.Words.{held_in, waiting_in, outstanding_in}
use Rattle.control.specs.declared.Link.{Link}
use Rattle.control.specs.declared.Flight.{Flight}
use Rattle.control.specs.declared.Arrival.{Arrival}
use Rattle.control.specs.declared.Clock.{Clock}

-- a flag is set where it is not 0
abbrev pub is_set : ℕ → Bool
is_set x = not (eqb x 0)

-- the first n pairs of an ack list, sn then ts
unfoldable pub pairs : ℕ → List ℕ → List Ack
pairs zero l = []
pairs (suc n) [] = []
pairs (suc n) (a ∷ []) = []
pairs (suc n) (a ∷ b ∷ l) = record { sn = a; ts = b } ∷ pairs n l

-- ---- the block, and its lists

-- the lists of a block: arrays of words, with transmissions and numbers beside them
pub record Arrays : Type 0 where
  pub queued : List ℕ
  pub outstanding : List ℕ
  pub transmissions : List ℕ
  pub ready : List ℕ
  pub waiting : List ℕ
  pub numbers : List ℕ

abbrev pub arrays : List ℕ → List ℕ → List ℕ → List ℕ → List ℕ → List ℕ → Arrays
arrays queued outstanding transmissions ready waiting numbers =
    record {
      queued = queued;
      outstanding = outstanding;
      transmissions = transmissions;
      ready = ready;
      waiting = waiting;
      numbers = numbers;
    }

abbrev pub arrays_of : Link → Arrays
arrays_of l =
    record {
      queued = l.queued;
      outstanding = l.outstanding;
      transmissions = l.transmissions;
      ready = l.ready;
      waiting = l.waiting;
      numbers = l.waiting_numbers;
    }

-- the block of these parts
abbrev pub link_of : Settings → Flight → Arrival → Clock → Arrays → Link
link_of s f a c x =
    record {
      settings = s;
      flight = f;
      arrival = a;
      clock = c;
      queued = x.queued;
      outstanding = x.outstanding;
      transmissions = x.transmissions;
      ready = x.ready;
      waiting = x.waiting;
      waiting_numbers = x.numbers;
    }

-- each array has its length
pub record Whole (x : Arrays) : Type 0 where
  pub whole_queued : length x.queued ≡ 128
  pub whole_outstanding : length x.outstanding ≡ 32
  pub whole_transmissions : length x.transmissions ≡ 32
  pub whole_ready : length x.ready ≡ 128
  pub whole_waiting : length x.waiting ≡ 128
  pub whole_numbers : length x.numbers ≡ 128

-- ---- what it stands for

-- the sending half: queued segments, and segments in flight with their records
abbrev pub sending_of : Flight → List ℕ → List ℕ → List ℕ → List Record → Sending
sending_of f queued outstanding transmissions records =
    record {
      una = f.una;
      next = f.next;
      queued = held_in queued f.queued;
      outstanding = joined (outstanding_in outstanding transmissions f.outstanding) records;
      window = f.window;
      round_trip = f.rtt;
    }

-- the receiving half, with the acks noted
abbrev pub receiving_of : Arrival → List ℕ → List ℕ → List ℕ → List Ack → Receiving
receiving_of a ready waiting numbers acks =
    record {
      next = a.expected;
      ready = held_in ready a.ready;
      waiting = waiting_in waiting numbers a.waiting;
      acks = acks;
      tell = is_set a.tell;
    }

-- the schedule of flushes
abbrev pub schedule_of : Clock → Schedule
schedule_of k = record { next = k.next_flush; made = is_set k.updated }

-- the state of a link
unfoldable pub state_of : Link → List Record → List ℕ → State
state_of l records acks =
    record {
      settings = l.settings;
      sending = sending_of l.flight l.queued l.outstanding l.transmissions records;
      receiving = receiving_of l.arrival l.ready l.waiting l.waiting_numbers (pairs l.arrival.acks acks);
      probe = l.clock.probe;
      current = l.clock.current;
      schedule = schedule_of l.clock;
      congestion = l.flight.congestion;
      ask = is_set l.clock.ask;
      dead = is_set l.clock.dead;
    }

-- the counts are within what the arrays hold
abbrev pub counted : Flight → Arrival → Bool
counted f a = leb f.queued 128 && leb f.outstanding 32 && leb a.ready 128 && leb a.waiting 128 && leb a.acks acks_most

-- a count beyond that gives 13
unfoldable pub counts_fit : Link → Bool
counts_fit l = counted l.flight l.arrival

-- a block that a link makes: refusal 13 is given exactly where this fails
unfoldable pub block_valid : Link → List Record → List ℕ → Bool
block_valid l records acks = counts_fit l && valid (state_of l records acks)
