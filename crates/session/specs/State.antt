-- The state of a link: what document 01 speaks of, as lists and numbers.
-- Assumes nothing.
use Rattle.std.specs.Prelude.{Bool, false, cond, List, ◌++◌, map, ℕ}
use Rattle.protocol.specs.declared.Settings.{Settings}
use Rattle.protocol.specs.declared.Refusal.{Refusal}
use Rattle.protocol.specs.declared.Refusal.TheVariants.{ShortPart, InvalidBlock}
use Rattle.timing.specs.declared.RoundTrip.{RoundTrip}
use Rattle.timing.specs.declared.ProbeClock.{ProbeClock}
use Rattle.lists.specs.declared.Held.{Held}
use Rattle.lists.specs.declared.Waiting.{Waiting}
use Rattle.lists.specs.declared.Sent.{Sent}
use Rattle.congestion.specs.declared.Congestion.{Congestion}
use Rattle.schedule.specs.declared.Schedule.{Schedule}

-- a noted acknowledgement: the pushed sn and ts
pub record Ack : Type 0 where
  pub sn : ℕ
  pub ts : ℕ

-- the sending half
pub record Sending : Type 0 where
  -- snd_una and snd_nxt
  pub una : ℕ
  pub next : ℕ
  -- accepted and not yet numbered
  pub queued : List Held
  -- numbered and not acknowledged, each with its record
  pub outstanding : List Sent
  -- the peer's last window
  pub window : ℕ
  pub round_trip : RoundTrip

-- the receiving half
pub record Receiving : Type 0 where
  -- rcv_nxt
  pub next : ℕ
  -- in order, not yet read
  pub ready : List Held
  -- kept out of order
  pub waiting : List Waiting
  -- to be sent by the next flush
  pub acks : List Ack
  -- a window tell is wanted
  pub tell : Bool

pub record State : Type 0 where
  pub settings : Settings
  pub sending : Sending
  pub receiving : Receiving
  pub probe : ProbeClock
  -- the time of the last flush or update
  pub current : ℕ
  -- the next flush time, and whether an update has been made
  pub schedule : Schedule
  -- congestion window, threshold and byte allowance
  pub congestion : Congestion
  -- a window ask is wanted
  pub ask : Bool
  -- some segment was transmitted 20 times
  pub dead : Bool

-- ---- one part replaced, all others as they were. No other file builds one of these records from another one

-- the queued segments
abbrev pub with_queue : Sending → List Held → Sending
with_queue s q =
    record { una = s.una; next = s.next; queued = q; outstanding = s.outstanding; window = s.window; round_trip = s.round_trip }

-- snd_una and the outstanding segments
abbrev pub with_outstanding : Sending → ℕ → List Sent → Sending
with_outstanding s una l =
    record { una = una; next = s.next; queued = s.queued; outstanding = l; window = s.window; round_trip = s.round_trip }

-- snd_nxt, the queued and the outstanding segments
abbrev pub with_numbers : Sending → ℕ → List Held → List Sent → Sending
with_numbers s next q l =
    record { una = s.una; next = next; queued = q; outstanding = l; window = s.window; round_trip = s.round_trip }

-- the peer's last window
abbrev pub with_window : ℕ → Sending → Sending
with_window w s =
    record { una = s.una; next = s.next; queued = s.queued; outstanding = s.outstanding; window = w; round_trip = s.round_trip }

abbrev pub with_round_trip : Sending → RoundTrip → Sending
with_round_trip s x =
    record { una = s.una; next = s.next; queued = s.queued; outstanding = s.outstanding; window = s.window; round_trip = x }

-- rcv_nxt and the two lists
abbrev pub with_lists : Receiving → ℕ → List Held → List Waiting → Receiving
with_lists r next ready waiting = record { next = next; ready = ready; waiting = waiting; acks = r.acks; tell = r.tell }

-- the acks noted, and whether a tell is wanted
abbrev pub with_notes : Receiving → List Ack → Bool → Receiving
with_notes r acks tell = record { next = r.next; ready = r.ready; waiting = r.waiting; acks = acks; tell = tell }

abbrev pub with_halves : State → Sending → Receiving → State
with_halves s d r =
    record {
      settings = s.settings;
      sending = d;
      receiving = r;
      probe = s.probe;
      current = s.current;
      schedule = s.schedule;
      congestion = s.congestion;
      ask = s.ask;
      dead = s.dead;
    }

abbrev pub with_sending : State → Sending → State
with_sending s d = with_halves s d s.receiving

abbrev pub with_receiving : State → Receiving → State
with_receiving s r = with_halves s s.sending r

abbrev pub with_queued : State → List Held → State
with_queued s q = with_sending s (with_queue s.sending q)

-- the current time and the schedule
abbrev pub with_times : State → ℕ → Schedule → State
with_times s t x =
    record {
      settings = s.settings;
      sending = s.sending;
      receiving = s.receiving;
      probe = s.probe;
      current = t;
      schedule = x;
      congestion = s.congestion;
      ask = s.ask;
      dead = s.dead;
    }

abbrev pub with_congestion : State → Congestion → State
with_congestion s x =
    record {
      settings = s.settings;
      sending = s.sending;
      receiving = s.receiving;
      probe = s.probe;
      current = s.current;
      schedule = s.schedule;
      congestion = x;
      ask = s.ask;
      dead = s.dead;
    }

abbrev pub with_schedule : State → Schedule → State
with_schedule s x = with_times s s.current x

-- after a flush: the halves, the probe clock, the time, the congestion window, no ask, and whether the link is dead
abbrev pub after_flushing : State → Sending → Receiving → ProbeClock → ℕ → Congestion → Bool → State
after_flushing s d r probe t x dead =
    record {
      settings = s.settings;
      sending = d;
      receiving = r;
      probe = probe;
      current = t;
      schedule = s.schedule;
      congestion = x;
      ask = false;
      dead = dead;
    }

-- what a call gives: a refusal, or its result
pub data Outcome (A : Type 0) : Type 0 where
  refused : Refusal → Outcome A
  done : A → Outcome A

-- every call but opening checks the lent sizes (7), then the control block (13), then its own: what it gives where both pass, and what a
-- refusal of it gives
abbrev pub admitted : {A : Type 0} → (Refusal → A) → Bool → Bool → A → A
admitted refusal long made own = cond long (cond made own (refusal InvalidBlock)) (refusal ShortPart)

-- the segments of the two pools
abbrev pub send_held : Sending → List Held
send_held s = map (λ (x : Sent). x.held) s.outstanding ++ s.queued

abbrev pub receive_held : Receiving → List Held
receive_held r = r.ready ++ map (λ (w : Waiting). w.held) r.waiting

abbrev pub slots : List Held → List ℕ
slots l = map (λ (h : Held). h.slot) l
