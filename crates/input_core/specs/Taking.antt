-- Taking in a datagram over a block: what the checks of 7 and 13 have established, and what the call leaves. Definitions.
-- Assumes nothing.
use Rattle.std.specs.Prelude.{◌≡◌, true, List, ℕ, ◌*◌, ◌≤◌, length, Err, Ok}
use Rattle.protocol.specs.Protocol.{receive_slots, acks_most}
use Rattle.protocol.specs.Ranges.{mss}
use Rattle.protocol.specs.declared.Settings.{Settings}
use Rattle.congestion.specs.Congestions.{after_datagram}
use Rattle.timing.specs.declared.Record.{Record}
use Rattle.session.specs.State.{Outcome}
use Rattle.session.specs.Input.{Took}
use Rattle.control.specs.declared.Link.{Link}
use Rattle.control.specs.declared.Flight.{Flight}
use Rattle.checking.specs.Verdicts.{Checked}
use Rattle.promises.specs.Cores.{PutBack, InputCore}
use Rattle.answers.specs.Answers.{Answer, Count}

-- with these records the block is one that this link makes, the marks tell its free receive slots, and the pool has all of them, the ack
-- list all pairs
pub record Hearable (l : Link) (records : List Record) (marks acks pool : List ℕ) : Type 0 where
  pub checked : (send : List ℕ) × Checked l records send marks true
  pub whole : length records ≡ 32
  pub slots : receive_slots * mss l.settings ≤ length pool
  pub ack_list : 2 * acks_most ≤ length acks

-- the numbers after a datagram, with the congestion window grown from what it was before
abbrev pub grown_from : Settings → Flight → Flight → Flight
grown_from c before after =
    record {
      una = after.una;
      next = after.next;
      rtt = after.rtt;
      window = after.window;
      congestion = after_datagram before.congestion (mss c) before.una after.una after.window;
      queued = after.queued;
      outstanding = after.outstanding;
    }

-- accepted, or the refusal
abbrev pub accepted : Count → Answer
accepted (Ok n) = Ok tt
accepted (Err q) = Err q

-- back into the table go so many of these records as the answer says, by the block's words; refused, none
abbrev pub put_by : Count → Link → List Record → PutBack
put_by (Ok n) l' records = record { words = l'.outstanding; changed = n; records = records }
put_by (Err q) l' records = record { words = l'.outstanding; changed = 0; records = records }

-- what the call leaves, by what the definition gives
abbrev pub Takes : Outcome Took → Link → List ℕ → List ℕ → Count → Link → List Record → List ℕ → List ℕ → Type 0
Takes o l pool acks r l' records pool' acks' = InputCore o l pool acks (accepted r) l' (put_by r l' records) pool' acks'

-- what taking in does not touch, past the count too: the settings, the clock and the queued words
pub record InputKeeps (l l' : Link) : Type 0 where
  pub settings : l'.settings ≡ l.settings
  pub clock : l'.clock ≡ l.clock
  pub queued : l'.queued ≡ l.queued
