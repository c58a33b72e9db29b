-- What the core of a flush and of an update leaves. Definitions.
-- Assumes nothing.
use Rattle.std.specs.Prelude.{◌≡◌, Bool, true, false, List, ℕ, ◌*◌, ◌≤◌, length, Err, Ok, Some}
use Rattle.protocol.specs.Protocol.{send_slots, acks_most, output_least, lengths_least}
use Rattle.protocol.specs.Ranges.{in_range, mss}
use Rattle.timing.specs.declared.Record.{Record}
use Rattle.session.specs.Valid.{sending_valid}
use Rattle.session.specs.State.{Outcome, done}
use Rattle.session.specs.Flushing as session
use Rattle.session.specs.Flushing.{flushing}
use Rattle.session.specs.Updating.{flushes, updating}
use Rattle.control.specs.declared.Link.{Link}
use Rattle.control.specs.Views.{sending_of, state_of, counted}
use Rattle.promises.specs.Parts.{lent_lengths}
use Rattle.promises.specs.Outcomes.{flushes_with, updates_with}
use Rattle.promises.specs.Cores.{PutBack, FlushCore, UpdateCore}
use Rattle.flush_core.specs.declared.Flushed.{Flushed}
use Rattle.answers.specs.Answers.{Count, Update}

-- what the checks of 7 and 13 have established
pub record Flushable (l : Link) (records : List Record) (pool acks out lengths : List ℕ) : Type 0 where
  pub counts : counted l.flight l.arrival ≡ true
  pub range : in_range l.settings ≡ true
  pub sends : sending_valid l.settings (sending_of l.flight l.queued l.outstanding l.transmissions records) ≡ true
  pub slots : send_slots * mss l.settings ≤ length pool
  pub pairs : 2 * acks_most ≤ length acks
  pub bytes : output_least ≤ length out
  pub sizes : lengths_least ≤ length lengths

-- what is to be put back into the table: the records of so many outstanding segments, by their words
abbrev pub put_back : List ℕ → ℕ → List Record → PutBack
put_back words changed records = record { words = words; changed = changed; records = records }

-- ---- of the block l at t, after which it is l', with the records of its outstanding segments before and after

-- the flush itself
abbrev pub Wrote : Link → List Record → List ℕ → List ℕ → ℕ → List ℕ → List ℕ → Flushed → Link → List Record → List ℕ
    → List ℕ → Type 0
Wrote l records pool acks t out lengths r l' records' out' lengths' =
    UpdateCore (done (flushes (flushing (state_of l records acks) t pool)))
    l records acks out lengths (Ok r.written) l' (put_back l'.outstanding r.changed records') out' lengths'

-- the answer of a flush as that of an update
abbrev pub update_of : Count → Update
update_of (Ok n) = Ok (Some n)
update_of (Err r) = Err r

-- what a flush leaves, with its count
abbrev pub FlushLeaves : Outcome session.Flushed → Link → List Record → List ℕ → List ℕ → List ℕ → Update → Link → PutBack → List ℕ
    → List ℕ → Type 0
FlushLeaves o l records acks out lengths a l' b out' lengths' =
    (n : Count) × (a ≡ update_of n) × FlushCore o l records acks out lengths n l' b out' lengths'

-- behind the checks: a flush, or where it is paced an update
abbrev pub Runs : Bool → Link → List Record → List ℕ → List ℕ → ℕ → List ℕ → List ℕ → Flushed → Link → List Record → List ℕ
    → List ℕ
    → Type 0
Runs false l records pool acks t out lengths r l' records' out' lengths' =
    FlushLeaves (done (flushing (state_of l records acks) t pool))
    l records acks out lengths (Ok r.written) l' (put_back l'.outstanding r.changed records') out' lengths'
Runs true l records pool acks t out lengths r l' records' out' lengths' =
    UpdateCore (done (updating (state_of l records acks) t pool))
    l records acks out lengths (Ok r.written) l' (put_back l'.outstanding r.changed records') out' lengths'

-- with them, and the lent parts
abbrev pub Core : Bool → Link → List Record → ℕ → List ℕ → List ℕ → List ℕ → ℕ → List ℕ → List ℕ → Update → Link → PutBack
    → List ℕ → List ℕ → Type 0
Core false l records table send_pool receive_pool acks t out lengths a l' b out' lengths' =
    FlushLeaves (flushes_with l records acks (lent_lengths table send_pool receive_pool acks) send_pool (length out) (length lengths) t)
    l records acks out lengths a l' b out' lengths'
Core true l records table send_pool receive_pool acks t out lengths a l' b out' lengths' =
    UpdateCore (updates_with l records acks (lent_lengths table send_pool receive_pool acks) send_pool (length out) (length lengths) t)
    l records acks out lengths a l' b out' lengths'

-- ---- what neither touches, past the counts too: the settings, and the ready and waiting segments

pub record FlushKeeps (l l' : Link) : Type 0 where
  pub settings : l'.settings ≡ l.settings
  pub ready : l'.ready ≡ l.ready
  pub waiting : l'.waiting ≡ l.waiting
  pub waiting_numbers : l'.waiting_numbers ≡ l.waiting_numbers
