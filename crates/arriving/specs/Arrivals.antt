-- The lists of the receiving half in lent arrays, and what its functions leave. Definitions.
-- Assumes nothing.
use Rattle.std.specs.Prelude.{◌≡◌, List, map, ℕ, ◌≤◌, length}
use Rattle.lists.specs.declared.Held.{Held}
use Rattle.lists.specs.declared.Listed.{Listed}
use Rattle.lists.specs.declared.Waiting.{Waiting}
use Rattle.lists.specs.declared.Receiving as lists
use Rattle.lists.specs.Receiving as receiving
use Rattle.session.specs.State.{Ack}
use Rattle.session.specs.Reading.{front_count, after_read}
use Rattle.words.specs.Words.{unpack, held_in, paired, waiting_at}
use Rattle.control.specs.Views.{receiving_of}
use Rattle.control.specs.declared.Arrival.{Arrival}
use Rattle.arriving.specs.declared.Incoming.{Incoming}

-- the lists that the arrays hold
abbrev pub ready_list : List ℕ → ℕ → Listed Held 128
ready_list words n = record { at = map unpack words; count = n }

abbrev pub waiting_list : List ℕ → List ℕ → ℕ → Listed Waiting 128
waiting_list words numbers n = record { at = paired waiting_at words numbers; count = n }

abbrev pub lists_of : Arrival → List ℕ → List ℕ → List ℕ → lists.Receiving
lists_of a ready waiting numbers =
    record { next = a.expected; ready = ready_list ready a.ready; waiting = waiting_list waiting numbers a.waiting }

-- the half's arrays have their lengths
pub record WholeLists (ready waiting numbers : List ℕ) : Type 0 where
  pub whole_ready : length ready ≡ 128
  pub whole_waiting : length waiting ≡ 128
  pub whole_numbers : length numbers ≡ 128

-- the counts are within the arrays
pub record Fits (a : Arrival) : Type 0 where
  pub few_ready : a.ready ≤ 128
  pub few_waiting : a.waiting ≤ 128

-- r with the arrays is what advancing makes of these lists; acks and tell are as they were in a
pub record Advanced (a : Arrival) (next : ℕ) (held : List Held) (waits : List Waiting) (r : Arrival) (ready waiting numbers : List ℕ) : Type
    0 where
  pub whole : WholeLists ready waiting numbers
  pub is : receiving.ReceivingIs (lists_of r ready waiting numbers) (receiving.advance next held waits)
  pub same_acks : r.acks ≡ a.acks
  pub same_tell : r.tell ≡ a.tell

-- the first k ready segments are freed: where the front message has k segments, r is the half after reading it
pub record Freed (a : Arrival) (k : ℕ) (ready waiting numbers : List ℕ) (r : Arrival) (ready' waiting' numbers' : List ℕ) : Type 0 where
  pub whole : WholeLists ready' waiting' numbers'
  pub counts : Fits r
  pub same_acks : r.acks ≡ a.acks
  pub reads : (acks : List Ack) → front_count (held_in ready a.ready) ≡ k
      → receiving_of r ready' waiting' numbers' acks ≡ after_read (receiving_of a ready waiting numbers acks)

-- the lent parts are the same
pub record Same (l l' : Incoming) : Type 0 where
  pub ready : l'.ready.ghost_name ≡ l.ready.ghost_name
  pub waiting : l'.waiting.ghost_name ≡ l.waiting.ghost_name
  pub numbers : l'.numbers.ghost_name ≡ l.numbers.ghost_name

-- the arrays have their lengths
abbrev pub Whole : Incoming → Type 0
Whole l = WholeLists l.ready.now l.waiting.now l.numbers.now

abbrev pub lists_in : Incoming → lists.Receiving
lists_in l = lists_of l.arrival l.ready.now l.waiting.now l.numbers.now
