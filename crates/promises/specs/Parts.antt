-- A control block with its lent parts, and the state that they stand for.
-- Assumes nothing.
use Rattle.std.specs.Prelude.{◌≡◌, Bool, true, List, ℕ, length, take}
use Rattle.protocol.specs.Protocol.{send_slots}
use Rattle.timing.specs.declared.Record.{Record}
use Rattle.sizes.specs.declared.Lengths.{Lengths}
use Rattle.session.specs.State.{State}
use Rattle.control.specs.Views.{state_of, counts_fit, block_valid}
use Rattle.control.specs.declared.Link.{Link}
use Rattle.records.specs.Tables.{slots_in, gathered}

-- what is lent to every call: the two pools, the table of records, and the ack list
pub record Parts : Type 0 where
  pub send_pool : List ℕ
  pub receive_pool : List ℕ
  pub table : List Record
  pub acks : List ℕ

-- what is lent to a flush besides: where its datagrams go, one behind the other, and where their lengths go
pub record FlushParts : Type 0 where
  pub output : List ℕ
  pub lengths : List ℕ

-- the lengths of the parts, with that of the table by itself
abbrev pub lent_lengths : ℕ → List ℕ → List ℕ → List ℕ → Lengths
lent_lengths table send_pool receive_pool acks =
    record { send = length send_pool; receive = length receive_pool; table = table; acks = length acks }

abbrev pub lengths_of : Parts → Lengths
lengths_of p = lent_lengths (length p.table) p.send_pool p.receive_pool p.acks

-- what is lent to a call, by the contents of its slices
abbrev pub parts_of : List ℕ → List ℕ → List Record → List ℕ → Parts
parts_of send_pool receive_pool table acks = record { send_pool = send_pool; receive_pool = receive_pool; table = table; acks = acks }

abbrev pub flush_parts_of : List ℕ → List ℕ → FlushParts
flush_parts_of output lengths = record { output = output; lengths = lengths }

-- the slots of the outstanding segments
abbrev pub outstanding_slots : Link → List ℕ
outstanding_slots l = slots_in l.outstanding l.flight.outstanding

-- the records of the outstanding segments, in their order; the table's first 128 records are looked at
abbrev pub records_of : Link → Parts → List Record
records_of l p = gathered (take send_slots p.table) (outstanding_slots l)

-- the state of a block with its parts
abbrev pub state_in : Link → Parts → State
state_in l p = state_of l (records_of l p) p.acks

-- the block is one that this link makes
abbrev pub is_made : Link → Parts → Bool
is_made l p = block_valid l (records_of l p) p.acks

-- the block stands for a state: its counts are within the arrays, and its state is this one. Nothing is said of what is not state:
-- entries past a count, and which value other than 0 a set flag has
pub record Stands (l : Link) (p : Parts) (s : State) : Type 0 where
  pub counts : counts_fit l ≡ true
  pub state : state_in l p ≡ s

-- a refused call: the very block, and every lent byte and record as it was
pub record Unchanged (l l' : Link) (p p' : Parts) : Type 0 where
  pub link : l' ≡ l
  pub parts : p' ≡ p
