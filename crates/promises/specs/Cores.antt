-- What the core of a call leaves: it has the block's numbers and arrays, and 32 records, the first of which are the outstanding segments'.
-- l is the block before, l' the one after. Definitions.
-- Assumes nothing.
use Rattle.std.specs.Prelude.{◌≡◌, ◌⊎◌, true, List, map, ℕ, ◌*◌, length, drop, Err, None, Ok, Some}
use Rattle.std.proofs.lemmas.List.Edits.{sets}
use Rattle.protocol.specs.declared.Refusal.{Refusal}
use Rattle.timing.specs.declared.Record.{Record}
use Rattle.lists.specs.declared.Sent.{Sent}
use Rattle.session.specs.State.{State, Outcome, refused, done}
use Rattle.session.specs.Sending.{Sends}
use Rattle.session.specs.Input.{Took}
use Rattle.session.specs.Flushing.{Flushed, bytes_of_segments}
use Rattle.session.specs.Reading.{Reads}
use Rattle.session.specs.Updating.{Updates, waits, flushes}
use Rattle.packing.specs.Packers.{Output}
use Rattle.control.specs.Views.{state_of, counts_fit}
use Rattle.control.specs.declared.Link.{Link}
use Rattle.promises.specs.Parts.{outstanding_slots}
use Rattle.answers.specs.Answers.{Answer, Count, Update}

-- ---- opening: the very block where it is refused; else one of this state, whatever the lent parts hold

pub record Opened (s : State) (a : Answer) (l' : Link) : Type 0 where
  pub answer : a ≡ Ok tt
  pub counts : counts_fit l' ≡ true
  pub state : (records : List Record) (acks : List ℕ) → state_of l' records acks ≡ s

abbrev pub OpenCore : Outcome State → Link → Answer → Link → Type 0
OpenCore (refused r) l a l' = (a ≡ Err r) × (l' ≡ l)
OpenCore (done s) l a l' = Opened s a l'

-- ---- sending: the send pool and the queued segments alone change

pub record Queued (x : Sends) (l : Link) (records : List Record) (acks : List ℕ) (a : Answer) (l' : Link) (pool' : List ℕ) : Type 0 where
  pub answer : a ≡ Ok tt
  pub counts : counts_fit l' ≡ true
  pub state : state_of l' records acks ≡ x.state
  pub slots : outstanding_slots l' ≡ outstanding_slots l
  pub pool : pool' ≡ x.pool

abbrev pub SendCore : Outcome Sends → Link → List Record → List ℕ → List ℕ → Answer → Link → List ℕ → Type 0
SendCore (refused r) l records acks pool a l' pool' = (a ≡ Err r) × (l' ≡ l) × (pool' ≡ pool)
SendCore (done x) l records acks pool a l' pool' = Queued x l records acks a l' pool'

-- ---- what is to be put back into the table: the records of so many outstanding segments, by their words

pub record PutBack : Type 0 where
  pub words : List ℕ
  pub changed : ℕ
  pub records : List Record

-- nothing
abbrev pub PutsNothing : PutBack → Type 0
PutsNothing b = b.changed ≡ 0

-- the records of all segments that are outstanding in l'
pub record PutsAll (l' : Link) (b : PutBack) : Type 0 where
  pub words : b.words ≡ l'.outstanding
  pub changed : b.changed ≡ l'.flight.outstanding

-- ---- taking in

-- a datagram accepted: the state and the pool of the definition; the ack list is as long as it was, and as it was behind its pairs
pub record TookIn (x : Took) (acks : List ℕ) (a : Answer) (l' : Link) (b : PutBack) (pool' acks' : List ℕ) : Type 0 where
  pub answer : a ≡ Ok tt
  pub counts : counts_fit l' ≡ true
  pub state : state_of l' b.records acks' ≡ x.state
  pub puts : PutsAll l' b
  pub pool : pool' ≡ x.pool
  pub ack_length_lem : length acks' ≡ length acks
  pub ack_rest_lem : drop (2 * l'.arrival.acks) acks' ≡ drop (2 * l'.arrival.acks) acks

-- refused: the number alone, the very block, pool and ack list
pub record TookNothing (r : Refusal) (l : Link) (pool acks : List ℕ) (a : Answer) (l' : Link) (b : PutBack) (pool' acks' : List ℕ) : Type 0
  where
    pub answer : a ≡ Err r
    pub link : l' ≡ l
    pub puts : PutsNothing b
    pub pool_same : pool' ≡ pool
    pub acks_same : acks' ≡ acks

abbrev pub InputCore : Outcome Took → Link → List ℕ → List ℕ → Answer → Link → PutBack → List ℕ → List ℕ → Type 0
InputCore (refused r) l pool acks a l' b pool' acks' = TookNothing r l pool acks a l' b pool' acks'
InputCore (done x) l pool acks a l' b pool' acks' = TookIn x acks a l' b pool' acks'

-- ---- a flush

-- the records of all outstanding segments, or, where these and their records are as they were before it, nothing
abbrev pub PutsSent : List Sent → List Sent → Link → PutBack → Type 0
PutsSent before after l' b = PutsAll l' b ⊎ (PutsNothing b × (after ≡ before))

-- done: it answers the number of its datagrams, which the output and the lengths hold; these segments were outstanding before it
pub record Flushes (before : List Sent) (x : Flushed) (acks out lengths : List ℕ) (a : Count) (l' : Link) (b : PutBack)
    (out' lengths' : List ℕ) : Type 0 where
  pub answer : a ≡ Ok (length x.datagrams)
  pub counts : counts_fit l' ≡ true
  pub state : state_of l' b.records acks ≡ x.state
  pub puts : PutsSent before x.state.sending.outstanding l' b
  pub output : Output (map bytes_of_segments x.datagrams) out lengths (length x.datagrams) out' lengths'

-- refused: nothing is written
pub record NoFlush (r : Refusal) (l : Link) (out lengths : List ℕ) (a : Count) (l' : Link) (b : PutBack) (out' lengths' : List ℕ) : Type 0
  where
    pub answer : a ≡ Err r
    pub link : l' ≡ l
    pub puts : PutsNothing b
    pub output : out' ≡ out
    pub sizes : lengths' ≡ lengths

abbrev pub FlushCore : Outcome Flushed → Link → List Record → List ℕ → List ℕ → List ℕ → Count → Link → PutBack → List ℕ → List ℕ
    → Type 0
FlushCore (refused r) l records acks out lengths a l' b out' lengths' = NoFlush r l out lengths a l' b out' lengths'
FlushCore (done x) l records acks out lengths a l' b out' lengths' =
    Flushes (state_of l records acks).sending.outstanding x acks out lengths a l' b out' lengths'

-- ---- an update

-- it waits: the records of the outstanding segments stay where they are, and nothing is written
pub record Waits (s : State) (l : Link) (records : List Record) (acks out lengths : List ℕ)
    (a : Update) (l' : Link) (b : PutBack) (out' lengths' : List ℕ) : Type 0 where
  pub answer : a ≡ Ok None
  pub counts : counts_fit l' ≡ true
  pub state : state_of l' records acks ≡ s
  pub slots : outstanding_slots l' ≡ outstanding_slots l
  pub puts : PutsNothing b
  pub output : out' ≡ out
  pub sizes : lengths' ≡ lengths

-- refused as a flush; done, it waits or leaves what its flush does
abbrev pub UpdateCore : Outcome Updates → Link → List Record → List ℕ → List ℕ → List ℕ → Update → Link → PutBack → List ℕ
    → List ℕ → Type 0
UpdateCore (refused r) l records acks out lengths a l' b out' lengths' =
    (a ≡ Err r) × NoFlush r l out lengths (Err r) l' b out' lengths'
UpdateCore (done (waits s)) l records acks out lengths a l' b out' lengths' = Waits s l records acks out lengths a l' b out' lengths'
UpdateCore (done (flushes x)) l records acks out lengths a l' b out' lengths' =
    (a ≡ Ok (Some (length x.datagrams)))
    × Flushes (state_of l records acks).sending.outstanding x acks out lengths (Ok (length x.datagrams)) l' b out' lengths'

-- ---- reading: the receiving half and the buffer alone change

pub record ReadIt (x : Reads) (l : Link) (records : List Record) (acks buffer : List ℕ) (a : Count) (l' : Link) (buffer' : List ℕ) : Type 0
  where
    pub answer : a ≡ Ok (length x.bytes)
    pub counts : counts_fit l' ≡ true
    pub state : state_of l' records acks ≡ x.state
    pub slots : outstanding_slots l' ≡ outstanding_slots l
    pub bytes : buffer' ≡ sets buffer 0 x.bytes

abbrev pub ReadCore : Outcome Reads → Link → List Record → List ℕ → List ℕ → Count → Link → List ℕ → Type 0
ReadCore (refused r) l records acks buffer a l' buffer' = (a ≡ Err r) × (l' ≡ l) × (buffer' ≡ buffer)
ReadCore (done x) l records acks buffer a l' buffer' = ReadIt x l records acks buffer a l' buffer'
