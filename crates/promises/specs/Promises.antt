-- What each public call promises, for all inputs: its answer, and how block and lent parts look afterwards, refused or not.
-- l and p are the block and the parts before the call, l' and p' those after it.
-- Assumes nothing.
use Rattle.std.specs.Prelude.{◌≡◌, List, map, ℕ, ◌+◌, ◌*◌, length, take, drop}
use Rattle.std.proofs.lemmas.List.Edits.{sets}
use Rattle.protocol.specs.declared.Settings.{Settings}
use Rattle.timing.specs.declared.Record.{Record}
use Rattle.lists.specs.declared.Sent.{Sent}
use Rattle.session.specs.State.{State, Outcome, refused, done}
use Rattle.session.specs.Sending.{Sends}
use Rattle.session.specs.Input.{Took}
use Rattle.session.specs.Flushing.{Flushed, bytes_of_segments}
use Rattle.session.specs.Reading.{Reads, Part}
use Rattle.session.specs.Updating.{Updates, waits, flushes}
use Rattle.control.specs.declared.Link.{Link}
use Rattle.records.specs.Tables.{scattered}
use Rattle.packing.specs.Packers.{Output}
use Rattle.promises.specs.Parts.{Parts, FlushParts, Stands, Unchanged}
use Rattle.promises.specs.Outcomes as outcomes
use Rattle.promises.specs.Outcomes.{opens, sends, takes_in, reads, tells, shows, updates, checks}
use Rattle.promises.specs.Answers.{
  Accepts,
  Counts,
  count_outcome,
  update_answer,
  time_outcome,
  outcome_number,
  answer_number,
  count_number,
  update_number,
  time_number,
}
use Rattle.answers.specs.Answers.{Answer, Count, Update, Time}

-- the table with the records of a state's outstanding segments at their slots: no other record changes
abbrev pub table_of : List Record → State → List Record
table_of table s = scattered table (map (λ (x : Sent). x.held.slot) s.sending.outstanding)
    (map (λ (x : Sent). x.record) s.sending.outstanding)

-- opening writes no lent byte; refused, it leaves the old block
abbrev pub OpenLeaves : Outcome State → Link → Link → Parts → Parts → Type 0
OpenLeaves (refused r) l l' p p' = Unchanged l l' p p'
OpenLeaves (done s) l l' p p' = Stands l' p' s × (p' ≡ p)

-- opening with the settings c
pub record OpenPromise (c : Settings) (l : Link) (p : Parts) (a : Answer) (l' : Link) (p' : Parts) : Type 0 where
  pub answer : Accepts a (opens c p)
  pub number : answer_number a ≡ outcome_number (opens c p)
  pub leaves : OpenLeaves (opens c p) l l' p p'

-- a message sent: the send pool alone changes
pub record Queues (x : Sends) (l' : Link) (p p' : Parts) : Type 0 where
  pub stands : Stands l' p' x.state
  pub send_pool : p'.send_pool ≡ x.pool
  pub receive_pool : p'.receive_pool ≡ p.receive_pool
  pub table : p'.table ≡ p.table
  pub acks : p'.acks ≡ p.acks

abbrev pub SendLeaves : Outcome Sends → Link → Link → Parts → Parts → Type 0
SendLeaves (refused r) l l' p p' = Unchanged l l' p p'
SendLeaves (done x) l l' p p' = Queues x l' p p'

-- sending a message
pub record SendPromise (message : List ℕ) (l : Link) (p : Parts) (a : Answer) (l' : Link) (p' : Parts) : Type 0 where
  pub answer : Accepts a (sends l p message)
  pub number : answer_number a ≡ outcome_number (sends l p message)
  pub leaves : SendLeaves (sends l p message) l l' p p'

-- a datagram taken in: the receive pool as the definition has it, the records of the outstanding segments, and the ack list behind its
-- pairs as it was
pub record TookIn (x : Took) (l' : Link) (p p' : Parts) : Type 0 where
  pub stands : Stands l' p' x.state
  pub send_pool : p'.send_pool ≡ p.send_pool
  pub receive_pool : p'.receive_pool ≡ x.pool
  pub table : p'.table ≡ table_of p.table x.state
  pub ack_length : length p'.acks ≡ length p.acks
  pub ack_rest : drop (2 * l'.arrival.acks) p'.acks ≡ drop (2 * l'.arrival.acks) p.acks

abbrev pub InputLeaves : Outcome Took → Link → Link → Parts → Parts → Type 0
InputLeaves (refused r) l l' p p' = Unchanged l l' p p'
InputLeaves (done x) l l' p p' = TookIn x l' p p'

-- taking in a datagram
pub record InputPromise (datagram : List ℕ) (l : Link) (p : Parts) (a : Answer) (l' : Link) (p' : Parts) : Type 0 where
  pub answer : Accepts a (takes_in l p datagram)
  pub number : answer_number a ≡ outcome_number (takes_in l p datagram)
  pub leaves : InputLeaves (takes_in l p datagram) l l' p p'

-- these datagrams, so many, stand at the start of the output and their lengths at the start of the lengths; both are as they were beyond
abbrev pub WrittenTo : List (List ℕ) → ℕ → FlushParts → FlushParts → Type 0
WrittenTo ds count f f' = Output ds f.output f.lengths count f'.output f'.lengths

-- a flush: the records of the outstanding segments, and the datagrams in output and lengths; cleared ack entries keep their values
pub record Flushes (x : Flushed) (l' : Link) (p p' : Parts) (f f' : FlushParts) : Type 0 where
  pub stands : Stands l' p' x.state
  pub send_pool : p'.send_pool ≡ p.send_pool
  pub receive_pool : p'.receive_pool ≡ p.receive_pool
  pub table : p'.table ≡ table_of p.table x.state
  pub acks : p'.acks ≡ p.acks
  pub output : WrittenTo (map bytes_of_segments x.datagrams) (length x.datagrams) f f'

-- a refused flush writes nothing
pub record NoFlush (l l' : Link) (p p' : Parts) (f f' : FlushParts) : Type 0 where
  pub unchanged : Unchanged l l' p p'
  pub flush_parts : f' ≡ f

abbrev pub FlushLeaves : Outcome Flushed → Link → Link → Parts → Parts → FlushParts → FlushParts → Type 0
FlushLeaves (refused r) l l' p p' f f' = NoFlush l l' p p' f f'
FlushLeaves (done x) l l' p p' f f' = Flushes x l' p p' f f'

-- a flush at t answers the number of its datagrams
pub record FlushPromise (t : ℕ) (l : Link) (p : Parts) (f : FlushParts) (a : Count) (l' : Link) (p' : Parts) (f' : FlushParts) : Type 0
  where
    pub answer : Counts (λ (x : Flushed). length x.datagrams) a (outcomes.flushes l p f t)
    pub number : count_number a ≡ outcome_number (outcomes.flushes l p f t)
    pub leaves : FlushLeaves (outcomes.flushes l p f t) l l' p p' f f'

-- an update that waits: the block has the new current time and schedule; every lent byte and record is as it was
pub record Waits (s : State) (l' : Link) (p p' : Parts) (f f' : FlushParts) : Type 0 where
  pub stands : Stands l' p' s
  pub parts : p' ≡ p
  pub flush_parts : f' ≡ f

abbrev pub UpdateLeaves : Outcome Updates → Link → Link → Parts → Parts → FlushParts → FlushParts → Type 0
UpdateLeaves (refused r) l l' p p' f f' = NoFlush l l' p p' f f'
UpdateLeaves (done (waits s)) l l' p p' f f' = Waits s l' p p' f f'
UpdateLeaves (done (flushes x)) l l' p p' f f' = Flushes x l' p p' f f'

-- an update at t answers that it waited, or the number of its flush's datagrams
pub record UpdatePromise (t : ℕ) (l : Link) (p : Parts) (f : FlushParts) (a : Update) (l' : Link) (p' : Parts) (f' : FlushParts) : Type 0
  where
    pub answer : a ≡ update_answer (updates l p f t)
    pub number : update_number a ≡ outcome_number (updates l p f t)
    pub leaves : UpdateLeaves (updates l p f t) l l' p p' f f'

-- a check at t changes nothing
pub record CheckPromise (t : ℕ) (l : Link) (p : Parts) (a : Time) : Type 0 where
  pub answer : time_outcome a ≡ checks l p t
  pub number : time_number a ≡ outcome_number (checks l p t)

-- a message read: it stands at the start of the buffer, which is as it was beyond it; no lent part changes
pub record ReadIt (x : Reads) (l' : Link) (p p' : Parts) (buffer buffer' : List ℕ) : Type 0 where
  pub stands : Stands l' p' x.state
  pub parts : p' ≡ p
  pub bytes : buffer' ≡ sets buffer 0 x.bytes

pub record NoRead (l l' : Link) (p p' : Parts) (buffer buffer' : List ℕ) : Type 0 where
  pub unchanged : Unchanged l l' p p'
  pub bytes : buffer' ≡ buffer

abbrev pub ReadLeaves : Outcome Reads → Link → Link → Parts → Parts → List ℕ → List ℕ → Type 0
ReadLeaves (refused r) l l' p p' buffer buffer' = NoRead l l' p p' buffer buffer'
ReadLeaves (done x) l l' p p' buffer buffer' = ReadIt x l' p p' buffer buffer'

-- reading a message answers its length
pub record ReadPromise (l : Link) (p : Parts) (buffer : List ℕ) (a : Count) (l' : Link) (p' : Parts) (buffer' : List ℕ) : Type 0 where
  pub answer : Counts (λ (x : Reads). length x.bytes) a (reads l p (length buffer))
  pub number : count_number a ≡ outcome_number (reads l p (length buffer))
  pub leaves : ReadLeaves (reads l p (length buffer)) l l' p p' buffer buffer'

-- telling the size changes nothing
pub record SizePromise (l : Link) (p : Parts) (a : Count) : Type 0 where
  pub answer : count_outcome a ≡ tells l p
  pub number : count_number a ≡ outcome_number (tells l p)

-- the bytes of a part of the receive pool; refused, an empty part
abbrev pub shown : Outcome Part → List ℕ → List ℕ
shown (refused r) pool = take 0 pool
shown (done x) pool = take x.count (drop x.start pool)

-- where it begins, and how long it is; 0 and 0 where showing is refused
unfoldable pub place_of : Outcome Part → Part
place_of (refused r) = record { start = 0; count = 0 }
place_of (done x) = x

-- an address is a block of memory and an offset in it: a part of the pool, from `start` on
pub record LiesAt (start : ℕ) (pool part : ℕ × ℕ) : Type 0 where
  pub block : part.0 ≡ pool.0
  pub offset : part.1 ≡ pool.1 + start

-- the very part of the pool at this address, and its bytes
pub record ShowsPart (o : Outcome Part) (address : ℕ × ℕ) (pool : List ℕ) (address' : ℕ × ℕ) (part : List ℕ) : Type 0 where
  pub place : LiesAt (place_of o).start address address'
  pub bytes : part ≡ shown o pool

-- showing changes nothing, and gives the front segment's payload as the very part of the receive pool that holds it: the pool's address,
-- and that of the part with its bytes; an empty one at the pool's start where it is refused
abbrev pub ShowPromise : Link → Parts → ℕ × ℕ → ℕ × ℕ → List ℕ → Type 0
ShowPromise l p address address' part = ShowsPart (shows l p) address p.receive_pool address' part
