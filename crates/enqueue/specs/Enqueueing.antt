-- What the functions leave, beside what the link's definitions give. Definitions.
-- Assumes nothing.
use Rattle.std.specs.Prelude.{◌≡◌, Bool, List, ◌++◌, ℕ, ◌+◌, ◌-◌, ◌*◌, ◌^◌, ◌≤◌, ◌<◌, min, length, take, drop, get_or, Err, Ok}
use Rattle.std.proofs.lemmas.List.Edits.{sets}
use Rattle.protocol.specs.Protocol.{send_slots}
use Rattle.protocol.specs.Ranges.{mss, is_stream}
use Rattle.protocol.specs.declared.Refusal.{Refusal}
use Rattle.lists.specs.declared.Held.{Held}
use Rattle.session.specs.Decides.{All}
use Rattle.session.specs.State.{State, Outcome, refused, done, send_held, slots}
use Rattle.session.specs.Sending.{Placed, Filled, Sends}
use Rattle.words.specs.Words.{unpack, held_in}
use Rattle.marks.specs.Marks.{Free}
use Rattle.answers.specs.Answers.{Answer}
use Rattle.enqueue.specs.declared.Outgoing.{Outgoing}

-- the marks are those of slots held, k at most
pub record Marked (marks : List ℕ) (k : ℕ) : Type 0 where
  pub now : List ℕ
  pub free : Free marks now 0
  pub most : length now ≤ k

-- the payload of a message that begins at `at` is stored in a slot, and this is its length
pub record Stored (m : ℕ) (message : List ℕ) (at slot : ℕ) (before : List ℕ) (len : ℕ) (after : List ℕ) : Type 0 where
  pub size : len ≡ length (take m (drop at message))
  pub pool : after ≡ sets before (slot * m) (take m (drop at message))

-- the last of n queued segments has that much room, and takes the first k bytes of a message
pub record Fillable (m : ℕ) (queued : List ℕ) (n room : ℕ) (pool message : List ℕ) (k : ℕ) : Type 0 where
  pub whole : length queued ≡ 128
  pub most : n ≤ 128
  pub taken : k ≡ min (length message) room
  pub within : 0 < room → (0 < n) × ((unpack (get_or queued (n - 1) 0)).len + room ≤ m)
  pub low : All (λ (h : Held). h.slot < send_slots) (held_in queued n)
  pub word : m < 2 ^ 16
  pub slots : send_slots * m ≤ length pool

-- list and pool are as filling leaves them
pub record Fills (f : Filled) (n : ℕ) (after pool' : List ℕ) : Type 0 where
  pub whole : length after ≡ 128
  pub list : held_in after n ≡ f.queued
  pub pool_is : pool' ≡ f.pool

-- there is room for so many segments behind the n that are queued, in the array and in the pool
pub record Placeable (m : ℕ) (queued : List ℕ) (n : ℕ) (marks pool : List ℕ) (count : ℕ) : Type 0 where
  pub whole : length queued ≡ 128
  pub room : n + count ≤ 128
  pub marks_whole : length marks ≡ 128
  pub marked : Marked marks (send_slots - count)
  pub word : m < 2 ^ 16
  pub slots : send_slots * m ≤ length pool

-- the segments placed stand behind the n that were queued, and the pool is as placing leaves it
pub record Places (placed : Placed) (before : List ℕ) (n : ℕ) (after : List ℕ) (count : ℕ) (pool' : List ℕ) : Type 0 where
  pub whole : length after ≡ 128
  pub fits : count ≤ 128
  pub list : held_in after count ≡ held_in before n ++ placed.segments
  pub pool : pool' ≡ placed.pool

-- n segments are queued and k outstanding, whose slots are marked; the pool has all slots
pub record Enqueueable (m : ℕ) (queued : List ℕ) (n k : ℕ) (marks pool : List ℕ) : Type 0 where
  pub whole : length queued ≡ 128
  pub queued_most : n ≤ 128
  pub outstanding_most : k ≤ 32
  -- the slots held are slots of the pool, and none is held twice
  pub held_most_lem : k + n ≤ 128
  pub low : All (λ (h : Held). h.slot < send_slots) (held_in queued n)
  pub marks_whole : length marks ≡ 128
  pub marked : Marked marks (k + n)
  pub some : 0 < m
  pub word : m < 2 ^ 16
  pub slots : send_slots * m ≤ length pool

-- the mode, the largest payload, the queued segments and the slots held are those of the state
pub record PartsOf (s : State) (stream : Bool) (m : ℕ) (queued : List ℕ) (n k : ℕ) (marks : List ℕ) : Type 0 where
  pub mode : is_stream s.settings ≡ stream
  pub size : mss s.settings ≡ m
  pub queue : s.sending.queued ≡ held_in queued n
  pub held : length (slots (send_held s.sending)) ≡ k + n
  pub free : Free marks (slots (send_held s.sending)) 0

-- a refusal: its number alone, the list and the pool as they were
pub record Unchanged (r : Refusal) (before : List ℕ) (n : ℕ) (pool : List ℕ) (answer : Answer) (queued : ℕ) (after pool' : List ℕ) : Type 0
  where
    pub answered : answer ≡ Err r
    pub count : queued ≡ n
    pub list : after ≡ before
    pub pool_same : pool' ≡ pool

-- an accepted message: the list and the pool after it
pub record Queued (x : Sends) (answer : Answer) (queued : ℕ) (after pool' : List ℕ) : Type 0 where
  pub answered : answer ≡ Ok tt
  pub whole : length after ≡ 128
  pub fits : queued ≤ 128
  pub list : held_in after queued ≡ x.state.sending.queued
  pub pool : pool' ≡ x.pool

-- what sending gives
abbrev pub Follows : Outcome Sends → List ℕ → ℕ → List ℕ → Answer → ℕ → List ℕ → List ℕ → Type 0
Follows (refused r) before n pool answer queued after pool' = Unchanged r before n pool answer queued after pool'
Follows (done x) before n pool answer queued after pool' = Queued x answer queued after pool'

-- the mode, the largest payload, the marks and the lent parts are the same
pub record Same (x x' : Outgoing) : Type 0 where
  pub stream : x'.stream ≡ x.stream
  pub mss : x'.mss ≡ x.mss
  pub marks : x'.marks ≡ x.marks
  pub queued : x'.queued.ghost_name ≡ x.queued.ghost_name
  pub pool : x'.pool.ghost_name ≡ x.pool.ghost_name
  pub pool_length : length x'.pool.now ≡ length x.pool.now
