-- What keeping a push in lent arrays asks, and what it leaves; marks that are not updated tell the free slots. Definitions.
-- Assumes nothing.
use Rattle.std.specs.Prelude.{◌≡◌, Bool, true, false, cond, ◌&&◌, List, ℕ, ◌+◌, ◌*◌, ◌≤◌, ◌<◌, ◌^◌, ltb, length, take, Option, MatchOption}
use Rattle.std.proofs.lemmas.List.Edits.{sets}
use Rattle.protocol.specs.Protocol.{receive_window, receive_slots}
use Rattle.protocol.specs.Serial.{minus}
use Rattle.wire.specs.declared.Header.{Header}
use Rattle.lists.specs.declared.Receiving.{Receiving}
use Rattle.lists.specs.declared.Waiting.{Waiting}
use Rattle.lists.specs.Views.{held_of, waiting_of}
use Rattle.lists.specs.Orders.{waiting_offset, insert, ascending}
use Rattle.lists.specs.Receiving.{starts_at, advance, ReceivingIs}
use Rattle.pools.specs.Parts.{part}
use Rattle.words.specs.Words.{paired, waiting_at, Placed, is_at}
use Rattle.marks.specs.Marks.{next_free, Free}
use Rattle.control.specs.declared.Arrival.{Arrival}
use Rattle.keeping.specs.declared.Slots.{Slots}
use Rattle.keeping.specs.Pushing.{is_in_window, is_new_in, is_kept, used_by, slot_for, held_for, entry_of}

-- a push that stands in a datagram and fits a slot, a slot that is free, and a pool that has all slots
pub record Storable (marks : List ℕ) (k mss : ℕ) (s : List ℕ) (start : ℕ) (h : Header) (pool : List ℕ) : Type 0 where
  pub whole : length marks ≡ 256
  pub within : k ≤ 256
  pub free : next_free marks k < 256
  pub inside : start + h.len ≤ length s
  pub fits : h.len ≤ mss
  pub slots : receive_slots * mss ≤ length pool

-- the payload is stored in the first free slot
pub record Stored (marks : List ℕ) (k mss : ℕ) (s : List ℕ) (start : ℕ) (h : Header) (pool : List ℕ) (slot : ℕ) (pool' : List ℕ) : Type 0
  where
    pub is : slot ≡ next_free marks k
    pub low : slot < 256
    pub pool_after : pool' ≡ sets pool (slot * mss) (part s start h.len)

-- ---- where a push goes among those that wait

-- the numbers, with words beside them, are in order from base
abbrev pub Ascends : ℕ → ℕ → List ℕ → List ℕ → Type 0
Ascends base n words numbers = ascending (waiting_offset base) 0 receive_window (take n (paired waiting_at words numbers)) ≡ true

-- the number is kept, by the numbers with words beside them
abbrev pub kept_among : ℕ → ℕ → ℕ → List ℕ → List ℕ → Bool
kept_among next sn n words numbers = is_in_window next sn && is_new_in next (take n (paired waiting_at words numbers)) sn

-- the push goes in at index i
pub record GoesIn (next sn : ℕ) (numbers : List ℕ) (n i : ℕ) : Type 0 where
  pub place : Placed next (minus sn next) numbers n i
  pub lacks : is_at numbers n i next (minus sn next) ≡ false
  pub kept : (words : List ℕ) → length words ≡ 128 → Ascends next n words numbers → kept_among next sn n words numbers ≡ true

-- it is not kept
abbrev pub Passed : ℕ → ℕ → List ℕ → ℕ → Type 0
Passed next sn numbers n = (words : List ℕ) → length words ≡ 128 → Ascends next n words numbers → kept_among next sn n words numbers ≡ false

-- the push's index among those that wait, none where it is not kept
abbrev pub Found : ℕ → ℕ → List ℕ → ℕ → Option ℕ → Type 0
Found next sn numbers n r = MatchOption r (Passed next sn numbers n) (λ i. GoesIn next sn numbers n i)

-- ---- keeping

-- counts within the arrays, waiting numbers in order, none waiting that could be ready, and what storing asks
pub record Keepable (l : Receiving) (marks : List ℕ) (k mss : ℕ) (s : List ℕ) (start : ℕ) (h : Header) (pool : List ℕ) : Type 0 where
  pub ready : l.ready.count ≤ 128
  pub waiting : l.waiting.count ≤ 128
  pub ascends : ascending (waiting_offset l.next) 0 receive_window (waiting_of l.waiting) ≡ true
  pub settled : (starts_at l.next (waiting_of l.waiting) && ltb (length (held_of l.ready)) receive_window) ≡ false
  pub marked : length marks ≡ 256
  pub free : Free marks (used_by l.ready l.waiting) k
  pub inside : start + h.len ≤ length s
  pub fits : h.len ≤ mss
  pub slots : receive_slots * mss ≤ length pool
  pub mss_low : mss < 2 ^ 16

-- those that wait, with the push where it is kept
abbrev pub waits_then : Receiving → Header → List Waiting
waits_then l h = cond (is_kept l h) (insert (waiting_offset l.next) (entry_of h (held_for l.ready l.waiting h))
    (waiting_of l.waiting)) (waiting_of l.waiting)

-- the pool, with its payload in the lowest free slot where it is kept
abbrev pub pool_then : Receiving → ℕ → List ℕ → ℕ → Header → List ℕ → List ℕ
pool_then l mss s start h pool = cond (is_kept l h) (sets pool (slot_for l.ready l.waiting * mss) (part s start h.len)) pool

-- a push is kept where it is new and in the window, and segments become ready: the lists, the pool, and the slot from which on to look
-- for a free one; acks and tell are as they were
pub record Kept (a : Arrival) (l : Receiving) (mss : ℕ) (s : List ℕ) (start : ℕ) (h : Header) (pool marks : List ℕ)
    (r : Arrival) (moved : Receiving) (pool' : List ℕ) (k : ℕ) : Type 0 where
  pub is : ReceivingIs moved (advance l.next (held_of l.ready) (waits_then l h))
  pub stored : pool' ≡ pool_then l mss s start h pool
  pub free : Free marks (used_by moved.ready moved.waiting) k
  pub same_acks : r.acks ≡ a.acks
  pub same_tell : r.tell ≡ a.tell

-- the marks, the length of a slot and the lent pool are the same
pub record SameSlots (x x' : Slots) : Type 0 where
  pub marks : x'.marks ≡ x.marks
  pub mss : x'.mss ≡ x.mss
  pub pool : x'.pool.ghost_name ≡ x.pool.ghost_name
