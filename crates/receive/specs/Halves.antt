-- The receiving half with its lent parts: what it stands for, what hearing a datagram asks of it, and what it leaves. Definitions.
-- Assumes nothing.
use Rattle.std.specs.Prelude.{◌≡◌, Bool, true, false, ◌&&◌, List, ℕ, ◌*◌, ◌≤◌, ◌<◌, ◌^◌, ltb, length, drop}
use Rattle.protocol.specs.Protocol.{receive_window, receive_slots, acks_most}
use Rattle.protocol.specs.Ranges.{mss}
use Rattle.protocol.specs.declared.Settings.{Settings}
use Rattle.wire.specs.declared.Header.{Header}
use Rattle.datagram.specs.Datagrams.{Segment, parse, segments}
use Rattle.lists.specs.Views.{held_of, waiting_of}
use Rattle.lists.specs.Orders.{waiting_offset, ascending}
use Rattle.lists.specs.Receiving.{starts_at}
use Rattle.lists.specs.declared.Receiving.{Receiving}
use Rattle.pools.specs.Parts.{part}
use Rattle.session.specs.Input.{Receiver, all_by_receiving}
use Rattle.control.specs.Views.{is_set, pairs}
use Rattle.control.specs.declared.Arrival.{Arrival}
use Rattle.arriving.specs.declared.Incoming.{Incoming}
use Rattle.arriving.specs.Arrivals.{lists_of}

-- the receiving half: its lists, the count of noted acks, which are pairs in the lent ack list, and whether a tell is wanted
pub record Half : Type 0 where
  pub lists : Receiving
  pub acks : ℕ
  pub tell : Bool

-- the half that a block's numbers and arrays are
abbrev pub half_of : Arrival → List ℕ → List ℕ → List ℕ → Half
half_of a ready waiting numbers = record { lists = lists_of a ready waiting numbers; acks = a.acks; tell = is_set a.tell }

abbrev pub half_in : Incoming → Half
half_in l = half_of l.arrival l.ready.now l.waiting.now l.numbers.now

-- the half with the acks of the lent list, and the pool
abbrev pub receiver_of : Half → List ℕ → List ℕ → Receiver
receiver_of h acks pool =
    record {
      half = record {
        next = h.lists.next;
        ready = held_of h.lists.ready;
        waiting = waiting_of h.lists.waiting;
        acks = pairs h.acks acks;
        tell = h.tell;
      };
      pool = pool;
    }

-- a datagram's segment: its header, and its payload from start on
abbrev pub segment_at : List ℕ → ℕ → Header → Segment
segment_at s start h = record { header = h; payload = part s start h.len }

-- counts within the arrays, waiting numbers ascending from rcv_nxt to rcv_nxt + 127, none waiting that could be ready, and
-- the lent parts long enough
pub record Sound (h : Half) (mss : ℕ) (acks pool : List ℕ) : Type 0 where
  pub ready : h.lists.ready.count ≤ 128
  pub waiting : h.lists.waiting.count ≤ 128
  pub ascends : ascending (waiting_offset h.lists.next) 0 receive_window (waiting_of h.lists.waiting) ≡ true
  pub settled : (starts_at h.lists.next (waiting_of h.lists.waiting) && ltb (length (held_of h.lists.ready)) receive_window) ≡ false
  pub noted : h.acks ≤ acks_most
  pub ack_list_lem : 2 * acks_most ≤ length acks
  pub slots : receive_slots * mss ≤ length pool
  pub mss_low : mss < 2 ^ 16

-- the half r, of h before, with the ack list and the pool is this receiver; no ack is lost, and the entries of the ack list
-- behind its pairs are as they were; rcv_nxt is a number of 32 bits
pub record HalfIs (mss : ℕ) (h r : Half) (was acks pool : List ℕ) (x : Receiver) : Type 0 where
  pub is : receiver_of r acks pool ≡ x
  pub more : h.acks ≤ r.acks
  pub beyond : drop (2 * r.acks) acks ≡ drop (2 * r.acks) was
  pub sound : Sound r mss acks pool
  pub low : r.lists.next < 2 ^ 32

-- r is what the segments of the datagram s make of h
abbrev pub HearsAll : Settings → List ℕ → Half → List ℕ → List ℕ → Half → List ℕ → List ℕ → Type 0
HearsAll c s h acks pool r acks' pool' = (gs : List Segment) → parse c.conv (mss c) s ≡ segments gs
    → HalfIs (mss c) h r acks acks' pool' (all_by_receiving (mss c) (receiver_of h acks pool) gs)
