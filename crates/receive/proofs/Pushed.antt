-- Noting and keeping together are the definition's push.
-- Assumes nothing.
use mathlib.Core.Path.{◌≡◌, ◌∙◌}
use mathlib.Core.Bool.{◌||◌}
use mathlib.Core.List.{List}
use Prim.Native.Nat.{ℕ, ◌+◌, ◌≤◌, ◌<◌, ◌^◌}
use lib.Dec.{eqb}
use lib.ListN.{length}
use Rattle.wire.specs.declared.Header.{Header}
use Rattle.session.specs.Input.{heard_by_receiving}
use Rattle.control.specs.Views.{is_set}
use Rattle.control.specs.declared.Arrival.{Arrival}
use Rattle.arriving.specs.declared.Incoming.{Incoming}
use Rattle.arriving.specs.Arrivals.{lists_of, WholeLists, Same}
use Rattle.keeping.specs.declared.Slots.{Slots}
use Rattle.keeping.specs.Keeping.{Kept, SameSlots}
use Rattle.receive.specs.Halves.{Half, half_of, receiver_of, segment_at, Sound, HalfIs}
use Rattle.receive.specs.Pushes.{Noted, Marked, Pushable, Heard}
use Rattle.receive.proofs.Steps.{pushed_is, heard_other}

abbrev with_noted : Arrival → ℕ → Arrival
with_noted a n = record { expected = a.expected; tell = a.tell; ready = a.ready; waiting = a.waiting; acks = n }

module _ (a : Arrival) (r w ns marks : List ℕ) (k m : ℕ) (s : List ℕ) (start : ℕ) (h : Header) (pool acks : List ℕ)
    (p : Pushable (half_of a r w ns) marks k m s start h pool acks) where
  -- what it leaves; the whole arrays say which they are
  pub heard : a.expected < 2 ^ 32 → h.sn < 2 ^ 32 → (n : ℕ) (acks' : List ℕ) → Noted a.expected h acks a.acks acks' n
      → (x : Arrival) (r' w' ns' : List ℕ) → WholeLists r' w' ns' → (pool' : List ℕ) (k' : ℕ)
      → Kept (with_noted a n) (lists_of a r w ns) m s start h pool marks x (lists_of x r' w' ns') pool' k'
      → Heard (half_of a r w ns) marks m s start h pool acks (half_of x r' w' ns') k' pool' acks'
  heard next_low sn_low n acks' noted x r' w' ns' whole pool' k' kept =
      record {
        marked = record { whole = p.marked.whole; free = kept.free };
        is = rw (kept.same_acks, kept.same_tell)
            (pushed_is m (lists_of a r w ns) a.acks (is_set a.tell) acks pool h p.sound next_low sn_low s start n acks' noted
            (lists_of x r' w' ns') kept.is pool' kept.stored);
      }

-- ---- in the loop

-- the lent parts stay the same over two steps
pub same_on : {x y z : Incoming} → Same x y → Same y z → Same x z
same_on a b = record { ready = b.ready ∙ a.ready; waiting = b.waiting ∙ a.waiting; numbers = b.numbers ∙ a.numbers }

pub slots_on : {x y z : Slots} → SameSlots x y → SameSlots y z → SameSlots x z
slots_on a b = record { marks = b.marks ∙ a.marks; mss = b.mss ∙ a.mss; pool = b.pool ∙ a.pool }

-- n is the mss that was asked for
pub pushable : (half : Half) (marks : List ℕ) (k m : ℕ) (s : List ℕ) (start : ℕ) (h : Header) (pool acks : List ℕ) (n : ℕ) → n ≡ m
    → Sound half m acks pool → Marked half marks k → start + h.len ≤ length s → h.len ≤ m
    → Pushable half marks k n s start h pool acks
pushable half marks k m s start h pool acks n e u d i f = rw e (record { sound = u; marked = d; inside = i; fits = f })

-- not a push: a tell may be wanted
pub heard_asked : (m : ℕ) (a : Arrival) (r w ns acks pool s : List ℕ) (start : ℕ) (h : Header) (tell : ℕ)
    → is_set tell ≡ (is_set a.tell || eqb h.cmd 83) → (h.cmd ≡ 81 → ⊥)
    → Sound (half_of a r w ns) m acks pool → a.expected < 2 ^ 32
    → HalfIs m (half_of a r w ns) (half_of (record
    { expected = a.expected; tell = tell; ready = a.ready; waiting = a.waiting; acks = a.acks }) r w ns) acks acks pool
    (heard_by_receiving m (receiver_of (half_of a r w ns) acks pool) (segment_at s start h))
heard_asked m a r w ns acks pool s start h tell e n u low = rw e (heard_other m (half_of a r w ns) acks pool s start h n u low)
