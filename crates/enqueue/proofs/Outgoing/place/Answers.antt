-- `place`: what is still to be placed, placed from here, completes the whole.
use mathlib.Core.Path.{◌≡◌, refl, ◌∙◌}
use Prim.Native.Nat.{◌-◌, ◌<◌}
use native.Mathlib.Omega.{arith}
use Rattle.enqueue.proofs.Payloads.{stored_within}
use Rattle.enqueue.proofs.Places.{placing_start, next_low, placing_next, placing_done, placing_as}
use borrow.Author.Rules.{rules}
use Rattle.enqueue.proofs.Outgoing.place.Goals as goal

pub loop-i-init : goal.loop-i-init
loop-i-init c =
    let p = c.requires.1 in
    record {
      same = record { stream = refl; mss = refl; marks = refl; queued = refl; pool = refl; pool_length = refl };
      within = c.requires.0;
      placeable = p;
      placing = λ h. placing_as (omega arith) (omega arith) (placing_start h (omega (arith, p.room)) p.whole (omega (arith, p.room)));
    }

-- where a payload is left, a slot is free
pub free_from-slot-requires : goal.free_from-slot-requires
free_from-slot-requires c =
    let v = c.loop-i.invariant in
    (omega arith, omega (arith, next_low (v.placing v.placeable.marked) (omega arith)))

pub store-len-requires : goal.store-len-requires
store-len-requires c =
    let v = c.loop-i.invariant in
    let low = next_low (v.placing v.placeable.marked) (omega arith) in
    (v.within, omega (arith, low, c.free_from-slot.ensures), omega (arith, v.same.pool_length, v.placeable.slots))

-- the payload stored is short, and its slot a byte
pub overflow_cast-held : goal.overflow_cast-held
overflow_cast-held c =
    omega (arith, next_low (c.loop-i.invariant.placing c.loop-i.invariant.placeable.marked) (omega arith), c.free_from-slot.ensures)

pub word-requires : goal.word-requires
word-requires c =
    omega (arith, next_low (c.loop-i.invariant.placing c.loop-i.invariant.placeable.marked) (omega arith), c.free_from-slot.ensures)

pub loop-i-preserved : goal.loop-i-preserved
loop-i-preserved c =
    let v = c.loop-i.invariant in
    let s = c.store-len.ensures in
    let some : 0 < c.args.count - c.loop-i.i = omega arith in
    let left : c.args.count - 1 - c.loop-i.i ≡ c.args.count - c.loop-i.i - 1 = omega arith in
    record {
      same = record {
        stream = v.same.stream;
        mss = v.same.mss;
        marks = v.same.marks;
        queued = v.same.queued;
        pool = v.same.pool;
        pool_length = search rules;
      };
      within = stored_within s v.within;
      placeable = v.placeable;
      placing = λ h. placing_as (omega arith) (omega arith) (placing_next c.word.result (v.placing h) some c.free_from-slot.ensures
          (omega (arith, v.placeable.room)) s (c.word.ensures ∙ rw (c.fragment_of.ensures, left)));
    }

pub returns-clause-places : goal.returns-clause-places
returns-clause-places c h =
    let all : c.loop-i.i ≡ c.args.count = omega arith in
    placing_done (placing_as (omega arith) refl (c.loop-i.invariant.placing h)) _ _ refl (omega arith)
