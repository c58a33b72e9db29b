-- `enqueue` tests 10, then 11, of what is left to cut, and otherwise fills and places the message.
use Prim.Native.Nat.{◌-◌}
use native.Mathlib.Omega.{arith}
use lib.ListN.{length}
use Rattle.enqueue.proofs.Counts.{count_most}
use Rattle.enqueue.proofs.Lasts.{has_room}
use Rattle.enqueue.proofs.Follow.{follows_long, follows_full, follows_placed}
use Rattle.enqueue.proofs.Outgoing.enqueue.Goals as goal

pub overflow_add-m-2 : goal.overflow_add-m-2
overflow_add-m-2 c =
    let x = c.args.self.now in
    let rest = length c.args.message.now - c.min-first.result in
    omega (arith, c.segment_count-count.ensures, count_most x.stream x.mss rest c.requires.some, c.requires.held_most_lem, c.well_formed)

pub returns-then-self-rest-clause-follows : goal.returns-then-self-rest-clause-follows
returns-then-self-rest-clause-follows c t p = follows_long p _ _ c.last_room-room.ensures c.min-first.ensures c.if-self-rest.true

pub returns-then-m-n-gt-SEND_SLOTS-clause-follows : goal.returns-then-m-n-gt-SEND_SLOTS-clause-follows
returns-then-m-n-gt-SEND_SLOTS-clause-follows c t p =
    follows_full p _ _ c.last_room-room.ensures c.min-first.ensures c.segment_count-count.ensures c.if-self-rest.false
    c.requires.held_most_lem c.if-m-n-gt-SEND_SLOTS.true

pub fill-requires : goal.fill-requires
fill-requires c =
    let x = c.args.self.now in
    let has = c.last_room-room.ensures in
    record {
      whole = c.requires.whole;
      most = c.requires.queued_most;
      taken = c.min-first.ensures;
      within = λ h. rw has (has_room x.stream x.mss x.queued.now x.count
          (omega (arith, c.requires.whole, c.requires.queued_most)) (rw has at h));
      low = c.requires.low;
      word = c.requires.word;
      slots = c.requires.slots;
    }

pub place-requires : goal.place-requires
place-requires c =
    let p = c.requires in
    let e = c.fill.ensures.same in
    let f = c.fill.ensures.fills c.args.self.now.stream c.last_room-room.ensures in (
      omega (arith, c.min-first.ensures),
      rw (e.0.mss, e.0.marks, e.1) (record {
        whole = f.whole;
        room = omega arith;
        marks_whole = p.marks_whole;
        marked = record { now = p.marked.now; free = p.marked.free; most = omega (arith, p.marked.most) };
        word = p.word;
        slots = omega (arith, e.0.pool_length, p.slots);
      }),
    )

pub returns-clause-follows : goal.returns-clause-follows
returns-clause-follows c t p =
    let e = c.fill.ensures.same in
    rw (c.place.ensures.same.1, e.1) (follows_placed p _ _ c.last_room-room.ensures c.min-first.ensures c.segment_count-count.ensures
    c.if-self-rest.false c.if-m-n-gt-SEND_SLOTS.false _ _ _ _ _ c.fill.ensures.fills
    (rw (e.0.stream, e.0.mss, e.0.marks, e.1) at c.place.ensures.places))
