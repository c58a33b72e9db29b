-- `fill`: the last queued segment takes the bytes behind its payload, where it has room.
use Prim.Native.Nat.{◌-◌}
use native.Mathlib.Omega.{arith}
use lib.ListN.{length, get_or}
use Rattle.enqueue.proofs.Lasts.{fills_none, fills_some, fill_end, last_low}
use Rattle.enqueue.proofs.Outgoing.fill.Goals as goal

pub returns-then-room-eq0-clause-fills : goal.returns-then-room-eq0-clause-fills
returns-then-room-eq0-clause-fills c = let p = c.requires in fills_none _ _ _ _ _ _ p.whole p.most c.if-room-eq0.true

-- the slot is one of the pool, and what is filled stays within it
pub copy_part-requires : goal.copy_part-requires
copy_part-requires c =
    let a = c.args in
    let p = c.requires in
    let last = p.within (omega (arith, c.if-room-eq0.false)) in
    let e = fill_end (get_or a.self.now.queued.now (a.self.now.count - 1) 0) a.self.now.mss a.room a.k (length a.self.now.pool.now) c.from-last.ensures
    (last_low a.self.now.queued.now a.self.now.count last.0 p.most p.whole p.low) last.1 (omega (arith, p.taken)) p.slots in
    (omega (arith, p.taken), omega (arith, e.0, e.1))

pub returns-clause-fills : goal.returns-clause-fills
returns-clause-fills c =
    let a = c.args in
    let p = c.requires in
    fills_some a.self.now.mss a.self.now.queued.now a.self.now.count a.room a.self.now.pool.now a.message.now p.whole p.most c.from-last.result c.word.result a.k _
    (p.within (omega (arith, c.if-room-eq0.false))).0 (omega (arith, c.if-room-eq0.false)) p.taken c.from-last.ensures c.word.ensures
    c.copy_part.ensures
