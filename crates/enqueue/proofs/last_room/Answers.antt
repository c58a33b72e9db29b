-- `last_room`: in stream mode what the last queued segment is shorter than mss.
use mathlib.Core.Path.{sym, ap}
use native.Mathlib.Omega.{arith}
use Rattle.lists.specs.declared.Held.{Held}
use Rattle.enqueue.proofs.Lasts.{room_off, room_none, room_some}
use Rattle.enqueue.proofs.last_room.Goals as goal
use Rattle.enqueue.proofs.last_room.Goals.{then-not-stream-via-then-not-stream, then-not-stream-via-else-not-stream+then-n-eq0}

pub returns-then-not-stream : goal.returns-then-not-stream
returns-then-not-stream c =
    elim c.then-not-stream.branch [
      | then-not-stream-via-then-not-stream w ↦ sym (room_off _ w.if-not-stream.true _ _)
      | then-not-stream-via-else-not-stream+then-n-eq0 w ↦ sym (room_none _ _ _ _ w.if-n-eq0.true)
    ]

pub returns : goal.returns
returns c =
    let a = c.args in
    omega (
      arith,
      room_some a.stream c.if-not-stream.false a.mss a.queued.now a.n (omega arith) (omega arith),
      c.saturating_sub.ensures,
      ap (λ (h : Held). h.len) c.from-last.ensures,
    )
