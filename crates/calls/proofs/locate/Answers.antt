-- The checks of 7 and 13, then where the front segment's payload lies.
use Rattle.promises.specs.Parts.{parts_of}
use Rattle.block_check.specs.Lent.{lent_records}
use Rattle.calls.proofs.Checks.{long_of, readable, unshown, placed}
use Rattle.calls.proofs.locate.Goals as goal

pub locate_checked-requires : goal.locate_checked-requires
locate_checked-requires c =
    let h = c.args.link.now in
    let p = parts_of c.args.send_pool.now c.args.receive_pool.now c.args.table.now c.args.acks.now in (
      p.receive_pool,
      readable h p c.enough-long.result (long_of h p _ _ c.enough-long.ensures c.lent_lengths-lent.ensures)
          c.check.new.send_marks c.check.new.receive_marks c.check.result c.check.ensures c.in-Ok.is,
    )

pub returns-in-Ok : goal.returns-in-Ok
returns-in-Ok c =
    let h = c.args.link.now in
    let p = parts_of c.args.send_pool.now c.args.receive_pool.now c.args.table.now c.args.acks.now in
    let long = long_of h p _ _ c.enough-long.ensures c.lent_lengths-lent.ensures in
    let marks = c.check.new in
    placed h p c.enough-long.result long marks.send_marks marks.receive_marks c.check.result c.check.ensures c.in-Ok.is c.locate_checked.result
    (c.locate_checked.ensures p.receive_pool
    (readable h p c.enough-long.result long marks.send_marks marks.receive_marks c.check.result c.check.ensures c.in-Ok.is)
    (lent_records h p.table) p.acks)

pub returns-in-Err : goal.returns-in-Err
returns-in-Err c =
    let h = c.args.link.now in
    let p = parts_of c.args.send_pool.now c.args.receive_pool.now c.args.table.now c.args.acks.now in
    unshown h p c.enough-long.result (long_of h p _ _ c.enough-long.ensures c.lent_lengths-lent.ensures)
    c.check.new.send_marks c.check.new.receive_marks c.check.result c.check.ensures _ c.in-Err.is
