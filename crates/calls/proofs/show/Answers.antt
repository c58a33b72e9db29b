-- `show`: the part of the pool at the place that is located.
use Rattle.promises.specs.Parts.{parts_of}
use Rattle.promises.specs.Outcomes.{shows}
use Rattle.read_core.proofs.Places.{shows_part}
use Rattle.calls.proofs.show.Goals as goal

pub returns : goal.returns
returns c =
    let a = c.args in
    let p = parts_of a.send_pool.now a.receive_pool.now a.table.now a.acks.now in
    let r = c.part_at in
    shows_part (shows a.link.now p) a.receive_pool.now c.locate-place.result c.locate-place.ensures a.receive_pool.ref_ptr r.result.ref_ptr
    r.result.now r.ensures.0 r.ensures.1
