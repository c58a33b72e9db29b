-- What enqueueing leaves, as what sending leaves of the block.
use Rattle.std.proofs.Common.{rules, refl, []}
use Rattle.protocol.specs.Ranges.{is_stream}
use Rattle.control.specs.Views.{Whole, arrays_of}
use Rattle.send_core.proofs.Sends.{established, enqueueable, sent}
use Rattle.send_core.proofs.send_checked.Goals as goal

pub enqueue-answer-requires : goal.enqueue-answer-requires
enqueue-answer-requires c =
    let h = c.args.link.now in
    let whole : Whole (arrays_of h) = search rules in
    enqueueable h.settings h.flight h.arrival h.clock (arrays_of h) c.requires.0 []
    (established h.settings h.flight h.arrival h.clock (arrays_of h) c.requires.0 [] c.requires.1 whole)
    {stream = is_stream h.settings} refl c.mss.ensures whole _ refl

pub returns-clause-sends : goal.returns-clause-sends
returns-clause-sends c records acks ready =
    let h = c.args.link.now in
    let whole : Whole (arrays_of h) = search rules in
    let half = c.enqueue-answer.new.self in
    sent h.settings h.flight h.arrival h.clock (arrays_of h) records acks
    (established h.settings h.flight h.arrival h.clock (arrays_of h) records acks ready whole) (is_stream h.settings) _ refl c.mss.ensures
    c.args.pool.now _ c.enqueue-answer.result half.count half.queued.now half.pool.now c.enqueue-answer.ensures.follows (search rules)
