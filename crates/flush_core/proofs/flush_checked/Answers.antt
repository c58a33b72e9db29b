-- What the flush leaves, or what waiting leaves.
use Rattle.control.specs.Views.{arrays_of}
use Rattle.flush_core.proofs.Paces.{flushed, waited}
use Rattle.flush_core.proofs.flush_checked.Goals as goal

pub flush_now-requires : goal.flush_now-requires
flush_now-requires c =
    let r = c.requires in
    record { counts = r.counts; range = r.range; sends = r.sends; slots = r.slots; pairs = r.pairs; bytes = r.bytes; sizes = r.sizes }

pub returns-then-step-clause-runs : goal.returns-then-step-clause-runs
returns-then-step-clause-runs c =
    let h = c.args.link.now in
    flushed h.settings h.flight h.arrival h.clock (arrays_of h) c.args.records.now c.args.acks.now c.args.t c.args.pool.now c.args.output.now
    c.args.lengths.now _ c.args.paced c.step_of-step.ensures c.if-step.true _ _ _ _ _ c.flush_now.ensures.writes

pub returns-else-step-clause-runs : goal.returns-else-step-clause-runs
returns-else-step-clause-runs c =
    let h = c.args.link.now in
    waited h.settings h.flight h.arrival h.clock (arrays_of h) c.args.records.now c.args.acks.now c.args.t c.args.pool.now c.args.output.now
    c.args.lengths.now _ c.args.paced c.step_of-step.ensures c.if-step.false c.requires.counts c.args.records.now
