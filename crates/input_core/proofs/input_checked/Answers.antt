-- A datagram that passes its check is heard by both halves.
use Rattle.std.proofs.Common.{rules}
use Rattle.std.proofs.lemmas.Result.{err_from_is_err_and}
use Rattle.control.specs.Views.{Whole, arrays_of}
use Rattle.input_core.proofs.Checks.{established}
use Rattle.input_core.proofs.Takes.{not_taken, begun, takes_all}
use Rattle.input_core.proofs.input_checked.Goals as goal

pub returns-in_err-check-clause-takes : goal.returns-in_err-check-clause-takes
returns-in_err-check-clause-takes c =
    let a = c.args in
    let p = err_from_is_err_and c.from_residual.result c.from_residual.ensures.1 in (
      rw (p.1, p.2) (not_taken a.link.now a.records.now a.records.now a.acks.now a.pool.now a.datagram.now
          c.mss.result c.mss.ensures c.in_err-check.field-0.0 c.in_err-check.ensures),
      search rules,
      c.requires.whole,
    )

pub hear-sent-requires : goal.hear-sent-requires
hear-sent-requires c =
    let a = c.args in
    let whole : Whole (arrays_of a.link.now) = search rules in
    let ok = established a.link.now a.records.now a.marks.now a.acks.now a.pool.now c.requires whole in (
      ok.order,
      c.requires.whole,
      (_, begun a.link.now a.datagram.now c.mss.result c.mss.ensures _ c.in_ok-check.ensures),
    )

pub hear-requires : goal.hear-requires
hear-requires c =
    let a = c.args in
    let whole : Whole (arrays_of a.link.now) = search rules in
    let ok = established a.link.now a.records.now a.marks.now a.acks.now a.pool.now c.requires whole in (
      search rules,
      ok.marked,
      ok.sound,
      (_, begun a.link.now a.datagram.now c.mss.result c.mss.ensures _ c.in_ok-check.ensures),
    )

pub grown-link-requires : goal.grown-link-requires
grown-link-requires c =
    let a = c.args in
    let whole : Whole (arrays_of a.link.now) = search rules in
    (established a.link.now a.records.now a.marks.now a.acks.now a.pool.now c.requires whole).growable_lem

pub returns-clause-takes : goal.returns-clause-takes
returns-clause-takes c =
    let a = c.args in
    let whole : Whole (arrays_of a.link.now) = search rules in
    let ok = established a.link.now a.records.now a.marks.now a.acks.now a.pool.now c.requires whole in
    let start = begun a.link.now a.datagram.now c.mss.result c.mss.ensures _ c.in_ok-check.ensures in
    let half = c.hear.new.half in
    let heard = c.hear-sent.ensures.0 start.all start.parsed in (
      takes_all a.link.now a.records.now a.pool.now a.acks.now a.datagram.now c.hear-sent.result half.arrival
          c.hear-sent.new.outstanding c.hear-sent.new.transmissions half.ready.now half.waiting.now half.numbers.now
          c.hear-sent.new.records c.hear.new.pool c.hear.new.acks _ start
          c.hear-sent.ensures.0 c.hear.ensures.hears ok.counts_fit_lem c.hear.auto.acks c.grown-link.result c.grown-link.ensures,
      record {
        whole_queued = whole.whole_queued;
        whole_outstanding = heard.whole;
        whole_transmissions = heard.wholes;
        whole_ready = c.hear.ensures.whole.whole_ready;
        whole_waiting = c.hear.ensures.whole.whole_waiting;
        whole_numbers = c.hear.ensures.whole.whole_numbers;
      },
      c.hear-sent.ensures.1,
    )
