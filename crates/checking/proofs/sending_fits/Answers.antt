-- `sending_fits`: limits, then marks.
use Rattle.std.proofs.Common.{sym, ap, not, ◌∙◌, arith, rules}
use Rattle.checking.specs.Tests.{send_word_fits, sent_few}
use Rattle.checking.proofs.Turns.{limits_parts, limits_fail, limits_fit}
use Rattle.checking.proofs.Joins.{send_words_low, send_low, both_marked, both_once}
use Rattle.checking.proofs.sending_fits.Goals as goal

pub returns-then-not-fit : goal.returns-then-not-fit
returns-then-not-fit c =
    let a = c.args in
    let q = c.every.ensures (send_word_fits a.mss) (λ x b k. search rules) in
    let o = c.every-2.ensures (send_word_fits a.mss) (λ x b k. search rules) in
    let t = c.every-3.ensures sent_few (λ x b k. search rules) in
    limits_fail a.mss a.queued.now a.outstanding.now a.transmissions.now _ _ _ _ q o t c.requires (ap not c.if-not-fit.true)

pub mark-first-requires : goal.mark-first-requires
mark-first-requires c =
    let o = c.every-2.ensures (send_word_fits c.args.mss) (λ x b k. search rules) in
    let p = limits_parts c.every.result c.every-2.result c.every-3.result (ap not c.if-not-fit.false) in
    (omega arith, send_words_low c.args.mss c.args.outstanding.now (sym o ∙ p.1))

pub mark-second-requires : goal.mark-second-requires
mark-second-requires c =
    let q = c.every.ensures (send_word_fits c.args.mss) (λ x b k. search rules) in
    let p = limits_parts c.every.result c.every-2.result c.every-3.result (ap not c.if-not-fit.false) in
    (omega arith, send_words_low c.args.mss c.args.queued.now (sym q ∙ p.0))

pub returns : goal.returns
returns c =
    let a = c.args in
    let q = c.every.ensures (send_word_fits a.mss) (λ x b k. search rules) in
    let o = c.every-2.ensures (send_word_fits a.mss) (λ x b k. search rules) in
    let t = c.every-3.ensures sent_few (λ x b k. search rules) in
    let p = limits_parts c.every.result c.every-2.result c.every-3.result (ap not c.if-not-fit.false) in
    let low = send_low a.outstanding.now a.queued.now a.mss (sym o ∙ p.1) (sym q ∙ p.0) in
    limits_fit a.mss a.queued.now a.outstanding.now a.transmissions.now _ _ _ _ q o t _ (ap not c.if-not-fit.false)
    (both_once a.outstanding.now a.queued.now 128 low c.requires c.mark-first.ensures c.mark-second.ensures) c.mark-second.ensures.whole
    (both_marked a.outstanding.now a.queued.now 128 low c.requires c.mark-first.ensures c.mark-second.ensures)
