-- `sound`: the numbers, then each half.
use mathlib.Core.Path.{sym, ◌∙◌}
use borrow.Author.Rules.{rules}
use Rattle.control.specs.Views.{Whole, arrays_of}
use Rattle.std.proofs.Common.{ap, not}
use Rattle.checking.proofs.Turns.{none_whole}
use Rattle.checking.proofs.Whole.{unfit, unsent, sent_fits_lem}
use Rattle.checking.proofs.sound.Goals as goal

pub returns-then-not-numbers_fit : goal.returns-then-not-numbers_fit
returns-then-not-numbers_fit c = λ flown rs f.
    let h = c.args.link.now in
    let whole : Whole (arrays_of h) = search rules in
    unfit h.settings h.flight h.arrival h.clock (arrays_of h) rs whole f.whole
    (search rules) _ _
    (sym c.if-not-numbers_fit.true ∙ c.numbers_fit.ensures) (none_whole 128 _ c.requires.0) (none_whole 256 _ c.requires.1)

pub returns-then-not-sends : goal.returns-then-not-sends
returns-then-not-sends c = λ flown rs f.
    let h = c.args.link.now in
    let whole : Whole (arrays_of h) = search rules in
    unsent h.settings h.flight h.arrival h.clock (arrays_of h) rs whole f.whole
    (search rules) _ _ _
    _ (sym c.if-not-numbers_fit.false ∙ c.numbers_fit.ensures) c.mss-most.ensures (ap not c.if-not-sends.true)
    c.sending_fits-sends.ensures
    (none_whole 256 _ c.requires.1)

pub returns : goal.returns
returns c = λ flown rs f.
    let h = c.args.link.now in
    let whole : Whole (arrays_of h) = search rules in
    sent_fits_lem h.settings h.flight h.arrival h.clock (arrays_of h) rs whole f.whole
    (search rules) _ _ _
    _ _ _ (sym c.if-not-numbers_fit.false ∙ c.numbers_fit.ensures) c.mss-most.ensures
    (ap not c.if-not-sends.false) c.sending_fits-sends.ensures
    f.fits c.receiving_fits.ensures
