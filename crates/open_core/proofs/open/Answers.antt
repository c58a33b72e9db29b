-- The checks of 12 and 7, then a link just opened.
use Rattle.std.proofs.Common.{ap, not}
use Rattle.control.specs.Views.{arrays}
use Rattle.open_core.proofs.Opens.{made_of, is_fresh_lem, accepts, short, out_of_range}
use Rattle.open_core.proofs.open.Goals as goal

pub returns-then-not-in_range-clause-opens : goal.returns-then-not-in_range-clause-opens
returns-then-not-in_range-clause-opens c = out_of_range _ _ _ _ c.in_range.ensures (ap not c.if-not-in_range.true)

pub returns-then-not-enough-clause-opens : goal.returns-then-not-enough-clause-opens
returns-then-not-enough-clause-opens c =
    short c.args.new _ _ _ c.in_range.ensures _ c.enough.ensures (ap not c.if-not-in_range.false) (ap not c.if-not-enough.true)

pub returns-clause-opens : goal.returns-clause-opens
returns-clause-opens c =
    let f = c.default-2.ensures in
    let r = c.default.ensures in
    accepts c.args.new _ c.args.link.now _ c.in_range.ensures _ c.enough.ensures (ap not c.if-not-in_range.false) (ap not c.if-not-enough.false)
    _ (is_fresh_lem c.args.new (arrays _ _ _ _ _ _)
    (made_of c.args.new _ _ _ _ _ _ _ _ c.default-link.result c.default-link-2.result f.0 f.1.0 r.0 r.1.0 f.1.1.1.1.1.0 f.1.1.1.1.1.1
    c.new.ensures c.default-link.ensures c.default-link-2.ensures))
