-- `mark_held`: a full pool in order, or the marks of each list.
use mathlib.Core.Path.{◌≡◌}
use native.Mathlib.Omega.{arith}
use borrow.Author.Tests.{eqb-true}
use lib.ListN.{length}
use Rattle.session.specs.Decides.{and_parts}
use Rattle.checking.proofs.Lines.{full_held}
use Rattle.checking.proofs.Joins.{words_low, both_low, both_marked, both_once}
use Rattle.checking.proofs.full.mark_held.Goals as goal

pub returns-then-in_line : goal.returns-then-in_line
returns-then-in_line c =
    let both = and_parts _ _ c.if-full.true in
    let n : length c.args.ready.now ≡ 128 = eqb-true _ _ both.0 in
    let m : length c.args.waiting.now ≡ 128 = eqb-true _ _ both.1 in
    full_held c.args.ready.now c.args.waiting.now _ _ c.requires.0 c.requires.1 (omega arith) c.in_line.ensures c.in_line-then-full.ensures
    c.if-in_line.true

pub mark-first-requires : goal.mark-first-requires
mark-first-requires c = (omega arith, words_low c.args.ready.now)

pub mark-second-requires : goal.mark-second-requires
mark-second-requires c = (omega arith, words_low c.args.waiting.now)

pub returns : goal.returns
returns c =
    let low = both_low c.args.ready.now c.args.waiting.now in
    let both = both_marked c.args.ready.now c.args.waiting.now 256 low c.requires.2 c.mark-first.ensures c.mark-second.ensures in
    record {
      whole = c.mark-second.ensures.whole;
      marked = both;
      held = both_once c.args.ready.now c.args.waiting.now 256 low c.requires.2 c.mark-first.ensures c.mark-second.ensures;
    }
