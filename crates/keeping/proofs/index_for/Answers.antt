-- `index_for`: the tests of the number, then the search.
use native.Mathlib.Omega.{arith}
use Rattle.words.proofs.Pairs.{searched}
use Rattle.keeping.proofs.Finds.{found_here, found_held}
use Rattle.keeping.proofs.index_for.Goals as goal

pub returns : goal.returns
returns c =
    let a = c.args in
    let t = searched a.next a.sn a.n c.in-Err.i _ a.numbers.now _ (omega arith) c.difference-offset.ensures c.in-Err.ensures in
    found_here a.next a.sn a.numbers.now a.n c.in-Err.i c.told-numbers c.requires t.0 _ _ c.in_window.ensures c.before-2.ensures
    c.if-not-ahead.false t.1

pub returns-in_default : goal.returns-in_default
returns-in_default c =
    let a = c.args in
    let i = c.in_default.field-0 in
    let t = searched a.next a.sn a.n i _ a.numbers.now _ (omega arith) c.difference-offset.ensures c.in_default.ensures in
    found_held a.next a.sn a.numbers.now a.n i c.told-numbers c.requires t.0 _ _ c.in_window.ensures c.before-2.ensures
    c.if-not-ahead.false t.1
