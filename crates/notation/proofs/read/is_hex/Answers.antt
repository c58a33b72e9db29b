-- `notation::read::is_hex` meets its contract: an even number, and each of them a digit.
use Rattle.std.proofs.Common.{rules, tests, eq-eqb, ne_eqb}
use Rattle.std.proofs.lemmas.Iterator.{YieldsList-from_slice}
use Rattle.std.proofs.lemmas.Iterator.Search.{all_from_yields_List}
use Rattle.notation.specs.Hex.{is_hex_digit, is_hex}
use Rattle.notation.proofs.read.is_hex.Goals as goal

pub returns-then-s-eq0 : goal.returns-then-s-eq0
unfolding is_hex
returns-then-s-eq0 c =
    let s = c.args.s.now in
    rw (eq-eqb _ _ c.if-s-eq0.true)
    (all_from_yields_List is_hex_digit _ _ _ c.all.ensures.ran (YieldsList-from_slice s cc) (λ x b q k. search (rules, tests)))

pub returns-else-s-eq0 : goal.returns-else-s-eq0
unfolding is_hex
returns-else-s-eq0 c = rw (ne_eqb _ _ c.if-s-eq0.false)
