-- `parity_restore::solve_one` meets its contract: by the parity that is held.
use Rattle.std.proofs.Common.{sym, ◌∙◌, rules}
use Rattle.parity_scan.specs.HeldLaws.{sized_at}
use Rattle.parity_restore.specs.RestoreLaws.{solved_first, solved_second}
use Rattle.parity_restore.proofs.solve_one.Goals as goal

pub returns-then-is_some : goal.returns-then-is_some
returns-then-is_some c = solved_first _ _ c.requires.1 _ _ _ _ (sym (sized_at c.args.held.now c.args.k c.index-held-k.result (search rules)) ∙ sym c.if-is_some.ensures) c.rest_row.ensures

pub returns : goal.returns
returns c =
    solved_second _ _ c.requires.1 _ _ _ _ _ _ _ (sym (sized_at c.args.held.now c.args.k c.index-held-k.result (search rules)) ∙ sym c.if-is_some.ensures) c.power.ensures c.inverse.ensures
    c.rest_row-2.ensures c.multiply.ensures
