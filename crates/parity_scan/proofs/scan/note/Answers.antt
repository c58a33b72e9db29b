-- `parity_scan::scan::note` meets its contract.
use Rattle.std.proofs.Common.{not, ap, ◌∙◌, rules}
use Rattle.parity_scan.specs.HeldLaws.{noted_first, noted_later}
use Rattle.parity_scan.proofs.scan.note.Goals as goal

pub returns-then-is_none : goal.returns-then-is_none
returns-then-is_none c = noted_first c.args.held.now c.args.p _ c.index-held-p.result (search rules) (c.is_none.ensures ∙ ap not c.if-is_none.true)

pub returns-else-is_none : goal.returns-else-is_none
returns-else-is_none c = noted_later c.args.held.now c.args.p _ c.index-held-p.result (search rules) (c.is_none.ensures ∙ ap not c.if-is_none.false)
