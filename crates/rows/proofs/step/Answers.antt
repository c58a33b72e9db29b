-- `rows::step` meets its contract: in the first parity nothing changes.
use mathlib.Core.Path.{refl, sym, ◌∙◌}
use lib.ListN.{get_or}
use Rattle.rows.specs.Rows.{stepped}
use Rattle.rows.specs.RowLaws.{stepped_second}
use Rattle.rows.proofs.step.Goals as goal

pub returns-then-w-eq0 : goal.returns-then-w-eq0
unfolding stepped
returns-then-w-eq0 c = record { size = refl; byte = λ x l. rw c.if-w-eq0.true }

pub returns : goal.returns
returns c = record {
  size = c.double.ensures.size;
  byte = λ x l. c.double.ensures.byte x l ∙ sym
      (stepped_second c.args.w
      (get_or c.args.row.now x 0) c.if-w-eq0.false);
}
