-- `rows::add` meets its contract: the bytes passed are sums, the others as they were.
use Rattle.std.proofs.Common.{◌+◌}
use Rattle.rows.specs.RowLaws.{Done, sum}
use Rattle.rows.proofs.add.Given as goal

abbrev pub invariant-loop-i : goal.invariant-loop-i
invariant-loop-i l = Done (sum l.initial.row l.at l.other) (l.at + l.i) l.initial.row l.row
