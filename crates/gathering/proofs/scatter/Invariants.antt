-- The records behind the first i slots, put into the table as it is now, give the table that is wanted.
use Rattle.std.proofs.Common.{◌≤◌}
use Rattle.records.specs.Tables.{slots_in, scattered}
use Rattle.records.proofs.Turns.{Left}
use Rattle.gathering.proofs.scatter.Given as goal

abbrev pub invariant-loop-i : goal.invariant-loop-i
invariant-loop-i l =
    let slots = slots_in l.words l.n in
    record {
      within : l.i ≤ l.count;
      left : Left l.table slots l.records l.i (scattered l.fn.table slots l.records);
    }
