-- The records of the first i slots are gathered.
use Rattle.std.proofs.Common.{◌≡◌, ◌≤◌, length, take}
use Rattle.protocol.specs.Protocol.{send_slots}
use Rattle.records.specs.Tables.{slots_in, gathered, padded}
use Rattle.gathering.proofs.gather.Given as goal

abbrev pub invariant-loop-i : goal.invariant-loop-i
invariant-loop-i l = record {
  within : l.i ≤ l.count;
  whole : length l.records ≡ 32;
  so_far : l.records ≡ padded (gathered (take send_slots l.table) (take l.i (slots_in l.words l.n)));
}
