-- `parity_writer::shards::parity_row` meets its contract: what the places from p on give, p weighed as place 0.
use Rattle.std.proofs.Common.{◌≡◌, ◌+◌, length, take}
use Rattle.rows.specs.Rows.{Row}
use Rattle.frames.specs.Lists.{add_up, largest}
use Rattle.frames.specs.WeightLaws.{tail}
use Rattle.parity_writer.specs.ShardLaws.{shard_byte}
use Rattle.parity_writer.proofs.shards.parity_row.Given as goal

abbrev pub invariant-loop-p : goal.invariant-loop-p
invariant-loop-p l =
    (l.from ≡ add_up (take l.p l.datagrams.lengths.now))
    × Row (λ x. tail l.w (shard_byte l.datagrams.bytes.now l.datagrams.lengths.now x) l.p (length l.datagrams.lengths.now))
    (largest l.datagrams.lengths.now + 2) l.row
