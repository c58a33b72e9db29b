-- `parity_writer::shards::add_shard` meets its contract: len in the first two bytes, the datagram behind them.
use Rattle.std.proofs.Common.{refl}
use Rattle.parity_writer.specs.ShardLaws.{shard_added}
use Rattle.parity_writer.proofs.shards.add_shard.Goals as goal

pub returns : goal.returns
returns c = shard_added _ _ _ _ _ refl c.requires.0 _ c.add.ensures c.add-2.ensures c.add-3.ensures
