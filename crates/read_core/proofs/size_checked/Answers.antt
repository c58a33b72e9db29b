-- The message at the front of what is ready.
use Rattle.std.proofs.Common.{arith}
use Rattle.std.proofs.Math.ListN.{length-take}
use Rattle.read_core.proofs.Blocks.{block_counts}
use Rattle.read_core.proofs.Readings.{tells_block}
use Rattle.read_core.proofs.size_checked.Goals as goal

pub shared_ref_as_front-front_size : goal.shared_ref_as_front-front_size
shared_ref_as_front-front_size c = (block_counts c.args.link.now c.requires).ready

pub front_size-requires : goal.front_size-requires
front_size-requires c =
    let n = c.args.link.now.arrival.ready in
    omega (arith, (block_counts c.args.link.now c.requires).ready, length-take n c.args.link.now.ready)

pub returns : goal.returns
returns c records acks = tells_block c.args.link.now records acks c.front_size.result c.front_size.ensures
