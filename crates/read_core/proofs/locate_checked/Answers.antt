-- The front segment's place, as what showing gives.
use Rattle.read_core.proofs.Blocks.{block_counts}
use Rattle.read_core.proofs.Places.{placed}
use Rattle.read_core.proofs.locate_checked.Goals as goal

pub front_place-requires : goal.front_place-requires
front_place-requires c =
    let ok = c.requires.1 in
    ((block_counts c.args.link.now ok.counts).ready, rw c.mss.ensures ok.inside.each, rw c.mss.ensures ok.mss_low)

pub returns : goal.returns
returns c pool ok records acks = placed c.args.link.now records acks pool ok _ c.mss.ensures _ c.front_place.ensures
