-- `parity_restore::add_held` meets its contract: the part of the frames that the place names.
use Rattle.std.proofs.Common.{◌<◌, length, arith}
use Rattle.parity_restore.specs.RestoreLaws.{held_added, none_added}
use Rattle.parity_restore.proofs.add_held.Goals as goal

pub returns-in-Some : goal.returns-in-Some
returns-in-Some c =
    let l : c.args.p < length c.args.held.now = omega (arith, c.told-held) in
    held_added _ _ _ _ _ l c.in-Some.shard _ c.in-Some.is c.add.ensures

pub returns-in_default : goal.returns-in_default
returns-in_default c =
    let l : c.args.p < length c.args.held.now = omega (arith, c.told-held) in
    none_added _ _ _ _ _ l c.in_default.is
