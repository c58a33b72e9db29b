-- `parity_reader::verify::parity_row` meets its contract: each shard added, from the last place to the first.
use Rattle.std.proofs.Common.{◌-◌, refl, ap, length, arith}
use Rattle.frames.specs.FrameLaws.{length_shard}
use Rattle.parity_found.specs.Ready.{datagram_in}
use Rattle.parity_reader.specs.VerifyLaws.{found_none, found_next, found_done, size_most}
use Rattle.parity_reader.proofs.verify.parity_row.Goals as goal

pub loop-p-init : goal.loop-p-init
loop-p-init c = found_none _ c.args.g.now _ _ _ c.requires.2 c.clear.ensures

pub add-requires : goal.add-requires
add-requires c =
    let m = size_most c.args.g.now (c.loop-p.p - 1) (omega (arith, c.loop-p.auto.p)) in
    let z = ap length c.trimmed.ensures in
    omega (arith, m, z, length_shard (datagram_in c.args.g.now (c.loop-p.p - 1)), c.step.ensures.size, c.loop-p.invariant.size)

pub loop-p-preserved : goal.loop-p-preserved
loop-p-preserved c =
    found_next _ c.args.g.now c.loop-p.p (c.loop-p.p - 1) _ _ _ _ _ (omega arith) (omega (arith, c.loop-p.auto.p)) c.trimmed.ensures
    c.loop-p.invariant c.step.ensures c.add.ensures

pub returns : goal.returns
returns c = found_done _ c.args.g.now c.loop-p.p _ _ c.loop-p-test.false refl c.loop-p.invariant
