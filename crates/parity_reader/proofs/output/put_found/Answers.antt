-- `parity_reader::output::put_found` meets its contract: the datagrams passed stand one behind the other.
use Rattle.std.proofs.Common.{refl, ap, length, ◌∙◌, arith}
use Rattle.std.proofs.lemmas.List.Edits.{sets}
use Rattle.frames.specs.FrameLaws.{length_shard}
use Rattle.parity_found.specs.Ready.{datagram_in}
use Rattle.parity_found.specs.FoundLaws.{lens_most}
use Rattle.parity_reader.specs.VerifyLaws.{listed_found}
use Rattle.parity_reader.specs.OutputLaws.{packed_none, packed_next, packed_room, packed_all, behind_len}
use Rattle.parity_reader.proofs.output.put_found.Goals as goal

pub loop-p-init : goal.loop-p-init
loop-p-init c = packed_none (datagram_in c.args.g.now) c.args.g.now.shape.mtu c.args.out.now c.args.out_lengths.now

pub overflow_sub-n : goal.overflow_sub-n
overflow_sub-n c =
    let z = ap length c.trimmed-t.ensures in
    omega (arith, z, length_shard (datagram_in c.args.g.now c.loop-p.p))

pub copy_part-requires : goal.copy_part-requires
copy_part-requires c =
    let z = ap length c.trimmed-t.ensures in
    let y = length_shard (datagram_in c.args.g.now c.loop-p.p) in
    let m = lens_most _ (datagram_in c.args.g.now) _ c.loop-p.p c.loop-p-test.true (listed_found c.args.g.now c.requires.1) in
    let r = packed_room _ _ c.loop-p.p _ _ _ c.loop-p.invariant.most m c.loop-p-test.true c.args.g.now.shape.few c.requires.2 in
    (omega (arith, z, y), omega (arith, z, y, r, c.loop-p.invariant.room))

pub overflow_cast-out_lengths : goal.overflow_cast-out_lengths
overflow_cast-out_lengths c =
    let z = ap length c.trimmed-t.ensures in
    let y = length_shard (datagram_in c.args.g.now c.loop-p.p) in
    let m = lens_most _ (datagram_in c.args.g.now) _ c.loop-p.p c.loop-p-test.true (listed_found c.args.g.now c.requires.1) in
    record { fits = omega (arith, z, y, m, c.args.g.now.shape.small) }

pub loop-p-preserved : goal.loop-p-preserved
loop-p-preserved c =
    let m = lens_most _ (datagram_in c.args.g.now) _ c.loop-p.p c.loop-p-test.true (listed_found c.args.g.now c.requires.1) in
    let b = behind_len (datagram_in c.args.g.now c.loop-p.p) c.trimmed-t.result.now _ c.trimmed-t.ensures refl in
    packed_next _ _ _ _ _ _ _ _ _ _ _ c.loop-p.invariant b.0 (omega (arith, b.0, m)) refl
    (c.copy_part.ensures ∙ ap (sets c.loop-p.out c.loop-p.at) b.1)

pub returns-clause-bytes : goal.returns-clause-bytes
returns-clause-bytes c = (packed_all _ _ _ _ _ _ _ _ c.loop-p.p c.loop-p.invariant (omega (arith, c.loop-p.auto.p-end))).0

pub returns-clause-lengths : goal.returns-clause-lengths
returns-clause-lengths c = (packed_all _ _ _ _ _ _ _ _ c.loop-p.p c.loop-p.invariant (omega (arith, c.loop-p.auto.p-end))).1
