-- `parity_found::found::found_shard` meets its contract: by the three cases.
use Rattle.std.proofs.Common.{◌<◌, arith}
use Rattle.parity_restore.specs.RestoreLaws.{is_place, not_place}
use Rattle.parity_found.specs.ReadyLaws.{whole_first, whole_second, whole_span, held_there}
use Rattle.parity_found.proofs.found.found_shard.Goals as goal

pub returns-then-eq : goal.returns-then-eq
returns-then-eq c =
    let l : c.args.p < 12 = omega (arith, c.requires.1, c.args.g.now.shape.few) in
    whole_first _ c.requires.0 _ c.requires.1 (is_place _ _ l c.if-eq.ensures)

pub returns-then-eq-2 : goal.returns-then-eq-2
returns-then-eq-2 c =
    let l : c.args.p < 12 = omega (arith, c.requires.1, c.args.g.now.shape.few) in
    whole_second _ c.requires.0 _ c.requires.1 (is_place _ _ l c.if-eq-2.ensures)

pub unwrap-shard-requires : goal.unwrap-shard-requires
unwrap-shard-requires c =
    let l : c.args.p < 12 = omega (arith, c.requires.1, c.args.g.now.shape.few) in
    held_there _ c.requires.0 _ _ c.requires.1 (not_place _ _ l c.if-eq.ensures) (not_place _ _ l c.if-eq-2.ensures)

pub returns : goal.returns
returns c =
    let l : c.args.p < 12 = omega (arith, c.requires.1, c.args.g.now.shape.few) in
    whole_span _ c.requires.0 _ _ _ c.unwrap-shard.ensures c.requires.1 (not_place _ _ l c.if-eq.ensures) (not_place _ _ l c.if-eq-2.ensures)
