-- `parity_found::found::trimmed` meets its contract: as its len says.
use Rattle.std.proofs.Common.{◌≡◌, ◌+◌, ◌≤◌, ◌-◌, length, ◌∙◌, arith, rules}
use Rattle.parity_found.specs.Ready.{len_in}
use Rattle.parity_found.specs.FoundLaws.{lens_least, found_most, whole_len, whole_trimmed}
use Rattle.parity_found.proofs.found.trimmed.Goals as goal

pub slice_bounds-result-end : goal.slice_bounds-result-end
slice_bounds-result-end c =
    let e = whole_len _ _ _ c.found_shard-t.ensures c.from-n.result (c.from-n.ensures ∙ c.read.ensures) in
    let l = lens_least _ _ _ _ c.requires.1 c.requires.2 in
    let m = found_most _ _ _ _ c.from-n.result e c.requires.1 c.requires.2 in
    let f : len_in c.args.g.now c.args.p ≤ c.args.g.now.shape.mtu + 2 = omega (arith, e, l, m) in
    let n : c.from-n.result ≤ length c.found_shard-t.result.now = omega (arith, e, c.found_shard-t.ensures.fits f) in
    search rules

pub returns : goal.returns
returns c =
    let e = whole_len _ _ _ c.found_shard-t.ensures c.from-n.result (c.from-n.ensures ∙ c.read.ensures) in
    let l = lens_least _ _ _ _ c.requires.1 c.requires.2 in
    let m = found_most _ _ _ _ c.from-n.result e c.requires.1 c.requires.2 in
    let z : c.from-n.result - 0 ≡ c.from-n.result = omega arith in
    whole_trimmed _ _ _ c.found_shard-t.ensures c.from-n.result e (omega (arith, e, l)) (omega (arith, e, l, m))
