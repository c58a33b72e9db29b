-- `parity_found::found::most_found` meets its contract: the largest of those passed.
use Rattle.std.proofs.Common.{◌≡◌, ℕ, refl, ap, ◌∙◌, arith}
use Rattle.frames.specs.Lists.{listed, lengths_of, largest}
use Rattle.frames.specs.Reading.{found}
use Rattle.parity_found.specs.Ready.{datagram_in}
use Rattle.parity_found.specs.FoundLaws.{largest_next, length_datagram}
use Rattle.parity_found.proofs.found.most_found.Goals as goal

pub loop-p-init : goal.loop-p-init
unfolding listed lengths_of largest
loop-p-init c = (refl, omega arith)

pub loop-p-preserved : goal.loop-p-preserved
loop-p-preserved c =
    let n = largest_next (datagram_in c.args.g.now) c.loop-p.p in
    let m = length_datagram _ _ c.loop-p.p c.len_of.result c.len_of.ensures.0 in
    (omega (arith, n, m, c.loop-p.invariant.0), omega (arith, c.len_of.ensures.1))

pub returns : goal.returns
unfolding found
returns c =
    let e : c.loop-p.p ≡ c.args.g.now.shape.k = omega (arith, c.loop-p.auto.p-end) in
    (c.loop-p.invariant.0 ∙ ap (λ (n : ℕ). largest (lengths_of (listed (datagram_in c.args.g.now) n))) e, c.loop-p.invariant.1)
