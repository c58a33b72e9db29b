-- `parity_found::found::lens_ok` meets its contract: the lengths passed are right.
use Rattle.std.proofs.Common.{◌≡◌, ℕ, ◌-◌, true, refl, sym, subst, le-leb, arith}
use Rattle.std.proofs.lemmas.Bool.{lt-leb}
use Rattle.frames.specs.Lists.{listed, lengths_of}
use Rattle.frames.specs.Outcomes.{lengths_ok}
use Rattle.frames.specs.Reading.{found}
use Rattle.parity_found.specs.Ready.{datagram_in}
use Rattle.parity_found.specs.FoundLaws.{lengths_good, lengths_short, lengths_long, length_datagram}
use Rattle.parity_found.proofs.found.lens_ok.Goals.{then-n-lt26-via-then-n-lt26, then-n-lt26-via-else-n-lt26+then-g-n}
use Rattle.parity_found.proofs.found.lens_ok.Goals as goal

pub loop-p-init : goal.loop-p-init
unfolding listed lengths_of lengths_ok
loop-p-init c = refl

pub returns-then-n-lt26 : goal.returns-then-n-lt26
unfolding found
returns-then-n-lt26 c =
    let m = sym (length_datagram _ _ c.loop-p.p c.len_of-n.result c.len_of-n.ensures.0) in
    sym (elim c.then-n-lt26.branch [
      | then-n-lt26-via-then-n-lt26 w ↦ lengths_short _ (datagram_in c.args.g.now) _ c.loop-p.p (c.len_of-n.result - 2) c.loop-p-test.true m (omega (arith, w.if-n-lt26.true))
      | then-n-lt26-via-else-n-lt26+then-g-n w ↦ lengths_long _ (datagram_in c.args.g.now) _ c.loop-p.p (c.len_of-n.result - 2) c.loop-p-test.true m (lt-leb _ _ w.if-g-n.true)
    ])

pub loop-p-preserved : goal.loop-p-preserved
loop-p-preserved c =
    let m = sym (length_datagram _ _ c.loop-p.p c.len_of-n.result c.len_of-n.ensures.0) in
    lengths_good _ (datagram_in c.args.g.now) c.loop-p.p (c.len_of-n.result - 2) m c.loop-p.invariant (omega arith) (le-leb _ _ c.if-g-n.false)

pub returns : goal.returns
unfolding found
returns c =
    let e : c.loop-p.p ≡ c.args.g.now.shape.k = omega (arith, c.loop-p.auto.p-end) in
    sym (subst (λ (n : ℕ). lengths_ok c.args.g.now.shape.mtu (lengths_of (listed (datagram_in c.args.g.now) n)) ≡ true) e c.loop-p.invariant)
