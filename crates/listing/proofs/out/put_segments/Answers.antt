-- `listing::out::put_segments` meets its contract: at the loop the lines of the segments that remain, and the count's, are left to be put.
use mathlib.Core.Path.{refl, sym, ◌∙◌}
use native.Mathlib.Omega.{arith}
use Rattle.datagram.proofs.StepLaws.{took, ended}
use Rattle.listing.specs.LineLaws.{holds_length}
use Rattle.listing.specs.ListingLaws.{listed_all, left_begin, left_line, left_last}
use Rattle.listing.proofs.out.put_segments.Goals as goal

pub loop-segment-init : goal.loop-segment-init
loop-segment-init c =
    let a = listed_all _ _ c.requires.0 in
    (a.short, omega arith, refl, (a.begun.all, a.begun.remaining, left_begin _ _ _ _ a.lines))

pub returns : goal.returns
returns c =
    let l = c.loop-segment in
    let none = ended _ _ _ _ _ l.invariant.3.1 (sym c.segment_at.ensures ∙ c.in_default.is) in
    left_last _ _ _ _ _ _ _ _ _ _ l.invariant.3.2 none c.count_line.ensures c.put_line.ensures

pub loop-segment-smaller : goal.loop-segment-smaller
loop-segment-smaller c =
    let t = took _ _ _ _ _ c.loop-segment.invariant.3.1 _ (sym c.segment_at.ensures ∙ c.in-Some.is) in
    omega (arith, t.follows, t.inside)

pub loop-segment-preserved : goal.loop-segment-preserved
loop-segment-preserved c =
    let l = c.loop-segment in
    let t = took _ _ _ _ _ l.invariant.3.1 _ (sym c.segment_at.ensures ∙ c.in-Some.is) in (
      l.invariant.0,
      omega (
        arith,
        c.put_line-here.ensures.next,
        holds_length _ _ c.segment_line.ensures,
        c.segment_line.ensures.most,
        t.follows,
        l.invariant.1,
      ),
      omega arith,
      (
        t.others,
        t.remaining,
        left_line _ _ _ _ _ _ _ _ _ _ _ _ l.invariant.3.2 t.whole c.segment_line.ensures c.put_line-here.ensures,
      ),
    )
