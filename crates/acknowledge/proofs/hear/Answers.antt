-- `hear`: what has been heard, with the segments that remain, is the whole.
use mathlib.Core.Path.{sym, ap, ◌∙◌}
use mathlib.Core.List.{List}
use borrow.Author.Rules.{rules}
use Rattle.lists.specs.Acknowledging.{first_number_or}
use Rattle.lists.specs.declared.Sent.{Sent}
use Rattle.records.specs.Tables.{blank}
use Rattle.acknowledge.proofs.Hearing.{heard_some, heard_none, all_stay, first_is}
use Rattle.acknowledge.proofs.Owned.{sent_owned}
use Rattle.acknowledge.proofs.Skips.{skips_are, no_skips, none_named}
use Rattle.acknowledge.proofs.Walks.{walking_start, walking_less, walking_more, walking_end}
use Rattle.acknowledge.proofs.hear.Goals as goal

pub loop-segment-init : goal.loop-segment-init
loop-segment-init c = (
  c.requires.1,
  (walking_start _ _ _ _ (record {
    order = c.requires.0;
    fit = sent_owned _ _ c.numbers_fit.ensures;
    next32 = search rules;
  }) _
      c.requires.2.1),
)

pub loop-segment-smaller-then-concerns : goal.loop-segment-smaller-then-concerns
loop-segment-smaller-then-concerns c =
    walking_less _ _ _ _ _ _ _ c.loop-segment.invariant.1 _ (sym c.segment_at.ensures ∙ c.in-Some.is)

pub loop-segment-smaller : goal.loop-segment-smaller
loop-segment-smaller c = walking_less _ _ _ _ _ _ _ c.loop-segment.invariant.1 _ (sym c.segment_at.ensures ∙ c.in-Some.is)

pub loop-segment-preserved-then-concerns : goal.loop-segment-preserved-then-concerns
loop-segment-preserved-then-concerns c =
    let left = c.remaining.ensures in
    let j = left.0 in
    let first = first_is _ _ _ _ c.loop-segment.f.next blank j.whole j.wholes left.1 in (
      left.1,
      walking_more _ _ _ _ _ _ _ c.loop-segment.invariant.1 _ (sym c.segment_at.ensures ∙ c.in-Some.is) _ _
          c.further-furthest.ensures
          (heard_some _ _ _ _ _ c.timed-f.ensures _ _ _ _ _ j
          (c.first_number.ensures ∙ first ∙ ap (λ (x : List Sent). first_number_or x c.loop-segment.f.next) j.list)),
    )

pub loop-segment-preserved : goal.loop-segment-preserved
loop-segment-preserved c =
    let l = c.loop-segment.invariant in
    let w = l.1 in (
      l.0,
      walking_more _ _ _ _ _ _ _ w _ (sym c.segment_at.ensures ∙ c.in-Some.is) _ _ c.further-furthest.ensures
          (heard_none _ _ _ _ _ c.timed-f.ensures w.ordered.order
          (all_stay _ _ _ _ c.concerns.ensures c.if-concerns.false _ w.ordered.fit w.ordered.order.numbers)),
    )

pub returns-then-counts : goal.returns-then-counts
returns-then-counts c =
    let w = c.loop-segment.invariant.1 in (
      walking_end _ _ _ _ _ _ _ w (sym c.segment_at.ensures ∙ c.in_default.is) _
          (rw c.in-Some-furthest.is (skips_are _ w.ordered.order _ _ c.counts.ensures _ c.if-counts.true c.skip_before.ensures.0)),
      c.skip_before.ensures.1,
    )

pub returns-else-counts : goal.returns-else-counts
returns-else-counts c =
    let l = c.loop-segment.invariant in (
      walking_end _ _ _ _ _ _ _ l.1 (sym c.segment_at.ensures ∙ c.in_default.is) _
          (rw c.in-Some-furthest.is (no_skips _ l.1.ordered.order _ _ c.counts.ensures c.if-counts.false)),
      l.0,
    )

pub returns-in_default-furthest : goal.returns-in_default-furthest
returns-in_default-furthest c =
    let l = c.loop-segment.invariant in (
      walking_end _ _ _ _ _ _ _ l.1 (sym c.segment_at.ensures ∙ c.in_default.is) _
          (rw c.in_default-furthest.is (none_named _ l.1.ordered.order)),
      l.0,
    )
