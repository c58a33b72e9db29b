-- `hear`: what has been heard, with the segments that remain, is the whole.
use mathlib.Core.Path.{refl, sym, ◌∙◌}
use borrow.Author.Rules.{rules}
use Rattle.receive.proofs.Steps.{heard_push}
use Rattle.receive.proofs.Walks.{walking_start, walking_inside, walking_fits, walking_less, walking_more, walking_end}
use Rattle.receive.proofs.Pushed.{pushable, heard_asked, same_on, slots_on}
use Rattle.receive.proofs.hear.Goals as goal

pub loop-segment-init : goal.loop-segment-init
loop-segment-init c =
    let p = c.requires in
    record {
      same = record { ready = refl; waiting = refl; numbers = refl };
      slots = record { marks = refl; mss = refl; pool = refl };
      whole = p.0;
      length = c.mss.ensures;
      walking = walking_start _ _ _ _ _ p.2 (search rules) p.3.0 p.3.1;
      marked = p.1;
    }

pub push-requires : goal.push-requires
push-requires c =
    let v = c.loop-segment.invariant in
    let found = sym c.segment_at.ensures ∙ c.in-Some.is in (
      v.whole,
      pushable _ _ _ _ _ _ c.in-Some.segment.header _ _ _ v.length v.walking.sound v.marked
          (walking_inside _ _ _ _ _ _ _ _ _ v.walking _ found)
          (walking_fits _ _ _ _ _ _ _ _ _ v.walking _ found c.if-header-eq-PUSH.true),
    )

pub loop-segment-smaller-then-header-eq-PUSH : goal.loop-segment-smaller-then-header-eq-PUSH
loop-segment-smaller-then-header-eq-PUSH c =
    walking_less _ _ _ _ _ _ _ _ _ c.loop-segment.invariant.walking _ (sym c.segment_at.ensures ∙ c.in-Some.is)

pub loop-segment-preserved-then-header-eq-PUSH : goal.loop-segment-preserved-then-header-eq-PUSH
loop-segment-preserved-then-header-eq-PUSH c =
    let v = c.loop-segment.invariant in
    let g = c.in-Some in
    let e = c.push.ensures in
    record {
      same = same_on v.same e.same.0;
      slots = slots_on v.slots e.same.1;
      whole = e.whole;
      length = e.same.1.mss ∙ v.length;
      walking = walking_more _ _ _ _ _ _ _ _ _ v.walking _ (sym c.segment_at.ensures ∙ g.is) _ _ _
          (heard_push _ _ _ _ c.args.s.now g.segment.start g.segment.header _ _ _ c.if-header-eq-PUSH.true (rw v.length at e.hears.is));
      marked = rw e.same.1.marks e.hears.marked;
    }

pub loop-segment-smaller : goal.loop-segment-smaller
loop-segment-smaller c =
    walking_less _ _ _ _ _ _ _ _ _ c.loop-segment.invariant.walking _ (sym c.segment_at.ensures ∙ c.in-Some.is)

pub loop-segment-preserved : goal.loop-segment-preserved
loop-segment-preserved c =
    let h = c.loop-segment.half in
    let v = c.loop-segment.invariant in
    let g = c.in-Some in
    record {
      same = record { ready = v.same.ready; waiting = v.same.waiting; numbers = v.same.numbers };
      slots = v.slots;
      whole = v.whole;
      length = v.length;
      walking = walking_more _ _ _ _ _ _ _ _ _ v.walking _ (sym c.segment_at.ensures ∙ g.is) _ _ _
          (heard_asked _ h.arrival h.ready.now h.waiting.now h.numbers.now _ _ c.args.s.now g.segment.start g.segment.header
          c.asked-half.result c.asked-half.ensures c.if-header-eq-PUSH.false v.walking.sound v.walking.low);
      marked = record { whole = v.marked.whole; free = v.marked.free };
    }

pub returns-clause-hears : goal.returns-clause-hears
returns-clause-hears c =
    walking_end _ _ _ _ _ _ _ _ _ c.loop-segment.invariant.walking (sym c.segment_at.ensures ∙ c.in_default.is) _ (search rules)
