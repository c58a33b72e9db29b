-- `keep`: at the end of those that are ready, among those that wait, or not at all.
use mathlib.Core.Path.{◌≡◌, refl, ◌∙◌}
use mathlib.Core.Bool.{true}
use native.Mathlib.Omega.{arith}
use borrow.Author.Rules.{rules}
use Rattle.words.proofs.Pairs.{insert_new}
use Rattle.arriving.specs.Arrivals.{lists_in}
use Rattle.keeping.specs.Pushing.{is_kept}
use Rattle.keeping.proofs.Keeps.{next_kept, kept_not, storable, index_room, kept_next, kept_waits}
use Rattle.keeping.proofs.keep.Goals as goal

-- it is the one expected next

pub store-held-requires : goal.store-held-requires
store-held-requires c =
    let p = c.requires.1 in
    let next : is_kept (lists_in c.args.half.now) c.args.h ≡ true =
    next_kept _ _ _ _ _ _ _ _ p (search rules) (search rules) _ c.is_next.ensures c.if-is_next.true in
    (storable _ _ _ _ _ _ _ _ p (search rules) (search rules) next, omega (arith, p.fits, p.mss_low))

pub returns-then-is_next-clause-keeps : goal.returns-then-is_next-clause-keeps
returns-then-is_next-clause-keeps c =
    let h = c.args.half.now in
    let p = c.requires.1 in
    let next : is_kept (lists_in h) c.args.h ≡ true =
    next_kept _ _ _ _ _ _ _ _ p (search rules) (search rules) _ c.is_next.ensures c.if-is_next.true in
    let st = c.store-held.ensures in
    rw st.same.1 (kept_next _ _ _ _ _ _ _ _ p (search rules) (search rules) next c.store-held.result.slot _ st.stored h.arrival h.ready.now
    h.waiting.now h.numbers.now c.word.result (c.word.ensures ∙ st.held) refl _ c.is_next.ensures c.if-is_next.true _ c.append.ensures _ refl
    refl _ c.sum-half.ensures _ _ _ _ c.advance.ensures.advances)

-- it waits

pub store-held-requires-in-Some : goal.store-held-requires-in-Some
store-held-requires-in-Some c =
    let p = c.requires.1 in (
      storable _ _ _ _ _ _ _ _ p (search rules) (search rules)
          (c.in-Some.ensures.kept c.args.half.now.waiting.now c.requires.0.whole_waiting p.ascends),
      omega (arith, p.fits, p.mss_low),
    )

pub insert_at-requires : goal.insert_at-requires
insert_at-requires c =
    let h = c.args.half.now in
    let w = c.requires.0 in
    let p = c.requires.1 in
    let f = c.in-Some.ensures in
    let early = f.kept h.waiting.now w.whole_waiting p.ascends in
    let room = index_room _ _ _ _ _ _ _ _ p (search rules) (search rules) early h.arrival h.ready.now h.waiting.now h.numbers.now refl w _
    f.place f.lacks in
    (search rules, (room, f.place.within))

pub returns-in-Some-clause-keeps : goal.returns-in-Some-clause-keeps
returns-in-Some-clause-keeps c =
    let h = c.args.half.now in
    let w = c.requires.0 in
    let p = c.requires.1 in
    let st = c.store-held-in-Some.ensures in
    let f = c.in-Some.ensures in
    let early = f.kept h.waiting.now w.whole_waiting p.ascends in
    let word = c.word-in-Some in
    rw st.same.1 (kept_waits _ _ _ _ _ _ _ _ p (search rules) (search rules) early c.store-held-in-Some.result.slot _ st.stored h.arrival
    h.ready.now h.waiting.now h.numbers.now word.result (word.ensures ∙ st.held) refl w _ c.is_next.ensures c.if-is_next.false _ _
    (insert_new h.waiting.now h.numbers.now h.arrival.waiting c.in-Some.i h.arrival.expected word.result c.args.h.sn w.whole_waiting
    w.whole_numbers p.waiting f.place _ _ f.lacks c.insert_at.ensures c.insert_at-in-Some.ensures)
    _ refl)

-- it is not kept

pub returns-in_default-clause-keeps : goal.returns-in_default-clause-keeps
returns-in_default-clause-keeps c =
    let p = c.requires.1 in
    kept_not _ _ _ _ _ _ _ _ p (search rules) (search rules)
    (c.in_default.ensures c.args.half.now.waiting.now c.requires.0.whole_waiting p.ascends) _
