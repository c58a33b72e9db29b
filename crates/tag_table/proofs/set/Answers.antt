-- `tag_table::set` meets its contract: the tests decide in turn, and the entry is stored at its place.
use Rattle.std.proofs.Common.{sym, ap, ◌∙◌, arith}
use Rattle.std.specs.Option.{ok_or}
use Rattle.tag_message.specs.MessageLaws.{tag_lengths}
use Rattle.tag_message.specs.declared.TagRefusal.TheVariants.{Full}
use Rattle.tag_entry.specs.EntryLaws.{length_entry}
use Rattle.tag_survey.specs.SurveyLaws.{raised, sees}
use Rattle.tag_table.specs.Changes.{with_tag}
use Rattle.tag_table.specs.ChangeLaws as change
use Rattle.tag_table.proofs.set.Goals as goal

pub returns-in_err-seen : goal.returns-in_err-seen
returns-in_err-seen c =
    rw (raised _ _ c.from_residual.ensures.1) (change.refused c.args.name.now _ _ _ _ (sym c.survey.ensures ∙ c.in_err-seen.was))

pub returns-then-not-is_tag : goal.returns-then-not-is_tag
returns-then-not-is_tag c =
    change.refuses_form c.args.name.now _ _ _ _ (sees _ _ _ (sym c.survey.ensures ∙ c.in_ok-seen.was))
    (sym c.is_tag.ensures ∙ c.if-not-is_tag.true)

pub returns-in_err-at : goal.returns-in_err-at
returns-in_err-at c =
    let s = sees _ _ _ (sym c.survey.ensures ∙ c.in_ok-seen.was) in
    rw (raised _ _ c.from_residual-in_err-at.ensures.1)
    (change.refuses_place c.args.name.now _ _ _ _ s (sym c.is_tag.ensures ∙ c.if-not-is_tag.false)
    (ap (λ o. ok_or o Full) (sym (c.place.ensures ∙ change.place_for_lem _ _ s)) ∙ sym c.ok_or.ensures.value ∙ c.in_err-at.was))

pub overflow_mul-at : goal.overflow_mul-at
overflow_mul-at c =
    let s = sees _ _ _ (sym c.survey.ensures ∙ c.in_ok-seen.was) in
    let at = change.goes_at _ _ s Full _ (ap (λ o. ok_or o Full) (sym c.place.ensures) ∙ sym c.ok_or.ensures.value ∙ c.in_ok-at.was) in
    omega (arith, at)

pub put_entry-requires : goal.put_entry-requires
put_entry-requires c =
    let s = sees _ _ _ (sym c.survey.ensures ∙ c.in_ok-seen.was) in
    let at = change.goes_at _ _ s Full _ (ap (λ o. ok_or o Full) (sym c.place.ensures) ∙ sym c.ok_or.ensures.value ∙ c.in_ok-at.was) in
    (sym c.is_tag.ensures ∙ c.if-not-is_tag.false, omega (arith, at))

pub returns : goal.returns
unfolding with_tag
returns c =
    let s = sees _ _ _ (sym c.survey.ensures ∙ c.in_ok-seen.was) in
    let tag = sym c.is_tag.ensures ∙ c.if-not-is_tag.false in
    let l = tag_lengths _ _ tag in
    change.stored c.args.name.now _ _ _ _ s _ _ tag
    (change.goes_at _ _ s Full _ (ap (λ o. ok_or o Full) (sym c.place.ensures) ∙ sym c.ok_or.ensures.value ∙ c.in_ok-at.was))
    (length_entry _ _ l.most l.short) c.put_entry.ensures
