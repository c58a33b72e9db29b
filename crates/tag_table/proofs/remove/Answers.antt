-- `tag_table::remove` meets its contract: the tests decide in turn, and the entry is zeroed.
use Rattle.std.proofs.Common.{sym, ap, ◌∙◌, refl, arith}
use Rattle.std.specs.Option.{ok_or}
use Rattle.tag_message.specs.declared.TagRefusal.TheVariants.{Absent}
use Rattle.tag_survey.specs.SurveyLaws.{raised, sees}
use Rattle.tag_table.specs.Changes.{without_tag}
use Rattle.tag_table.specs.ChangeLaws as change
use Rattle.tag_table.proofs.remove.Goals as goal

pub returns-in_err-seen : goal.returns-in_err-seen
returns-in_err-seen c =
    rw (raised _ _ c.from_residual.ensures.1) (change.refused c.args.name.now _ _ _ _ (sym c.survey.ensures ∙ c.in_err-seen.was))

pub returns-then-not-is_name : goal.returns-then-not-is_name
returns-then-not-is_name c =
    change.refuses_form c.args.name.now _ _ _ _ (sees _ _ _ (sym c.survey.ensures ∙ c.in_ok-seen.was))
    (sym c.is_name.ensures ∙ c.if-not-is_name.true)

pub returns-in_err-at : goal.returns-in_err-at
returns-in_err-at c =
    let s = sees _ _ _ (sym c.survey.ensures ∙ c.in_ok-seen.was) in
    rw (raised _ _ c.from_residual-in_err-at.ensures.1)
    (change.refuses_place c.args.name.now _ _ _ _ s (sym c.is_name.ensures ∙ c.if-not-is_name.false)
    (ap (λ o. ok_or o Absent) (sym s.named) ∙ sym c.ok_or.ensures.value ∙ c.in_err-at.was))

pub overflow_mul-at : goal.overflow_mul-at
overflow_mul-at c =
    let s = sees _ _ _ (sym c.survey.ensures ∙ c.in_ok-seen.was) in
    omega (arith, change.named_at _ _ s Absent _ (sym c.ok_or.ensures.value ∙ c.in_ok-at.was))

pub put_zeros-requires : goal.put_zeros-requires
put_zeros-requires c =
    let s = sees _ _ _ (sym c.survey.ensures ∙ c.in_ok-seen.was) in
    omega (arith, change.named_at _ _ s Absent _ (sym c.ok_or.ensures.value ∙ c.in_ok-at.was))

pub returns : goal.returns
unfolding without_tag
returns c =
    let s = sees _ _ _ (sym c.survey.ensures ∙ c.in_ok-seen.was) in
    change.stored c.args.name.now _ _ _ _ s _ _ (sym c.is_name.ensures ∙ c.if-not-is_name.false)
    (change.named_at _ _ s Absent _ (sym c.ok_or.ensures.value ∙ c.in_ok-at.was)) refl c.put_zeros.ensures
