-- `tag_find::find` meets its contract: the tests decide in turn.
use Rattle.std.proofs.Common.{sym, ◌∙◌}
use Rattle.tag_survey.specs.SurveyLaws.{raised, named_below, sees}
use Rattle.tag_find.specs.FindingLaws as finding
use Rattle.tag_find.proofs.find.Goals as goal

pub returns-then-own-ne-SIZE : goal.returns-then-own-ne-SIZE
returns-then-own-ne-SIZE c = finding.other_size _ _ _ c.then-own-ne-SIZE.either

pub returns-in_err-here : goal.returns-in_err-here
returns-in_err-here c =
    raised _ _ c.from_residual.ensures.1
    ∙ finding.own_refused _ _ _ c.if-own-ne-SIZE.false c.if-defaults-ne-SIZE.false (sym c.survey.ensures ∙ c.in_err-here.was)

pub returns-in_err-behind : goal.returns-in_err-behind
returns-in_err-behind c =
    raised _ _ c.from_residual-in_err-behind.ensures.1
    ∙ finding.defaults_refused _ _ _ c.if-own-ne-SIZE.false c.if-defaults-ne-SIZE.false
    (sees _ _ _ (sym c.survey.ensures ∙ c.in_ok-here.was)) (sym c.survey-2.ensures ∙ c.in_err-behind.was)

pub returns-then-not-is_name : goal.returns-then-not-is_name
returns-then-not-is_name c =
    finding.no_name _ _ _ c.if-own-ne-SIZE.false c.if-defaults-ne-SIZE.false (sees _ _ _ (sym c.survey.ensures ∙ c.in_ok-here.was))
    (sees _ _ _ (sym c.survey-2.ensures ∙ c.in_ok-behind.was)) (sym c.is_name.ensures ∙ c.if-not-is_name.true)

pub first_of-requires-clause-own : goal.first_of-requires-clause-own
first_of-requires-clause-own c = (c.if-own-ne-SIZE.false, named_below (sees _ _ _ (sym c.survey.ensures ∙ c.in_ok-here.was)))

pub first_of-requires-clause-defaults : goal.first_of-requires-clause-defaults
first_of-requires-clause-defaults c =
    (c.if-defaults-ne-SIZE.false, named_below (sees _ _ _ (sym c.survey-2.ensures ∙ c.in_ok-behind.was)))

pub returns : goal.returns
returns c =
    finding.looked_for _ _ _ c.if-own-ne-SIZE.false c.if-defaults-ne-SIZE.false (sees _ _ _ (sym c.survey.ensures ∙ c.in_ok-here.was))
    (sees _ _ _ (sym c.survey-2.ensures ∙ c.in_ok-behind.was)) (sym c.is_name.ensures ∙ c.if-not-is_name.false) c.first_of.ensures
