-- `tag_survey::is_fresh` meets its contract: where the fingerprint is new, so is the name.
use Rattle.std.proofs.Common.{not, ap, ◌∙◌}
use Rattle.tag_survey.specs.SurveyLaws as law
use Rattle.tag_survey.proofs.is_fresh.Goals as goal

pub returns-then-e-eq0-clause-fresh : goal.returns-then-e-eq0-clause-fresh
returns-then-e-eq0-clause-fresh c = law.free_fresh _ _ c.if-e-eq0.true

pub returns-then-not-known-clause-fresh : goal.returns-then-not-known-clause-fresh
returns-then-not-known-clause-fresh c =
    ap not c.if-not-known.true ∙ law.unmet_fresh _ _ c.if-e-eq0.false _ c.name_of-name.ensures c.from-f.result c.told-e c.requires
    (c.from-f.ensures ∙ c.fingerprint.ensures) c.if-not-known.true

pub returns-else-not-known-clause-fresh : goal.returns-else-not-known-clause-fresh
returns-else-not-known-clause-fresh c = law.compared_fresh _ _ c.if-e-eq0.false _ c.name_of-name.ensures c.named_among.ensures
