-- `tag_survey::survey` meets its contract: what holds after i entries.
use Rattle.tag_survey.specs.SurveyLaws.{Surveying}
use Rattle.tag_survey.proofs.survey.Given as goal

abbrev pub invariant-loop-i : goal.invariant-loop-i
invariant-loop-i l = Surveying l.name l.entries l.met l.seen l.i
