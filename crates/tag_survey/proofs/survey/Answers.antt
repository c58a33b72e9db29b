-- `tag_survey::survey` meets its contract: what is found after i entries.
use Rattle.std.proofs.Common.{refl, sym, ◌∙◌}
use Rattle.tag_survey.specs.SurveyLaws as law
use Rattle.tag_survey.proofs.survey.Goals as goal
use Rattle.tag_survey.proofs.survey.Goals.{
  then-not-is_entry-via-then-not-is_entry,
  then-not-is_entry-via-else-not-is_entry+then-not-is_fresh,
}

pub returns-then-table-ne-SIZE : goal.returns-then-table-ne-SIZE
returns-then-table-ne-SIZE c = law.other_size _ _ c.if-table-ne-SIZE.true

pub loop-i-init : goal.loop-i-init
loop-i-init c = law.surveying_starts _ _ _ refl

pub returns-then-not-is_entry : goal.returns-then-not-is_entry
returns-then-not-is_entry c =
    let l = c.loop-i in
    law.out_of_rules _ _ c.if-table-ne-SIZE.false _ c.entries_in-entries.ensures
    (elim c.then-not-is_entry.branch [
      | then-not-is_entry-via-then-not-is_entry w ↦
          law.surveying_broken _ _ _ _ l.i l.invariant c.loop-i-test.true (sym c.is_entry.ensures ∙ w.if-not-is_entry.true)
      | then-not-is_entry-via-else-not-is_entry+then-not-is_fresh w ↦
          law.surveying_twice _ _ _ _ l.i l.invariant c.loop-i-test.true (sym w.is_fresh.ensures.fresh ∙ w.if-not-is_fresh.true)
    ])

pub loop-i-preserved : goal.loop-i-preserved
loop-i-preserved c =
    law.surveying_goes_on _ _ _ _ _ c.loop-i.invariant c.loop-i-test.true (sym c.is_entry.ensures ∙ c.if-not-is_entry.false)
    (sym c.is_fresh.ensures.fresh ∙ c.if-not-is_fresh.false) c.is_fresh.ensures.fingerprints c.with-seen.ensures

pub returns : goal.returns
returns c =
    law.told _ _ c.if-table-ne-SIZE.false _ c.entries_in-entries.ensures _
    (law.surveying_ends _ _ _ _ c.loop-i.i c.loop-i.invariant c.loop-i-test.false)
