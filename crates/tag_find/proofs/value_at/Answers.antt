-- `tag_find::value_at` meets its contract.
use Rattle.tag_find.specs.FindingLaws as finding
use Rattle.tag_find.proofs.value_at.Goals as goal

pub returns : goal.returns
returns c = finding.value_at_lem c.args.table.now c.args.i c.requires.1 _ c.from.ensures
