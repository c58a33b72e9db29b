-- `tag_find::ask_defaults` meets its contract: what is found lies in its table.
use Rattle.std.proofs.Common.{arith}
use Rattle.tag_find.specs.FindingLaws as finding
use Rattle.tag_find.proofs.ask_defaults.Goals as goal

pub of-requires : goal.of-requires
of-requires c = omega (arith, finding.in_defaults_table _ _ _ _ c.find.ensures c.in-Ok-Some-Defaults.part (cc))
