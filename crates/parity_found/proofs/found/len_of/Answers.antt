-- `parity_found::found::len_of` meets its contract: its first two bytes.
use Rattle.std.proofs.Common.{◌∙◌, rules}
use Rattle.parity_found.specs.FoundLaws.{whole_len}
use Rattle.parity_found.proofs.found.len_of.Goals as goal

pub returns : goal.returns
returns c = (whole_len _ _ _ c.found_shard.ensures _ (c.from.ensures ∙ c.read.ensures), search rules)
