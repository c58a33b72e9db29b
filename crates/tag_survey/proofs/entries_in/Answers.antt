-- `tag_survey::entries_in` meets its contract: a table has 64 entries.
use Rattle.std.proofs.Common.{ℕ, ◌/◌, ap, ◌∙◌}
use Rattle.std.specs.Simd.{first_chunks}
use Rattle.tag_survey.specs.Tables.{entries_in}
use Rattle.tag_survey.proofs.entries_in.Goals as goal

pub returns : goal.returns
unfolding entries_in
returns c = c.as_chunks.ensures.front ∙ ap (λ (n : ℕ). first_chunks 98 (n / 98) c.args.table.now) c.requires
