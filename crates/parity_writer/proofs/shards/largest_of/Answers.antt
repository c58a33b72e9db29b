-- `parity_writer::shards::largest_of` meets its contract.
use Rattle.std.proofs.Common.{refl, arith, rules}
use Rattle.std.proofs.lemmas.Grind.{common_steps}
use Rattle.std.proofs.lemmas.List.Recursion.{max_bounds, max_least}
use Rattle.frames.specs.Lists.{largest}
use Rattle.parity_writer.proofs.shards.largest_of.Goals as goal

pub returns : goal.returns
unfolding largest
returns c =
    let bounds = max_bounds largest (λ x. x) refl (λ _ _. refl) c.args.lengths.now in
    let least = max_least largest (λ x. x) refl (λ _ _. refl) c.args.lengths.now 0 c.unwrap_or.result (search rules) in
    grind (arith, common_steps, bounds, least)
