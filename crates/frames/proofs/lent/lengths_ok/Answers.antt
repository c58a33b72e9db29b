-- `frames::lent::lengths_ok` meets its contract: the test holds of all lengths.
use Rattle.std.proofs.Common.{rules, refl}
use Rattle.std.proofs.lemmas.List.Recursion.{and_is}
use Rattle.frames.specs.Outcomes.{length_ok, lengths_ok}
use Rattle.frames.specs.PartLaws.{lengths_cons}
use Rattle.frames.proofs.lent.lengths_ok.Goals as goal

pub returns : goal.returns
unfolding lengths_ok
returns c = and_is (lengths_ok c.args.mtu) (length_ok c.args.mtu) refl (lengths_cons c.args.mtu) c.args.lengths.now 0 _ (search rules) (search rules)
