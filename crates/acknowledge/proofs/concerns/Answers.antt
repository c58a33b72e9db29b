-- `concerns`: two tests, which say that no outstanding number is acknowledged.
use borrow.Author.Rules.{rules}
use Rattle.acknowledge.proofs.Concern.{concerns_is}
use Rattle.acknowledge.proofs.concerns.Goals as goal

pub returns : goal.returns
returns c = concerns_is _ _ _ _ (search rules) (search rules) (search rules) (cc)
