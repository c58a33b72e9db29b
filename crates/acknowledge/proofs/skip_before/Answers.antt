-- `skip_before` replaces each record in its place.
use borrow.Author.Rules.{rules}
use lib.ListN.{length-set}
use Rattle.lists.proofs.Loops.{packed_start}
use Rattle.lists.proofs.Writes.{packed_map}
use Rattle.records.specs.Tables.{blank}
use Rattle.acknowledge.proofs.skip_before.Goals as goal

pub loop-i-init : goal.loop-i-init
loop-i-init c = (c.told-records, packed_start _ _ _ (search rules) (search rules) c.requires c.told-records)

pub loop-i-preserved : goal.loop-i-preserved
loop-i-preserved c = (
  simp length-set c.loop-i.invariant.0,
  rw c.skipped.ensures
      (packed_map blank c.loop-i-test.true _ c.loop-i.invariant.1),
)
