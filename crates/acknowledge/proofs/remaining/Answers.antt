-- `remaining` writes the segments that stay to the front, with their transmissions and records.
use mathlib.Core.Path.{sym, ◌∙◌}
use borrow.Author.Rules.{rules}
use lib.ListN.{length-set}
use Rattle.lists.proofs.Loops.{packed_start, packed_done}
use Rattle.lists.proofs.Writes.{select_end}
use Rattle.records.specs.Tables.{blank}
use Rattle.acknowledge.proofs.Removal.{beside_length, beside_front, in_front_lem, removal_stays, removal_drops}
use Rattle.acknowledge.proofs.remaining.Goals as goal

pub loop-i-init : goal.loop-i-init
loop-i-init c =
    let long = beside_length _ _ _ _ c.told-words c.told-transmissions c.told-records in
    (c.told-words, c.told-transmissions, c.told-records, packed_start _ _ _ (search rules) (search rules) (search rules) long)

pub loop-i-preserved-then-not-stays : goal.loop-i-preserved-then-not-stays
loop-i-preserved-then-not-stays c =
    let l = c.loop-i in (
      l.invariant.0,
      l.invariant.1,
      l.invariant.2,
      removal_drops _ _ _ blank _ c.loop-i-test.true l.invariant.0 l.invariant.1 l.invariant.3
          (sym c.stays.ensures ∙ c.if-not-stays.true),
    )

pub loop-i-preserved : goal.loop-i-preserved
loop-i-preserved c =
    let l = c.loop-i in (
      simp length-set l.invariant.0,
      simp length-set l.invariant.1,
      simp length-set l.invariant.2,
      removal_stays _ _ _ blank _ c.loop-i-test.true l.invariant.0 l.invariant.1 l.invariant.3
          (sym c.stays.ensures ∙ c.if-not-stays.false),
    )

pub returns : goal.returns
returns c =
    let a = c.args in
    let l = c.loop-i.invariant in (
      rw (← (beside_front a.words.now a.transmissions.now a.records.now a.n))
          (in_front_lem _ _ _ _ _ l.0 l.1 (packed_done (select_end _ _ _ _ c.loop-i-test.false) l.3)),
      l.2,
    )
