-- `put_outstanding`: the first i segments have been handled.
use Rattle.std.specs.Prelude.{◌≡◌, Option, Some}
use Rattle.std.proofs.Common.{refl, ◌∙◌}
use denote.Enum.Bare.{sameb}
use Rattle.retransmission.specs.contracts.Cause.{the_type}
use Rattle.retransmission.specs.declared.Cause.{Cause}
use Rattle.retransmission.specs.declared.Cause.TheVariants.{First, Late, Fast}
use Rattle.retransmission.specs.Transmissions.{is_by}
use Rattle.records.specs.Tables.{blank}
use Rattle.numbering.proofs.SentLaws.{sents_take}
use Rattle.transmit.proofs.WalkLaws.{walking_start, walking_room, walking_inside, walking_sent, walking_unchanged, walking_done}
use Rattle.transmit.proofs.transmitting.put_outstanding.Goals as goal

-- the tests of a cause are those of the definition
by_late : (o : Option Cause) (a : Cause) → o ≡ Some a → sameb the_type a Late ≡ is_by Late o
by_late o First e = rw e
by_late o Late e = rw e
by_late o Fast e = rw e

by_fast : (o : Option Cause) (a : Cause) → o ≡ Some a → sameb the_type a Fast ≡ is_by Fast o
by_fast o First e = rw e
by_fast o Late e = rw e
by_fast o Fast e = rw e

pub loop-i-init : goal.loop-i-init
loop-i-init c =
    let p = c.requires in
    walking_start _ _ _ _ _ _ _ p.1 p.2.count p.2.whole p.2.wholes p.2.whole_records p.0.fills

pub put_sent-requires : goal.put_sent-requires
put_sent-requires c =
    let a = c.args in
    let p = c.requires in
    let w = c.loop-i.invariant in
    let here = c.loop-i-test.true in (
      walking_room _ _ _ _ _ _ _ _ _ _ _ w here p.0,
      p.2.mtu,
      w.suits,
      walking_inside _ _ _ _ _ _ _ _ _ _ _ w here p.2.whole blank _
          (rw (← (sents_take a.words.now a.transmissions.now a.records.now a.n)) p.2.inside),
      p.2.slots,
    )

pub loop-i-preserved-in_default : goal.loop-i-preserved-in_default
loop-i-preserved-in_default c =
    walking_unchanged _ _ _ _ _ _ _ _ _ _ _ c.loop-i.invariant c.loop-i-test.true c.requires.2.whole blank _ c.transmission-x.ensures
    (rw c.in_default.is)

pub loop-i-preserved : goal.loop-i-preserved
loop-i-preserved c =
    let sent = c.in-Some.is in
    rw (c.eq.ensures ∙ by_late _ _ sent, c.eq-in-loop-i.ensures ∙ by_fast _ _ sent)
    (walking_sent _ _ _ _ _ _ _ _ _ _ _ c.loop-i.invariant c.loop-i-test.true c.requires.2.whole blank _ c.transmission-x.ensures _
    (rw sent) c.put_sent.ensures.same c.put_sent.ensures.adds)

pub returns-clause-walks : goal.returns-clause-walks
returns-clause-walks c =
    walking_done _ _ _ _ _ _ _ _ _ _ _ c.loop-i.invariant _ _ refl c.requires.2.whole c.loop-i-test.false
