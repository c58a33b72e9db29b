-- `flight_fits`: the records before the index are passed.
use Rattle.std.proofs.Common.{refl, sym, ap, ◌∙◌, take}
use Rattle.records.specs.Tables.{blank}
use Rattle.checking.specs.Tests.{flown_by, flight_fits}
use Rattle.checking.specs.FlownLaws.{flown_fits}
use Rattle.checking.proofs.Turns.{carried_all, carried_next, carried_end, looked_all}
use Rattle.checking.proofs.flights.flight_fits.Goals as goal

pub loop-record-init : goal.loop-record-init
unfolding carried_all
loop-record-init c = refl

pub loop-record-preserved : goal.loop-record-preserved
loop-record-preserved c =
    carried_next _ _ _ (take c.min.result c.args.records.now) _ _ blank c.loop-record-test.true c.loop-record.carried _
    c.loop-record.invariant c.carry-carried.ensures

pub returns : goal.returns
returns c =
    let s = c.args in
    let rs = take c.min.result s.records.now in
    let passed = carried_end s.settings.mode s.flight.una s.flight.next rs _ _ c.loop-record-test.false c.loop-record.carried
    c.loop-record.invariant in
    c.flown.ensures ∙ ap (flown_by s.flight.una s.flight.next) (sym passed) ∙ flown_fits s.settings.mode s.flight.una s.flight.next rs
    ∙ ap (flight_fits s.settings.mode s.flight.una s.flight.next)
    (looked_all s.records.now s.flight.outstanding _ c.told-records c.min.ensures)
