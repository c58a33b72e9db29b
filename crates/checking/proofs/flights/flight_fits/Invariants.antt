-- `flight_fits`: the records before the index are passed.
use Rattle.std.proofs.Common.{◌≡◌, drop}
use Rattle.checking.specs.Tests.{least_after_all}
use Rattle.checking.proofs.Turns.{carried_all}
use Rattle.checking.proofs.flights.flight_fits.Given as goal

abbrev pub invariant-loop-record : goal.invariant-loop-record
invariant-loop-record l =
    least_after_all l.settings.mode l.flight.una l.flight.next 0 l.record-items
    ≡ carried_all l.settings.mode l.flight.una l.flight.next l.carried (drop l.record-index l.record-items)
