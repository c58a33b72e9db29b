-- Request 2026-05, once over both modes and all calls since opening: queued payloads joined are the bytes accepted and not yet numbered.
-- From the promises of the public calls alone: lent and changed as demand 3 says (`SinceOpening`), whatever is taken in, refused calls
-- included.
-- Assumes nothing.
use Rattle.std.specs.Prelude.{List}
use Rattle.protocol.specs.declared.Settings.{Settings}
use Rattle.session.specs.Calls.{Station, Call, Event}
use Rattle.delivery.specs.AlwaysValid.{station_always_valid}
use Rattle.delivery.specs.QueuedBytes as station
use Rattle.demands.specs.Steps.{Endpoint, SinceOpening}
use Rattle.demands.specs.Stations.{station_of}
use Rattle.demands.specs.Claims.{QueuedBytes}
use Rattle.demands.proofs.RunLaws.{opens_station, taken, since_opening}

pub queued_bytes_lem : (c : Settings) (calls : List Call) (events : List Event) (e : Endpoint) → SinceOpening c calls events e →
    QueuedBytes c events e
queued_bytes_lem c calls events e h =
    let s : Station = station_of h.first in
    let o = opens_station c h.first h.opens in
    let v = (station_always_valid c (taken h) s o calls h.fits).0 in
    let f = since_opening h in
    rw f.events_are
    (record {
      next = rw (← f.now) at (station.numbered_count_lem c (taken h) s o calls h.fits v);
      accepted = rw (← f.now) at (station.accepted_bytes c (taken h) s o calls h.fits v);
      queued = rw (← f.now) at (station.queued_bytes_lem c (taken h) s o calls h.fits v);
    })
