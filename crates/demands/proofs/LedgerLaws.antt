-- The ledger of document 01: used send slots equal the fragments accepted less the segments acknowledged, over any calls since opening.
-- From the promises of the public calls alone: the slots are those that the block holds, the fragments those of the sends that were
-- accepted.
-- Assumes nothing.
use Rattle.std.specs.Prelude.{◌≡◌, refl, true, false, List, ◌^◌, ◌-◌, ◌<◌}
use Rattle.std.proofs.Common.{sym, ap, ◌∙◌, arith}
use Rattle.protocol.specs.Ranges.{in_range, mss, is_stream}
use Rattle.protocol.specs.declared.Settings.{Settings}
use Rattle.session.specs.Calls.{Station, Call, Event, accepted_list}
use Rattle.session.specs.Decides.{All}
use Rattle.promises.specs.Parts.{state_in}
use Rattle.delivery.specs.PlainReceiver.{segments_of}
use Rattle.delivery.specs.Hearing.{CallFits}
use Rattle.delivery.specs.AlwaysValid.{station_always_valid}
use Rattle.delivery.specs.Ledger as station
use Rattle.delivery.specs.Ledger.{used_slots, Ledger}
use Rattle.delivery.proofs.LedgerLaws as station-laws
use Rattle.demands.specs.Steps.{Endpoint, Runs, start, next, SinceOpening}
use Rattle.demands.specs.Stations.{station_of}
use Rattle.demands.specs.Claims.{segments_acknowledged, fragments_accepted}
use Rattle.demands.proofs.Simulation.{Preserved, preserved_call, step_call}
use Rattle.demands.proofs.RunLaws.{opens_station, opens_preserved, taken, since_opening}

-- what the calls acknowledge is what the station's do
acknowledged_same : (c : Settings) → in_range c ≡ true → c.conv < 2 ^ 32
    → {e e' : Endpoint} {xs : List Call} {events : List Event} (r : Runs e xs events e') → All CallFits xs → Preserved c e
    → segments_acknowledged r ≡ station.station_acknowledged (station_of e) xs
unfolding segments_acknowledged station.station_acknowledged
acknowledged_same c range conv start fits k = refl
acknowledged_same c range conv (next e x a e' h r) fits k =
    rw (
      step_call c range conv e k x a e' fits.0 h,
      acknowledged_same c range conv r fits.1 (preserved_call c range conv e k x a e' fits.0 h),
    )

-- what they accept is what the station's do
accepted_same : (c : Settings) → in_range c ≡ true → c.conv < 2 ^ 32 →
    {e e' : Endpoint} {xs : List Call} {events : List Event} (r : Runs e xs events e') → All CallFits xs → Preserved c e
    → fragments_accepted r ≡ station.station_accepted (station_of e) xs
unfolding fragments_accepted station.station_accepted
accepted_same c range conv start fits k = refl
accepted_same c range conv (next e x a e' h r) fits k =
    let k' = preserved_call c range conv e k x a e' fits.0 h in
    rw (step_call c range conv e k x a e' fits.0 h, accepted_same c range conv r fits.1 k')

module _ (c : Settings) (calls : List Call) (events : List Event) (e : Endpoint) (h : SinceOpening c calls events e) where
  pub ledger : Ledger (state_in e.link e.parts).sending (fragments_accepted h.runs) (segments_acknowledged h.runs)
  ledger =
      let s : Station = station_of h.first in
      let o = opens_station c h.first h.opens in
      let preserved = opens_preserved c h.first h.opens in
      rw (
        acknowledged_same c (taken h).range h.conv h.runs h.fits preserved,
        accepted_same c (taken h).range h.conv h.runs h.fits preserved,
        ap (λ (x : Station). x.state.sending) (since_opening h).now,
      )
      (station-laws.station_ledger c (taken h) s o calls h.fits (station_always_valid c (taken h) s o calls h.fits).0)

  -- word for word: used send slots equal the fragments accepted less the segments acknowledged
  pub ledger_less : used_slots (state_in e.link e.parts).sending ≡ fragments_accepted h.runs - segments_acknowledged h.runs
  ledger_less = omega (arith, ledger)

  -- in message mode the fragments accepted are those of the messages accepted
  pub fragments_of_messages : is_stream c ≡ false → fragments_accepted h.runs ≡ segments_of (mss c) (accepted_list events)
  fragments_of_messages off =
      let s : Station = station_of h.first in
      let o = opens_station c h.first h.opens in
      let preserved = opens_preserved c h.first h.opens in
      accepted_same c (taken h).range h.conv h.runs h.fits preserved
      ∙ station-laws.station_messages c off calls s preserved.order.sends.settings
      (station_always_valid c (taken h) s o calls h.fits).0
      ∙ ap (λ (l : List Event). segments_of (mss c) (accepted_list l)) (sym (since_opening h).events_are)
