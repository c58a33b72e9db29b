-- From the calls of two ends to the calls of their stations: what ties the stations holds after all moves, a receiver that has read until
-- 9 is so still, and arrivals are fed to the station. So one good round trip is enough where pushes are few.
-- A proof layer: no statement cites it.
-- Assumes nothing.
use Rattle.std.specs.Prelude.{◌≡◌, refl, true, ℕ, ◌^◌, ◌<◌}
use Rattle.std.proofs.Common.{sym, ◌∙◌}
use Rattle.std.proofs.Math.Path.{ap, subst}
use mathlib.Core.List.{List, [], ◌∷◌, ◌++◌, map}
use Rattle.protocol.specs.Ranges.{in_range}
use Rattle.protocol.specs.declared.Settings.{Settings}
use Rattle.protocol.specs.declared.Refusal.TheVariants.{NoMessage}
use Rattle.wire.specs.LittleEndian.{AllBytes}
use Rattle.session.proofs.ValidDecides.{receiving_decides}
use Rattle.session.specs.Calls.{Station, Call, Reply, Event, own, datagrams_in, datagrams_by}
use Rattle.session.specs.Decides.{All}
use Rattle.session.specs.AllLaws.{all_left, all_right, all_unmapped}
use Rattle.control.specs.Views.{state_of}
use Rattle.delivery.specs.Hearing.{CallFits, FewPushes}
use Rattle.delivery.specs.PlainReceiver.{pushes_in}
use Rattle.demands.specs.Steps.{Endpoint, Called, Runs, start, next}
use Rattle.demands.specs.Stations.{station_of}
use Rattle.demands.proofs.Simulation.{Preserved, own_call, preserved_call}
use Rattle.demands.proofs.RunLaws.{opens_station, opens_preserved, taken, since_opening}
use Rattle.progress.specs.TwoEnds.{
  Move,
  at_a,
  at_b,
  events_of_a,
  events_of_b,
  calls_of,
  MadeBy,
  TakesOneOf,
  TakesNone,
  HeardFrom,
  HeardOnlyEachOther,
  ReadUntil9,
  GoodRoundTrip,
  Passed,
}
use Rattle.progress.specs.Joint.{Joint, exchanged, joint_step, joint_opened}
use Rattle.progress.proofs.Trip.{fed, Nine, nine_given, nine_stays, passed}

-- ---- lists of calls, the first and the others

abbrev Splits : Endpoint → List Call → List Event → Endpoint → Type 0
Splits e [] events e'' = e ≡ e''
Splits e (x ∷ xs) [] e'' = ⊥
Splits e (x ∷ xs) (y ∷ events) e'' = (e' : Endpoint) × Called e x y.answer e' × Runs e' xs events e''

split : {e e'' : Endpoint} {xs : List Call} {events : List Event} → Runs e xs events e'' → Splits e xs events e''
split start = refl
split (next e x a e' h r) = (e', h, r)

-- ---- few pushes in two lists of datagrams

module _ (c : Settings) (l r : List (List ℕ)) where
  few_left : FewPushes c (l ++ r) → FewPushes c l
  few_left = all_left (λ (d : List ℕ). All (λ (sn : ℕ). sn < 2 ^ 30) (pushes_in c d)) l r

  few_right : FewPushes c (l ++ r) → FewPushes c r
  few_right = all_right (λ (d : List ℕ). All (λ (sn : ℕ). sn < 2 ^ 30) (pushes_in c d)) l r

-- the read that gave 9
abbrev nine_event : ℕ → Event
nine_event room = record { call = Call.read room; answer = Reply.refused NoMessage }

module _ (c : Settings) (range : in_range c ≡ true) (conv32 : c.conv < 2 ^ 32) where
  -- ---- one call of an end

  call_joint : (a b a' : Endpoint) (by_a by_b : List (List ℕ)) (x : Call) (y : Reply) → Preserved c a → CallFits x → Called a x y a'
      → TakesOneOf by_b x → FewPushes c (datagrams_in y) → Joint c (station_of a) by_a (station_of b) by_b
      → Joint c (station_of a') (by_a ++ datagrams_in y) (station_of b) by_b
  call_joint a b a' by_a by_b x y k fits h from few j =
      let s = own_call c range conv32 a k x y a' fits h in
      rw (s.station, s.answer) at
      (joint_step c range conv32 (station_of a) (station_of b) by_a by_b x fits from (rw s.answer few) j)

  -- ---- the moves of both

  record Moved (a b : Endpoint) : Type 0 where
    by_a : List (List ℕ)
    by_b : List (List ℕ)
    joint : Joint c (station_of a) by_a (station_of b) by_b

  joint_moves : (ms : List Move) (a b a'' b'' : Endpoint) (by_a by_b : List (List ℕ))
      → Runs a (calls_of (events_of_a ms)) (events_of_a ms) a'' → Runs b (calls_of (events_of_b ms)) (events_of_b ms) b''
      → All CallFits (calls_of (events_of_a ms)) → All CallFits (calls_of (events_of_b ms))
      → FewPushes c (datagrams_by (events_of_a ms)) → FewPushes c (datagrams_by (events_of_b ms))
      → HeardFrom by_a by_b ms → Preserved c a → Preserved c b → Joint c (station_of a) by_a (station_of b) by_b → Moved a'' b''
  unfolding events_of_a events_of_b datagrams_by
  joint_moves [] a b a'' b'' by_a by_b ra rb fa fb sa sb h ka kb j = record { by_a = by_a; by_b = by_b; joint = rw (split ra, split rb) at j }
  joint_moves (at_a x y ∷ ms) a b a'' b'' by_a by_b ra rb fa fb sa sb h ka kb j =
      let p = split ra in
      let later = datagrams_by (events_of_a ms) in
      joint_moves ms p.0 b a'' b'' (by_a ++ datagrams_in y) by_b p.2 rb fa.1 fb (few_right c (datagrams_in y) later sa) sb h.1
      (preserved_call c range conv32 a ka x y p.0 fa.0 p.1) kb
      (call_joint a b p.0 by_a by_b x y ka fa.0 p.1 h.0 (few_left c (datagrams_in y) later sa) j)
  joint_moves (at_b x y ∷ ms) a b a'' b'' by_a by_b ra rb fa fb sa sb h ka kb j =
      let p = split rb in
      let later = datagrams_by (events_of_b ms) in
      joint_moves ms a p.0 a'' b'' by_a (by_b ++ datagrams_in y) ra p.2 fa fb.1 sa (few_right c (datagrams_in y) later sb) h.1
      ka (preserved_call c range conv32 b kb x y p.0 fb.0 p.1)
      (exchanged (call_joint b a p.0 by_b by_a x y kb fb.0 p.1 h.0 (few_left c (datagrams_in y) later sb) (exchanged j)))

  -- ---- read until 9

  nine_since : (since : List Event) (e e'' : Endpoint) → Runs e (calls_of since) since e'' → All CallFits (calls_of since)
      → All TakesNone since → Preserved c e → Nine (station_of e).state.receiving → Nine (station_of e'').state.receiving
  nine_since [] e e'' r fits none k n = subst (λ (x : Endpoint). Nine (station_of x).state.receiving) (split r) n
  nine_since (y ∷ since) e e'' r fits none k n =
      let p = split r in
      let s = own_call c range conv32 e k y.call y.answer p.0 fits.0 p.1 in
      let k' = preserved_call c range conv32 e k y.call y.answer p.0 fits.0 p.1 in
      nine_since since p.0 e'' p.2 fits.1 none.1 k'
      (subst (λ (x : Station). Nine x.state.receiving) s.station (nine_stays (station_of e) y.call none.0 n))

  nine_after : (before : List Event) (room : ℕ) (since : List Event) (e e'' : Endpoint)
      → Runs e (calls_of (before ++ (nine_event room ∷ since))) (before ++ (nine_event room ∷ since)) e''
      → All CallFits (calls_of (before ++ (nine_event room ∷ since))) → All TakesNone since → Preserved c e
      → Nine (station_of e'').state.receiving
  nine_after [] room since e e'' r fits none k =
      let p = split r in
      let half = (station_of e).state.receiving in
      let s = own_call c range conv32 e k (Call.read room) (Reply.refused NoMessage) p.0 tt p.1 in
      let k' = preserved_call c range conv32 e k (Call.read room) (Reply.refused NoMessage) p.0 tt p.1 in
      nine_since since p.0 e'' p.2 fits.1 none k'
      (subst (λ (x : Station). Nine x.state.receiving) s.station
      (nine_given c (station_of e) room ((receiving_decides c half).holds k.order.receives.valid) s.answer))
  nine_after (y ∷ before) room since e e'' r fits none k =
      let p = split r in
      nine_after before room since p.0 e'' p.2 fits.1 none
      (preserved_call c range conv32 e k y.call y.answer p.0 fits.0 p.1)

  -- ---- arrivals

  record Fed (e e' : Endpoint) (ds : List (List ℕ)) : Type 0 where
    station : station_of e' ≡ fed (station_of e) ds
    preserved : Preserved c e'

  fed_runs : (ds : List (List ℕ)) (e e'' : Endpoint) (events : List Event) → Runs e (map Call.take_in ds) events e'' → All AllBytes ds
      → Preserved c e → Fed e e'' ds
  unfolding fed
  fed_runs [] e e'' events r bytes k = subst (λ (x : Endpoint). Fed e x []) (split r) (record { station = refl; preserved = k })
  fed_runs (d ∷ ds) e e'' [] r bytes k = absurd (split r)
  fed_runs (d ∷ ds) e e'' (y ∷ events) r bytes k =
      let p = split r in
      let s = own_call c range conv32 e k (Call.take_in d) y.answer p.0 bytes.0 p.1 in
      let k' = preserved_call c range conv32 e k (Call.take_in d) y.answer p.0 bytes.0 p.1 in
      let i = fed_runs ds p.0 e'' events p.2 bytes.1 k' in
      record { station = i.station ∙ ap (λ (x : Station). fed x ds) (sym s.station); preserved = i.preserved }

-- ONE GOOD ROUND TRIP IS ENOUGH where the pushes of both ends carry numbers below 2^30, as demand 3 says it of its sender
pub passed_by_pushes : (c : Settings) (moves : List Move) (a b a'' : Endpoint)
    → MadeBy c (events_of_a moves) a
    → MadeBy c (events_of_b moves) b
    → HeardOnlyEachOther moves
    → ReadUntil9 (events_of_b moves)
    → (trip : GoodRoundTrip c a b a'')
    → FewPushes c (datagrams_by (events_of_a moves) ++ trip.there.writes)
    → FewPushes c (datagrams_by (events_of_b moves) ++ trip.back.writes)
    → Passed a.link.flight.una a''.link.flight.una
unfolding state_of
passed_by_pushes c moves a b a'' ha hb heard read trip few_a few_b =
    let range = (taken ha).range in
    let conv32 = ha.conv in
    let fresh-a = opens_preserved c ha.first ha.opens in
    let fresh-b = opens_preserved c hb.first hb.opens in
    let m =
    joint_moves c range conv32 moves ha.first hb.first a b [] [] ha.runs hb.runs ha.fits hb.fits
    (few_left c (datagrams_by (events_of_a moves)) trip.there.writes few_a)
    (few_left c (datagrams_by (events_of_b moves)) trip.back.writes few_b)
    heard fresh-a fresh-b
    (joint_opened c (station_of ha.first) (station_of hb.first) (opens_station c ha.first ha.opens)
    (opens_station c hb.first hb.opens)) in
    let nine =
    nine_after c range conv32 read.before read.room read.since hb.first b
    (subst (λ (l : List Event). Runs hb.first (calls_of l) l b) read.are hb.runs)
    (subst (λ (l : List Event). All CallFits (calls_of l)) read.are hb.fits)
    read.unheard fresh-b in
    let f = trip.there in
    let g = trip.back in
    let ka = (since_opening ha).preserved in
    let bytes = all_unmapped CallFits Call.take_in f.arrivals f.fits.1 in
    let bytes' = all_unmapped CallFits Call.take_in g.arrivals g.fits.1 in
    let sa = own_call c range conv32 a ka f.call (Reply.wrote f.writes) trip.a' f.fits.0 f.flushes in
    let ka' = preserved_call c range conv32 a ka f.call (Reply.wrote f.writes) trip.a' f.fits.0 f.flushes in
    let fb = fed_runs c range conv32 f.arrivals b trip.b' f.events f.hears bytes (since_opening hb).preserved in
    let sb = own_call c range conv32 trip.b' fb.preserved g.call (Reply.wrote g.writes) trip.b'' g.fits.0 g.flushes in
    let fa = fed_runs c range conv32 g.arrivals trip.a' a'' g.events g.hears bytes' ka' in
    subst (λ (s : Station). Passed a.link.flight.una s.state.sending.una)
    (ap (λ (x : Station). fed x g.arrivals) sa.station ∙ sym fa.station)
    (passed c range conv32 (station_of a) (station_of b) m.by_a m.by_b f.call g.call f.writes g.writes
    f.arrivals g.arrivals m.joint nine f.fits.0 g.fits.0 bytes bytes'
    sa.answer
    (ap (λ (x : Station). (own x g.call).answer) (sym fb.station) ∙ sb.answer)
    f.all_arrive g.all_arrive
    (few_right c (datagrams_by (events_of_a moves)) f.writes few_a)
    (few_right c (datagrams_by (events_of_b moves)) g.writes few_b)
    trip.goes_out)
