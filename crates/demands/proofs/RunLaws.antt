-- Lists of calls since an accepted opening: their answers are the station's, and so is what they leave.
-- Assumes nothing.
use Rattle.std.specs.Prelude.{◌≡◌, refl, Bool, true, false, cond, List, ℕ, ◌^◌, ◌<◌, Err, Ok}
use Rattle.std.proofs.Common.{arith}
use Rattle.protocol.specs.Protocol.{output_least, lengths_least}
use Rattle.protocol.specs.Ranges.{in_range, mss}
use Rattle.protocol.specs.declared.Settings.{Settings}
use Rattle.protocol.specs.declared.Refusal.{Refusal}
use Rattle.protocol.specs.declared.Refusal.TheVariants.{ShortPart, SettingOutOfRange}
use Rattle.sizes.specs.Sizes.{enough}
use Rattle.session.specs.State.{Outcome}
use Rattle.session.specs.Opening.{opened, opening}
use Rattle.session.specs.Calls.{Call, Event, history, after}
use Rattle.session.specs.Decides.{All}
use Rattle.control.specs.Views.{counts_fit}
use Rattle.control.specs.declared.Link.{Link}
use Rattle.promises.specs.Parts.{Parts, lengths_of, state_in}
use Rattle.promises.specs.Answers.{Accepts}
use Rattle.promises.specs.Promises.{OpenLeaves}
use Rattle.delivery.specs.Hearing.{Taken, CallFits}
use Rattle.delivery.specs.Stations.{Opened}
use Rattle.delivery.specs.AlwaysValid.{opened_all}
use Rattle.demands.specs.Steps.{Endpoint, Runs, start, next, Opens, SinceOpening}
use Rattle.demands.specs.Stations.{station_of}
use Rattle.demands.proofs.Simulation.{Preserved, long_flush, preserved_call, step_call}
use Rattle.answers.specs.Answers.{Answer}

-- ---- opening

-- what an accepted opening with the settings c leaves
record Fresh (c : Settings) (l : Link) (p : Parts) : Type 0 where
  range : in_range c ≡ true
  long : enough (mss c) (lengths_of p) ≡ true
  counts : counts_fit l ≡ true
  state : state_in l p ≡ opened c

refusal_not_accepted : {A : Type 0} {r : Refusal} → ◌≡◌ {A = Answer} (Ok tt) (Err r) → A
refusal_not_accepted e = absurd (let z : ◌≡◌ {A = ℕ} 0 1 = cc in omega arith)

fresh : (c : Settings) (block l : Link) (lent p : Parts) → Accepts (Ok tt) (opening c (lengths_of lent))
    → OpenLeaves (opening c (lengths_of lent)) block l lent p → Fresh c l p
unfolding opening
fresh c block l lent p = go (in_range c) refl (enough (mss c) (lengths_of lent)) refl
  where
    go : (a : Bool) → in_range c ≡ a → (b : Bool) → enough (mss c) (lengths_of lent) ≡ b
        → Accepts (Ok tt) (cond a (cond b (Outcome.done (opened c)) (Outcome.refused ShortPart))
        (Outcome.refused SettingOutOfRange))
        → OpenLeaves (cond a (cond b (Outcome.done (opened c)) (Outcome.refused ShortPart)) (Outcome.refused SettingOutOfRange)) block l
        lent p
        → Fresh c l p
    go true e true f ans h = record { range = e; long = rw h.1 f; counts = h.0.counts; state = h.0.state }
    go true e false f ans h = refusal_not_accepted ans
    go false e b f ans h = refusal_not_accepted ans

module _ (c : Settings) (e : Endpoint) (o : Opens c e) where
  is_fresh_lem : Fresh c e.link e.parts
  is_fresh_lem = fresh c o.block e.link o.lent e.parts o.promise.answer o.promise.leaves

  pub opens_range : in_range c ≡ true
  opens_range = is_fresh_lem.range

  -- it is an accepted opening of its station
  pub opens_station : Opened c (station_of e)
  opens_station = record {
    state = is_fresh_lem.state;
    long = long_flush (mss c) (lengths_of e.parts) output_least lengths_least is_fresh_lem.long (omega arith) (omega arith);
  }

  pub opens_preserved : Preserved c e
  opens_preserved = record { counts = is_fresh_lem.counts; order = opened_all c (station_of e) opens_station }

-- ---- lists of calls

-- the events are the station's, and the station after the calls is that of the endpoint after them
pub record Follows (c : Settings) (e : Endpoint) (xs : List Call) (events : List Event) (e' : Endpoint) : Type 0 where
  pub events_are : events ≡ history (station_of e) xs
  pub now : station_of e' ≡ after (station_of e) xs
  pub preserved : Preserved c e'

module _ (c : Settings) (range : in_range c ≡ true) (conv : c.conv < 2 ^ 32) where
  pub follows : {e e' : Endpoint} {xs : List Call} {events : List Event} → Runs e xs events e' → All CallFits xs → Preserved c e
      → Follows c e xs events e'
  unfolding history after
  follows start fits k = record { events_are = refl; now = refl; preserved = k }
  follows (next e x a e' h r) fits k =
      let s = step_call c range conv e k x a e' fits.0 h in
      let f = follows r fits.1 (preserved_call c range conv e k x a e' fits.0 h) in
      record { events_are = rw (s, f.events_are); now = rw s f.now; preserved = f.preserved }

-- ---- since opening

module _ {c : Settings} {calls : List Call} {events : List Event} {e : Endpoint} (h : SinceOpening c calls events e) where
  pub taken : Taken c
  taken = record { range = opens_range c h.first h.opens; conv = h.conv }

  pub since_opening : Follows c h.first calls events e
  since_opening = follows c taken.range h.conv h.runs h.fits (opens_preserved c h.first h.opens)
