-- Validity: after an accepted opening no list of calls ever gives 13, nor 7 for a lent part (7 is left for a read whose buffer is shorter
-- than the message), and the block that they leave is one that 13 does not refuse. From the promises of the public calls alone.
-- Assumes nothing.
use Rattle.std.specs.Prelude.{◌≡◌, true, List, ◌^◌, ◌<◌, Ok}
use Rattle.std.proofs.Common.{sym, ◌∙◌}
use Rattle.protocol.specs.Ranges.{in_range, mss}
use Rattle.protocol.specs.declared.Settings.{Settings}
use Rattle.sizes.specs.Sizes.{enough}
use Rattle.session.specs.Reading.{message_size, telling}
use Rattle.session.specs.Calls.{Call, Reply, Event, own}
use Rattle.session.specs.Decides.{All}
use Rattle.promises.specs.Parts.{lengths_of, state_in, is_made}
use Rattle.promises.specs.Outcomes.{tells_with, tells}
use Rattle.promises.specs.AnswerLaws.{count_number_lem}
use Rattle.delivery.specs.Hearing.{CallFits}
use Rattle.demands.specs.Steps.{Endpoint, Runs, start, next, SinceOpening}
use Rattle.demands.specs.Stations.{station_of}
use Rattle.demands.specs.Claims.{ShortBuffer, Passes, Each}
use Rattle.demands.proofs.Simulation.{Preserved, is_made_lem, is_long, own_call, preserved_call}
use Rattle.demands.proofs.RefusalLaws.{ShortRead, own_passes}
use Rattle.demands.proofs.RunLaws.{opens_preserved, taken, since_opening}
use Rattle.demands.specs.AlwaysValid.{Answered}

-- the size that the definition tells is the one promised
tells_size : (e : Endpoint) → enough (mss e.link.settings) (lengths_of e.parts) ≡ true → is_made e.link e.parts ≡ true
    → tells e.link e.parts ≡ telling (state_in e.link e.parts)
unfolding tells_with
tells_size e long made = rw (long, made)

module _ (c : Settings) (range : in_range c ≡ true) (conv : c.conv < 2 ^ 32) where
  short_buffer : (e : Endpoint) → Preserved c e → (x : Call) → ShortRead (station_of e) x → ShortBuffer e x
  short_buffer e k (Call.read room) h =
      let answer = sym (tells_size e (is_long c range conv e k) (is_made_lem c range conv e k) ∙ h.0) in
      let size = message_size (state_in e.link e.parts).receiving in
      (size, record { answer = answer; number = count_number_lem (Ok size) (tells e.link e.parts) answer }, h.1)
  short_buffer e k (Call.send m) h = h
  short_buffer e k (Call.take_in d) h = h
  short_buffer e k (Call.flush t) h = h
  short_buffer e k (Call.update t) h = h
  short_buffer e k (Call.check t) h = h

  answered : (e : Endpoint) (k : Preserved c e) (x : Call) (a : Reply) → (own (station_of e) x).answer ≡ a → Answered e x a
  answered e k x a q =
      let p : Passes (ShortRead (station_of e) x) a = rw q at (own_passes (station_of e) x) in
      record { made = p.made; lent = λ h. short_buffer e k x (p.lent h) }

  each_answered : {e e' : Endpoint} {xs : List Call} {events : List Event} (r : Runs e xs events e') → All CallFits xs → Preserved c e
      → Each Answered r
  each_answered start fits k = tt
  each_answered (next e x a e' h r) fits k = (
    answered e k x a (own_call c range conv e k x a e' fits.0 h).answer,
    each_answered r fits.1 (preserved_call c range conv e k x a e' fits.0 h),
  )

-- each call of any list passes the checks of 7 and 13, and so does the block that they leave
pub always_valid : (c : Settings) (calls : List Call) (events : List Event) (e : Endpoint) (h : SinceOpening c calls events e)
    → Each Answered h.runs × (is_made e.link e.parts ≡ true)
always_valid c calls events e h = (
  each_answered c (taken h).range h.conv h.runs h.fits (opens_preserved c h.first h.opens),
  is_made_lem c (taken h).range h.conv e (since_opening h).preserved,
)
