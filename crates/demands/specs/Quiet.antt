-- What the time that a check names is worth: "From now until just before the named time, with no call but such updates, no update flushes
-- and no segment falls due." Times need not rise; "just before" is by the distance from now, counting forward. Definitions.
-- Assumes nothing.
use Rattle.std.specs.Prelude.{◌≡◌, true, false, List, [], ◌∷◌, ◌⊎◌, ℕ, ◌^◌, ◌≤◌, ◌<◌, Err, None, Ok, Some}
use Rattle.protocol.specs.Serial.{minus, is_due}
use Rattle.protocol.specs.declared.Refusal.{Refusal}
use Rattle.lists.specs.declared.Sent.{Sent}
use Rattle.schedule.specs.ScheduleLaws.{any_due}
use Rattle.session.specs.State.{State, with_times}
use Rattle.session.specs.Updating.{dues}
use Rattle.session.specs.Decides.{All}
use Rattle.promises.specs.Parts.{FlushParts, state_in}
use Rattle.promises.specs.Promises.{UpdatePromise}
use Rattle.demands.specs.Steps.{Endpoint, Room}
use Rattle.answers.specs.Answers.{Update}

-- the time t is from now until just before the named time
pub record Within (now named t : ℕ) : Type 0 where
  pub fits : t < 2 ^ 32
  pub before : minus t now < minus named now

-- no call but updates at these times, with these answers, each into any output and lengths; each gets block and parts as the last one
-- left them
pub data Updates : Endpoint → List ℕ → List Update → Endpoint → Type 0 where
  start : {e : Endpoint} → Updates e [] [] e
  next : (e : Endpoint) (t : ℕ) (a : Update) (e' : Endpoint) (f f' : FlushParts)
      {ts : List ℕ} {given : List Update} {e'' : Endpoint}
      → UpdatePromise t e.link e.parts f a e'.link e'.parts f'
      → Updates e' ts given e'' → Updates e (t ∷ ts) (a ∷ given) e''

-- the answer of an update that does not flush
pub data Idle : Update → Type 0 where
  waited : Idle (Ok None)
  refused : (r : Refusal) → Idle (Err r)

-- no outstanding segment is due at t
abbrev pub NoneDue : ℕ → State → Type 0
NoneDue t s = All (λ (x : Sent). is_due t x.record.due ≡ false) s.sending.outstanding

-- e is the endpoint at the check, e' the one after the updates: none of them flushed, all but the current time is as it was, and at every
-- time of the span, updated at or not, no segment is due
pub record StaysQuiet (now named : ℕ) (e : Endpoint) (given : List Update) (e' : Endpoint) : Type 0 where
  pub idle : All Idle given
  pub parts : e'.parts ≡ e.parts
  pub current : ℕ
  pub state : state_in e'.link e'.parts ≡ with_times (state_in e.link e.parts) current (state_in e.link e.parts).schedule
  pub none_due : (t : ℕ) → Within now named t → NoneDue t (state_in e'.link e'.parts)

-- every update at t that has output and lengths as document 01 states flushes
abbrev pub FlushesAt : ℕ → Endpoint → Type 0
FlushesAt t e =
    (a : Update) (e' : Endpoint) (f f' : FlushParts) → Room f
    → UpdatePromise t e.link e.parts f a e'.link e'.parts f'
    → (n : ℕ) × (a ≡ Ok (Some n))

-- and the named time is no sooner than it need be: it is one interval away, or an update then flushes, or a segment is due then
pub record NoSooner (now named : ℕ) (e : Endpoint) : Type 0 where
  pub within : minus named now ≤ e.link.settings.interval
  pub wanted : minus named now < e.link.settings.interval
      → FlushesAt named e ⊎ (any_due named (dues (state_in e.link e.parts)) ≡ true)
