-- From now until just before the time that a check names, with no call but such updates, no update flushes and no segment falls due; and
-- that time is no sooner than it need be. From the promises of the public calls alone.
-- Assumes nothing.
use Rattle.std.specs.Prelude.{◌≡◌, refl, Bool, true, false, List, [], ◌∷◌, map, ◌⊎◌, ℕ, ◌^◌, ◌<◌, length, Ok}
use Rattle.std.proofs.Common.{◌∙◌, subst, arith}
use Rattle.std.proofs.Math.Logic.{inl, inr, ⊎_elim}
use Rattle.protocol.specs.Ranges.{mss}
use Rattle.protocol.specs.Serial.{is_due}
use Rattle.protocol.specs.declared.Settings.{Settings}
use Rattle.protocol.specs.declared.Refusal.TheVariants.{ShortPart, InvalidBlock}
use Rattle.timing.specs.TimeRanges.{RecordFits}
use Rattle.lists.specs.declared.Sent.{Sent}
use Rattle.sizes.specs.Sizes.{enough, enough_to_flush}
use Rattle.schedule.specs.Schedules.{updated}
use Rattle.schedule.specs.ScheduleLaws as schedule
use Rattle.schedule.specs.Quiet as schedule-quiet
use Rattle.session.specs.State.{State, Outcome, with_times, with_schedule}
use Rattle.session.specs.Flushing.{flushing}
use Rattle.session.specs.Updating as session
use Rattle.session.specs.Updating.{dues, updating, checking}
use Rattle.session.specs.Calls.{Call, Event}
use Rattle.session.specs.Decides.{All}
use Rattle.session.specs.AllLaws.{all_weaker}
use Rattle.control.specs.Views.{state_of}
use Rattle.promises.specs.Parts.{FlushParts, lengths_of, state_in, is_made}
use Rattle.promises.specs.Outcomes.{checked, updates_with, checks_with}
use Rattle.promises.specs.Answers.{update_answer}
use Rattle.promises.specs.Promises.{UpdateLeaves, UpdatePromise, CheckPromise}
use Rattle.delivery.specs.CallCases.{scheduled_at}
use Rattle.demands.specs.Steps.{Endpoint, SinceOpening}
use Rattle.demands.proofs.Simulation.{long_flush}
use Rattle.demands.proofs.RunLaws.{since_opening}
use Rattle.demands.specs.Quiet.{Within, Updates, start, next, Idle, waited, refused, NoneDue, StaysQuiet, FlushesAt, NoSooner}
use Rattle.demands.specs.QuietLaws.{Fits}
use Rattle.answers.specs.Answers.{Update}

each : (P : ℕ → Type 0) (l : List Sent) → All (λ (x : Sent). P x.record.due) l → schedule.Each P (map (λ (x : Sent). x.record.due) l)
each P [] h = tt
each P (x ∷ l) h = (h.0, each P l h.1)

all_of : (P : ℕ → Type 0) (l : List Sent) → schedule.Each P (map (λ (x : Sent). x.record.due) l)
    → All (λ (x : Sent). P x.record.due) l
all_of P [] h = tt
all_of P (x ∷ l) h = (h.0, all_of P l h.1)

-- ---- of a state

module _ (s : State) (now : ℕ) (f : Fits s) (hn : now < 2 ^ 32) where
  quiet_at : (t : ℕ) → Within now (checking s now) t → schedule-quiet.QuietAt s.schedule t s.settings.interval (dues s)
  unfolding checking
  quiet_at t w =
      schedule-quiet.quiet s.schedule now s.settings.interval (dues s) f.next
      (each (λ d. d < 2 ^ 32) s.sending.outstanding f.dues) hn t
      w.fits w.before

  -- an update in the span waits, and changes only the current time
  waits_at_lem : (c t : ℕ) (pool : List ℕ) → Within now (checking s now) t
      → updating (with_times s c s.schedule) t pool ≡ session.waits (with_times s t s.schedule)
  unfolding updating
  waits_at_lem c t pool w = rw (quiet_at t w).waits

  none_due_at : (t : ℕ) → Within now (checking s now) t → NoneDue t s
  none_due_at t w = all_of (λ d. is_due t d ≡ false) s.sending.outstanding (quiet_at t w).none_due

-- ---- of one update

-- it does not flush, the parts stay, and the state is the one before or s
record Rests (s : State) (e : Endpoint) (a : Update) (e' : Endpoint) : Type 0 where
  idle : Idle a
  parts : e'.parts ≡ e.parts
  state : (state_in e'.link e'.parts ≡ state_in e.link e.parts) ⊎ (state_in e'.link e'.parts ≡ s)

module _ (s : State) (e : Endpoint) (a : Update) (e' : Endpoint) (f f' : FlushParts) (u : session.Updates)
    (q : u ≡ session.waits s) where
  abbrev Leaves : Outcome session.Updates → Type 0
  Leaves o = UpdateLeaves o e.link e'.link e.parts e'.parts f f'

  rests : (long made : Bool) → a ≡ update_answer (checked long made (Outcome.done u)) → Leaves (checked long made (Outcome.done u))
      → Rests s e a e'
  rests false made ans h = record {
    idle = rw ans (refused ShortPart);
    parts = h.unchanged.parts;
    state = inl (λ i. state_in (h.unchanged.link i) (h.unchanged.parts i));
  }
  rests true false ans h = record {
    idle = rw ans (refused InvalidBlock);
    parts = h.unchanged.parts;
    state = inl (λ i. state_in (h.unchanged.link i) (h.unchanged.parts i));
  }
  rests true true ans h =
      let w = subst (λ (y : session.Updates). Leaves (Outcome.done y)) q h in
      record { idle = rw (ans, q) waited; parts = w.parts; state = inr w.stands.state }

rests_by : (s : State) (e : Endpoint) (t : ℕ) (a : Update) (e' : Endpoint) (f f' : FlushParts)
    → updating (state_in e.link e.parts) t e.parts.send_pool ≡ session.waits s
    → UpdatePromise t e.link e.parts f a e'.link e'.parts f'
    → Rests s e a e'
unfolding updates_with
rests_by s e t a e' f f' q h =
    rests s e a e' f f' (updating (state_in e.link e.parts) t e.parts.send_pool) q
    (enough_to_flush (mss e.link.settings) (lengths_of e.parts) (length f.output) (length f.lengths))
    (is_made e.link e.parts)
    h.answer h.leaves

-- ---- of a list of updates

-- a result that is given is the call's own
is_given : (n k : ℕ) (long made : Bool) → Outcome.done n ≡ checked long made (Outcome.done k) → (long ≡ true) × (made ≡ true) × (n ≡ k)
is_given n k false made e = absurd (let z : ◌≡◌ {A = ℕ} 0 1 = cc in omega arith)
is_given n k true false e = absurd (let z : ◌≡◌ {A = ℕ} 0 1 = cc in omega arith)
is_given n k true true e = (refl, refl, cc)

-- what a check that is not refused tells of the block
record Named (now n : ℕ) (e : Endpoint) : Type 0 where
  long : enough (mss e.link.settings) (lengths_of e.parts) ≡ true
  made : is_made e.link e.parts ≡ true
  named : n ≡ checking (state_in e.link e.parts) now

named_by : (now n : ℕ) (e : Endpoint) → CheckPromise now e.link e.parts (Ok n) → Named now n e
unfolding checks_with
named_by now n e h =
    let g =
    is_given n (checking (state_in e.link e.parts) now) (enough (mss e.link.settings) (lengths_of e.parts))
    (is_made e.link e.parts) h.answer in
    record { long = g.0; made = g.1; named = g.2 }

module _ (e : Endpoint) (now : ℕ) (f : Fits (state_in e.link e.parts)) (hn : now < 2 ^ 32) where
  abbrev s : State
  s = state_in e.link e.parts

  abbrev n : ℕ
  n = checking s now

  -- all but the current time is given at the check
  record Same (e' : Endpoint) : Type 0 where
    parts : e'.parts ≡ e.parts
    current : ℕ
    state : state_in e'.link e'.parts ≡ with_times s current s.schedule

  record Quietly (given : List Update) (e' : Endpoint) : Type 0 where
    idle : All Idle given
    same : Same e'

  all_rest : {e₁ e₂ : Endpoint} {ts : List ℕ} {given : List Update} → Updates e₁ ts given e₂ → All (Within now n) ts → Same e₁
      → Quietly given e₂
  all_rest start w m = record { idle = tt; same = m }
  all_rest (next e₁ t a e₂ lent after h r) w m =
      let q : updating (state_in e₁.link e₁.parts) t e₁.parts.send_pool ≡ session.waits (with_times s t s.schedule) =
      rw m.state (waits_at_lem s now f hn m.current t e₁.parts.send_pool w.0) in
      let one = rests_by (with_times s t s.schedule) e₁ t a e₂ lent after q h in
      let later = all_rest r w.1 (same_after e₁ e₂ t a m one) in
      record { idle = (one.idle, later.idle); same = later.same }
    where
      same_after : (e₁ e₂ : Endpoint) (t : ℕ) (a : Update) → Same e₁ → Rests (with_times s t s.schedule) e₁ a e₂ → Same e₂
      same_after e₁ e₂ t a m one =
          ⊎_elim (λ q. record { parts = one.parts ∙ m.parts; current = m.current; state = q ∙ m.state })
          (λ q. record { parts = one.parts ∙ m.parts; current = t; state = q }) one.state

-- ---- the theorems, of any block and parts of their types

module _ (e : Endpoint) (now named : ℕ) (f : Fits (state_in e.link e.parts)) (hn : now < 2 ^ 32)
    (check : CheckPromise now e.link e.parts (Ok named)) where
  is_named_lem : named ≡ checking (state_in e.link e.parts) now
  is_named_lem = (named_by now named e check).named

  -- FROM NOW UNTIL JUST BEFORE THE NAMED TIME, with no call but such updates, no update flushes and no segment falls due
  pub stays_quiet : (ts : List ℕ) (given : List Update) (e' : Endpoint) → All (Within now named) ts → Updates e ts given e'
      → StaysQuiet now named e given e'
  stays_quiet ts given e' w r =
      let first : Same e now f hn e = record { parts = refl; current = (state_in e.link e.parts).current; state = refl } in
      let q = all_rest e now f hn r (subst (λ (n : ℕ). All (Within now n) ts) is_named_lem w) first in
      record {
        idle = q.idle;
        parts = q.same.parts;
        current = q.same.current;
        state = q.same.state;
        none_due =
            λ t v. rw q.same.state (none_due_at (state_in e.link e.parts) now f hn t
            (subst (λ (n : ℕ). Within now n t) is_named_lem v));
      }

  -- the update at the named time, where the schedule flushes then
  flushes_at : (updated (state_in e.link e.parts).schedule named (state_in e.link e.parts).settings.interval).flushes ≡ true
      → FlushesAt named e
  unfolding updates_with updating
  flushes_at q a e' f f' lent h =
      let p = named_by now named e check in
      let room =
      long_flush (mss e.link.settings) (lengths_of e.parts) (length f.output) (length f.lengths) p.long lent.long
      lent.many in
      let s = state_in e.link e.parts in
      (length (flushing (with_schedule s (scheduled_at s named)) named e.parts.send_pool).datagrams, h.answer ∙ rw (room, p.made, q))

  -- THE NAMED TIME IS NO SOONER THAN IT NEED BE
  pub no_sooner : NoSooner now named e
  unfolding checking state_of
  no_sooner =
      let s = state_in e.link e.parts in
      let fits = each (λ d. d < 2 ^ 32) s.sending.outstanding f.dues in
      record {
        within = rw is_named_lem (schedule-quiet.named_within s.schedule now s.settings.interval (dues s) f.next fits hn);
        wanted = λ less.
            ⊎_elim (λ q. inl (flushes_at (rw is_named_lem q))) (λ q. inr (rw is_named_lem q))
            (schedule-quiet.called_for s.schedule now s.settings.interval (dues s) f.next fits hn (rw is_named_lem at less));
      }

-- ---- since opening

module _ {c : Settings} {calls : List Call} {events : List Event} {e : Endpoint} (h : SinceOpening c calls events e) where
  pub fits_since : Fits (state_in e.link e.parts)
  fits_since =
      let o = (since_opening h).preserved.order in
      record {
        next = o.next_flush_lem;
        dues = all_weaker (λ (x : Sent). RecordFits x.record) (λ (x : Sent). x.record.due < 2 ^ 32) (λ x r. r.due)
            (state_in e.link e.parts).sending.outstanding o.sends.fits.records;
      }
