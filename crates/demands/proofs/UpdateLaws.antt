-- An update is a flush, or a new current time alone: from its promise, of every block and all lent parts.
-- Assumes nothing.
use Rattle.std.specs.Prelude.{◌≡◌, refl, Bool, true, false, cond, List, ◌⊎◌, ℕ, ◌^◌, ◌<◌, length}
use Rattle.std.proofs.Common.{sym, ap, ◌∙◌, true≢false, inl, inr, arith}
use Rattle.protocol.specs.Ranges.{mss}
use Rattle.protocol.specs.Serial.{is_due}
use Rattle.sizes.specs.Sizes.{enough_to_flush}
use Rattle.schedule.specs.Schedules.{is_astray, corrected, started, updated}
use Rattle.schedule.specs.ScheduleLaws.{either, due_by, corrected_astray, corrected_unchanged, started_made, started_first, when_reached, when_waiting}
use Rattle.schedule.specs.declared.Schedule.{Schedule}
use Rattle.schedule.specs.declared.Updated.{Updated}
use Rattle.session.specs.State.{State, Outcome, with_times, with_schedule}
use Rattle.session.specs.Flushing.{written, flushing}
use Rattle.session.specs.Updating as session
use Rattle.session.specs.Updating.{updating}
use Rattle.control.specs.declared.Link.{Link}
use Rattle.promises.specs.Parts.{Parts, FlushParts, lengths_of, state_in, is_made}
use Rattle.promises.specs.Outcomes.{checked, updates_with}
use Rattle.promises.specs.Answers.{update_answer}
use Rattle.promises.specs.Promises.{UpdateLeaves, UpdatePromise}
use Rattle.demands.specs.Relations.{Treated}
use Rattle.answers.specs.Answers.{Update}

-- ---- of a schedule: one that does not flush stays as it is

module _ (s : Schedule) (now interval : ℕ) (hn : now < 2 ^ 32) where
  abbrev next : ℕ
  next = corrected now (started s now)

  -- a time that is set to now is due
  now_due : next ≡ now → is_due now next ≡ true
  now_due e = rw e (due_by now now (omega arith))

  stays : is_due now next ≡ false → record { next = next; made = true } ≡ s
  stays e = go (either s.made) (either (is_astray now (started s now)))
    where
      go : (s.made ≡ true) ⊎ (s.made ≡ false) → (is_astray now (started s now) ≡ true) ⊎ (is_astray now (started s now) ≡ false)
          → record { next = next; made = true } ≡ s
      go m (inl a) = absurd (true≢false (sym (now_due (corrected_astray now (started s now) a)) ∙ e))
      go (inl m) (inr a) =
          let same : next ≡ s.next = corrected_unchanged now (started s now) a ∙ started_made s now m in
          λ i. record { next = same i; made = sym m i }
      go (inr m) (inr a) =
          absurd (true≢false (sym (now_due (corrected_unchanged now (started s now) a ∙ started_first s now m)) ∙ e))

  pub waiting_stays : (updated s now interval).flushes ≡ false → (updated s now interval).schedule ≡ s
  waiting_stays f = go (either (is_due now next))
    where
      go : (is_due now next ≡ true) ⊎ (is_due now next ≡ false) → (updated s now interval).schedule ≡ s
      go (inl e) = absurd (true≢false (ap (λ (x : Updated). x.flushes) (when_reached s now interval e refl) ∙ f))
      go (inr e) = sym (ap (λ (x : Updated). x.schedule) (when_waiting s now interval e refl)) ∙ stays e

-- ---- of a state

-- the flush does not look at the schedule, and keeps it
flush_scheduled : (s : State) (k : Schedule) (t : ℕ) (pool : List ℕ)
    → flushing (with_schedule s k) t pool
    ≡ record { state = with_schedule (flushing s t pool).state k; datagrams = (flushing s t pool).datagrams }
unfolding flushing written
flush_scheduled s k t pool = refl

-- what an update that does not refuse gives, by its answer
abbrev Gives : State → ℕ → List ℕ → session.Updates → Type 0
Gives s t pool (session.waits x) = x ≡ with_times s t s.schedule
Gives s t pool (session.flushes x) = (k : Schedule) × (x ≡ flushing (with_schedule s k) t pool)

gives : (s : State) (t : ℕ) (pool : List ℕ) → t < 2 ^ 32 → Gives s t pool (updating s t pool)
unfolding updating
gives s t pool ht = go (updated s.schedule t s.settings.interval).flushes refl
  where
    u : Updated
    u = updated s.schedule t s.settings.interval

    go : (b : Bool) → u.flushes ≡ b
        → Gives s t pool
        (cond b (session.flushes (flushing (with_schedule s u.schedule) t pool)) (session.waits (with_times s t u.schedule)))
    go true e = (u.schedule, refl)
    go false e = ap (with_times s t) (waiting_stays s.schedule t s.settings.interval ht e)

-- ---- of an update

module _ (t : ℕ) (l : Link) (p : Parts) (f : FlushParts) (a : Update) (l' : Link) (p' : Parts) (f' : FlushParts) where
  treated_by : (u : session.Updates) → Gives (state_in l p) t p.send_pool u → a ≡ update_answer (Outcome.done u)
      → UpdateLeaves (Outcome.done u) l l' p p' f f' → Treated t l p f a l' p' f'
  treated_by (session.waits x) g e h =
      rw e (record { stands = rw g at h.stands; parts = h.parts; flush_parts = h.flush_parts })
  treated_by (session.flushes x) g e h =
      let q = g.1 ∙ flush_scheduled (state_in l p) g.0 t p.send_pool in
      let d = rw q at h in
      rw (e, q)
      (record {
        count = refl;
        schedule = g.0;
        stands = d.stands;
        send_pool = d.send_pool;
        receive_pool = d.receive_pool;
        table = d.table;
        acks = d.acks;
        output = d.output;
      })

  treated_checked : (long made : Bool) (u : session.Updates) → Gives (state_in l p) t p.send_pool u
      → a ≡ update_answer (checked long made (Outcome.done u))
      → UpdateLeaves (checked long made (Outcome.done u)) l l' p p' f f'
      → Treated t l p f a l' p' f'
  treated_checked false made u g e h = rw e tt
  treated_checked true false u g e h = rw e tt
  treated_checked true true u g e h = treated_by u g e h

  -- AN UPDATE IS A FLUSH, OR A NEW CURRENT TIME ALONE
  pub update_treated : t < 2 ^ 32 → UpdatePromise t l p f a l' p' f' → Treated t l p f a l' p' f'
  unfolding updates_with
  update_treated ht h =
      treated_checked (enough_to_flush (mss l.settings) (lengths_of p) (length f.output) (length f.lengths)) (is_made l p)
      (updating (state_in l p) t p.send_pool) (gives (state_in l p) t p.send_pool ht) h.answer h.leaves
