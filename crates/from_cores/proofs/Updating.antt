-- An update: what the core leaves, with its records put back into the table, is what the call promises.
-- Assumes nothing.
use mathlib.Core.Path.{◌≡◌, refl, sym, ap, subst, ◌∙◌}
use mathlib.Core.Bool.{Bool, true, false, cond}
use mathlib.Core.List.{List}
use Prim.Native.Nat.{ℕ}
use native.Mathlib.Omega.{arith}
use lib.ListN.{length, take}
use Rattle.protocol.specs.Protocol.{send_slots}
use Rattle.protocol.specs.Ranges.{mss}
use Rattle.timing.specs.declared.Record.{Record}
use Rattle.sizes.specs.Sizes.{enough_to_flush}
use Rattle.schedule.specs.Schedules.{updated}
use Rattle.schedule.specs.declared.Schedule.{Schedule}
use Rattle.session.specs.State.{State, Outcome, refused, done, with_times, with_schedule}
use Rattle.session.specs.Valid.{valid}
use Rattle.session.specs.Flushing.{Flushed, flushing}
use Rattle.session.specs.Updating.{Updates, waits, flushes, updating}
use Rattle.control.specs.Views.{Whole, arrays_of, state_of}
use Rattle.control.specs.declared.Link.{Link}
use Rattle.records.specs.Tables.{slots_in, gathered, scattered}
use Rattle.promises.specs.Parts.{Parts, FlushParts, lengths_of, lent_lengths, parts_of, records_of, state_in, is_made}
use Rattle.promises.specs.Outcomes.{updates_with, updates}
use Rattle.promises.specs.Answers.{update_answer}
use Rattle.promises.specs.AnswerLaws.{update_number_lem}
use Rattle.promises.specs.Promises.{UpdatePromise, UpdateLeaves}
use Rattle.promises.specs.Cores.{PutBack, UpdateCore}
use Rattle.from_cores.specs.Left.{UpdateLeft}
use Rattle.from_cores.proofs.Gathered.{Gathers, checked_in, stands_in}
use Rattle.from_cores.proofs.Scattered.{SlotsFit, slots_of, puts_nothing}
use Rattle.from_cores.proofs.SlotsAfter.{flush_slots}
use Rattle.from_cores.proofs.Checked.{passed, made_valid, table_long, flush_enough}
use Rattle.from_cores.proofs.Flushing as flush
use Rattle.from_cores.proofs.Flushing.{same_parts, flush_leaves}
use Rattle.answers.specs.Answers.{Update}
use Rattle.std.specs.Prelude.{Ok}

-- 13 does not look at the schedule
valid_scheduled : (s : State) (x : Schedule) → valid s ≡ true → valid (with_schedule s x) ≡ true
unfolding valid
valid_scheduled s x e = e

-- where an update flushes, its segments' slots are in order
update_slots : (s : State) (t : ℕ) (pool : List ℕ) → valid s ≡ true → (x : Flushed) → updating s t pool ≡ flushes x
    → SlotsFit (slots_of x.state)
unfolding updating
update_slots s t pool v x e = go (updated s.schedule t s.settings.interval).flushes e
  where
    next : Schedule
    next = (updated s.schedule t s.settings.interval).schedule

    go : (b : Bool) → cond b (flushes (flushing (with_schedule s next) t pool)) (waits (with_times s t next)) ≡ flushes x
        → SlotsFit (slots_of x.state)
    go true e =
        let same : flushing (with_schedule s next) t pool ≡ x = cc in
        rw (← same) (flush_slots (with_schedule s next) t pool (valid_scheduled s next v))
    go false e = absurd (let z : ◌≡◌ {A = ℕ} 0 1 = cc in omega arith)

module _ (t : ℕ) (l : Link) (p : Parts) (f : FlushParts) (a : Update) (b : PutBack) (l' : Link) (f' : FlushParts) where
  abbrev Left : List Record → Outcome Updates → Type 0
  Left records o = UpdateCore o l records p.acks f.output f.lengths a l' b f'.output f'.lengths

  abbrev outcome : Outcome Updates
  outcome = updates l p f t

  -- blank records behind those of the table are no state
  left_in : (records : List Record) (n : ℕ) → Gathers l p records n → (o : Outcome Updates) → Left records o → Left (records_of l p) o
  left_in records n g (refused q) h = h
  left_in records n g (done (flushes x)) h =
      (h.0, flush.left_in t l p f (Ok (length x.datagrams)) b l' f' records n g (done x) h.1)
  left_in records n g (done (waits s)) h =
      let stands = stands_in l p records n g l' s h.slots h.counts h.state in
      record {
        answer = h.answer;
        counts = h.counts;
        state = ap (λ (slots : List ℕ). state_of l' (gathered (take send_slots p.table) slots) p.acks) (sym h.slots) ∙ stands.state;
        slots = h.slots;
        puts = h.puts;
        output = h.output;
        sizes = h.sizes;
      }

  -- the records of the table, by value
  pub update_left : (records : List Record) (n : ℕ) → Gathers l p records n → Whole (arrays_of l')
      → Left records (updates_with l records p.acks (lent_lengths n p.send_pool p.receive_pool p.acks) p.send_pool
      (length f.output) (length f.lengths) t) → UpdateLeft t l p f a b l' f'
  unfolding updates_with
  update_left records n g whole h =
      let long = enough_to_flush (mss l.settings) (lengths_of p) (length f.output) (length f.lengths) in
      let there = subst (Left records) (checked_in l p records n g long (λ s. done (updating s t p.send_pool))) (rw g.len at h) in
      record { core = left_in records n g outcome there; whole = whole }

  module _ (table' : List Record) (few : length b.records ≡ 32)
      (put : table' ≡ scattered p.table (slots_in b.words b.changed) b.records) (whole : Whole (arrays_of l')) where
    answers : (o : Outcome Updates) → Left (records_of l p) o → a ≡ update_answer o
    answers (refused q) h = h.0
    answers (done (waits s)) h = h.answer
    answers (done (flushes x)) h = h.0

    leaves : (o : Outcome Updates) → outcome ≡ o → Left (records_of l p) o
        → UpdateLeaves o l l' p (parts_of p.send_pool p.receive_pool table' p.acks) f f'
    unfolding updates_with
    leaves (refused q) e h =
        let same = puts_nothing p.table table' b h.1.puts put in
        record { unchanged = record { link = h.1.link; parts = rw same }; flush_parts = same_parts f f' h.1.output h.1.sizes }
    leaves (done (waits s)) e h =
        let same = puts_nothing p.table table' b h.puts put in
        let state = ap (λ (slots : List ℕ). state_of l' (gathered (take send_slots p.table) slots) p.acks) h.slots ∙ h.state in
        rw same (record {
          stands = record { counts = h.counts; state = state };
          parts = refl;
          flush_parts = same_parts f f' h.output h.sizes;
        })
    leaves (done (flushes x)) e h =
        let m = mss l.settings in
        let c = passed (enough_to_flush m (lengths_of p) (length f.output) (length f.lengths)) (is_made l p)
        (done (updating (state_in l p) t p.send_pool)) (flushes x) e in
        let same : updating (state_in l p) t p.send_pool ≡ flushes x = let d = c.result in cc in
        let slots = update_slots (state_in l p) t p.send_pool (made_valid l p c.block) x same in
        let long = table_long m p (flush_enough m p (length f.output) (length f.lengths) c.sizes) in
        flush_leaves l p f _ b l' f' table' few put whole long x slots h.1

  pub update_promised : (table' : List Record) → length b.records ≡ 32
      → table' ≡ scattered p.table (slots_in b.words b.changed) b.records
      → UpdateLeft t l p f a b l' f' → UpdatePromise t l p f a l' (parts_of p.send_pool p.receive_pool table' p.acks) f'
  update_promised table' few put h =
      let answer = answers table' few put h.whole outcome h.core in
      record {
        answer = answer;
        number = update_number_lem a outcome answer;
        leaves = leaves table' few put h.whole outcome refl h.core;
      }
