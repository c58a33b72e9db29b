-- A flush: what the core leaves, with its records put back into the table, is what the call promises.
-- Assumes nothing.
use mathlib.Core.Path.{◌≡◌, refl, subst}
use mathlib.Core.Logic.{⊎_elim}
use mathlib.Core.List.{List}
use Prim.Native.Nat.{ℕ, ◌≤◌}
use lib.ListN.{length}
use Rattle.protocol.specs.Protocol.{send_slots}
use Rattle.protocol.specs.Ranges.{mss}
use Rattle.timing.specs.declared.Record.{Record}
use Rattle.sizes.specs.Sizes.{enough_to_flush}
use Rattle.session.specs.State.{State, Outcome, refused, done}
use Rattle.session.specs.Flushing.{Flushed, flushing}
use Rattle.control.specs.Views.{Whole, arrays_of}
use Rattle.control.specs.declared.Link.{Link}
use Rattle.records.specs.Tables.{slots_in, scattered}
use Rattle.promises.specs.Parts.{Parts, FlushParts, lengths_of, lent_lengths, parts_of, records_of, state_in, is_made}
use Rattle.promises.specs.Outcomes.{flushes_with, flushes}
use Rattle.promises.specs.Answers.{Counts}
use Rattle.promises.specs.AnswerLaws.{counts_number}
use Rattle.promises.specs.Promises.{Flushes, FlushPromise, FlushLeaves}
use Rattle.promises.specs.Cores as core
use Rattle.promises.specs.Cores.{PutBack, FlushCore}
use Rattle.from_cores.specs.Left.{FlushLeft}
use Rattle.from_cores.proofs.Gathered.{Gathers, state_gathered, checked_in}
use Rattle.from_cores.proofs.Scattered.{
  SlotsFit,
  slots_of,
  puts_nothing,
  puts_all,
  table_unchanged,
  put_none,
  table_after,
  stands_after,
}
use Rattle.from_cores.proofs.SlotsAfter.{flush_slots}
use Rattle.from_cores.proofs.Checked.{passed, made_valid, table_long, flush_enough}
use Rattle.answers.specs.Answers.{Count}

-- parts that hold the same are the same
pub same_parts : (f f' : FlushParts) → f'.output ≡ f.output → f'.lengths ≡ f.lengths → f' ≡ f
same_parts f f' out lengths = λ i. record { output = out i; lengths = lengths i }

-- what a flush leaves, with its records put back, whatever it is a flush of
pub flush_leaves : (l : Link) (p : Parts) (f : FlushParts) (a : Count) (b : PutBack) (l' : Link) (f' : FlushParts) (table' : List Record)
    → length b.records ≡ 32
    → table' ≡ scattered p.table (slots_in b.words b.changed) b.records → Whole (arrays_of l') → send_slots ≤ length p.table
    → (x : Flushed) → SlotsFit (slots_of x.state)
    → core.Flushes (state_in l p).sending.outstanding x p.acks f.output f.lengths a l' b f'.output f'.lengths
    → Flushes x l' p (parts_of p.send_pool p.receive_pool table' p.acks) f f'
flush_leaves l p f a b l' f' table' few put whole long x slots h =
    let all = ⊎_elim
    (λ q. puts_all l' p.table table' b q put)
    (λ q. put_none l' b.records few p.acks h.counts whole x.state h.state p.table
    (table_unchanged l p x.state q.1 slots) table' (puts_nothing p.table table' b q.0 put))
    h.puts in
    record {
      stands = stands_after l' b.records few p.acks h.counts whole x.state h.state p.table table' all p.send_pool
          p.receive_pool slots long;
      send_pool = refl;
      receive_pool = refl;
      table = table_after l' b.records few p.acks h.counts whole x.state h.state p.table table' all;
      acks = refl;
      output = h.output;
    }

module _ (t : ℕ) (l : Link) (p : Parts) (f : FlushParts) (a : Count) (b : PutBack) (l' : Link) (f' : FlushParts) where
  abbrev Left : List Record → Outcome Flushed → Type 0
  Left records o = FlushCore o l records p.acks f.output f.lengths a l' b f'.output f'.lengths

  abbrev flushed : Outcome Flushed
  flushed = flushes l p f t

  -- blank records behind those of the table are no state
  pub left_in : (records : List Record) (n : ℕ) → Gathers l p records n → (o : Outcome Flushed) → Left records o → Left (records_of l p) o
  left_in records n g (refused q) h = h
  left_in records n g (done x) h =
      subst (λ (s : State). core.Flushes s.sending.outstanding x p.acks f.output f.lengths a l' b f'.output f'.lengths)
      (state_gathered l p records n g) h

  -- the records of the table, by value
  pub flush_left : (records : List Record) (n : ℕ) → Gathers l p records n → Whole (arrays_of l')
      → Left records (flushes_with l records p.acks (lent_lengths n p.send_pool p.receive_pool p.acks) p.send_pool
      (length f.output) (length f.lengths) t) → FlushLeft t l p f a b l' f'
  unfolding flushes_with
  flush_left records n g whole h =
      let long = enough_to_flush (mss l.settings) (lengths_of p) (length f.output) (length f.lengths) in
      let there = subst (Left records) (checked_in l p records n g long (λ s. done (flushing s t p.send_pool))) (rw g.len at h) in
      record { core = left_in records n g flushed there; whole = whole }

  module _ (table' : List Record) (few : length b.records ≡ 32)
      (put : table' ≡ scattered p.table (slots_in b.words b.changed) b.records) (whole : Whole (arrays_of l')) where
    answers : (o : Outcome Flushed) → Left (records_of l p) o → Counts (λ (x : Flushed). length x.datagrams) a o
    answers (refused q) h = h.answer
    answers (done x) h = h.answer

    leaves : (o : Outcome Flushed) → flushed ≡ o → Left (records_of l p) o
        → FlushLeaves o l l' p (parts_of p.send_pool p.receive_pool table' p.acks) f f'
    unfolding flushes_with
    leaves (refused q) e h =
        let same = puts_nothing p.table table' b h.puts put in
        record { unchanged = record { link = h.link; parts = rw same }; flush_parts = same_parts f f' h.output h.sizes }
    leaves (done x) e h =
        let m = mss l.settings in
        let c = passed (enough_to_flush m (lengths_of p) (length f.output) (length f.lengths)) (is_made l p)
        (done (flushing (state_in l p) t p.send_pool)) x e in
        let same : flushing (state_in l p) t p.send_pool ≡ x = let d = c.result in cc in
        let slots : SlotsFit (slots_of x.state) = rw (← same) (flush_slots (state_in l p) t p.send_pool (made_valid l p c.block)) in
        let long = table_long m p (flush_enough m p (length f.output) (length f.lengths) c.sizes) in
        flush_leaves l p f a b l' f' table' few put whole long x slots h

  pub flush_promised : (table' : List Record) → length b.records ≡ 32
      → table' ≡ scattered p.table (slots_in b.words b.changed) b.records
      → FlushLeft t l p f a b l' f' → FlushPromise t l p f a l' (parts_of p.send_pool p.receive_pool table' p.acks) f'
  flush_promised table' few put h =
      let answer = answers table' few put h.whole flushed h.core in
      record {
        answer = answer;
        number = counts_number (λ (x : Flushed). length x.datagrams) a flushed answer;
        leaves = leaves table' few put h.whole flushed refl h.core;
      }
