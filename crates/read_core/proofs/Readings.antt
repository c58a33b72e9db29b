-- What reading a message leaves of the receiving half, as what reading leaves of the block.
-- Assumes nothing.
use mathlib.Core.Path.{◌≡◌, refl, sym, ap, ◌∙◌}
use mathlib.Core.Bool.{Bool, true, false, cond}
use mathlib.Core.List.{List}
use Prim.Native.Nat.{ℕ}
use borrow.Author.Tests.{le-leb}
use lib.Dec.{leb}
use lib.ListN.{length}
use Rattle.protocol.specs.Ranges.{mss}
use Rattle.protocol.specs.declared.Refusal.{Refusal}
use Rattle.protocol.specs.declared.Refusal.TheVariants.{ShortPart, NoMessage}
use Rattle.protocol.specs.declared.Settings.{Settings}
use Rattle.timing.specs.declared.Record.{Record}
use Rattle.session.specs.State.{State, Outcome, refused, done, with_receiving}
use Rattle.session.specs.Reading.{Reads, reading, telling, readable, front_count, length_of, message, message_size, after_read}
use Rattle.words.specs.Words.{held_in}
use Rattle.control.specs.Views.{pairs, arrays, link_of, state_of, counts_fit}
use Rattle.control.specs.declared.Arrival.{Arrival}
use Rattle.control.specs.declared.Clock.{Clock}
use Rattle.control.specs.declared.Flight.{Flight}
use Rattle.control.specs.declared.Link.{Link}
use Rattle.promises.specs.Answers.{count_outcome, size_of}
use Rattle.promises.specs.Cores.{ReadCore}
use Rattle.deliver.specs.Messages.{front_of, fitting_of, Taken}
use Rattle.deliver.proofs.Copies.{in_pool_take, joined_length}
use Rattle.deliver.proofs.Sizes.{fitting_fits}
use Rattle.read_core.specs.Messages.{Readable, ReadMessage}
use Rattle.read_core.proofs.Blocks.{block_counts}
use Rattle.answers.specs.Answers.{Count}
use Rattle.std.specs.Prelude.{Err, Ok}

-- ---- reading, by the size of the message

abbrev reads_of : State → List ℕ → Reads
reads_of s pool = record { state = with_receiving s (after_read s.receiving); bytes = message s pool }

abbrev read_by : State → List ℕ → Outcome ℕ → Outcome Reads
read_by s pool (refused r) = refused r
read_by s pool (done n) = done (reads_of s pool)

read_by_lem : (s : State) (pool : List ℕ) (room : ℕ) → read_by s pool (fitting_of s.receiving.ready room) ≡ reading s pool room
unfolding fitting_of reading message_size
read_by_lem s pool room = go (readable s.receiving.ready) (leb (length_of (front_of s.receiving.ready)) room)
  where
    go : (a b : Bool)
        → read_by s pool (cond a (cond b (done (length_of (front_of s.receiving.ready))) (refused ShortPart)) (refused NoMessage))
        ≡ cond a (cond b (done (reads_of s pool)) (refused ShortPart)) (refused NoMessage)
    go true true = refl
    go true false = refl
    go false b = refl

-- ---- by the size that was found

module _ (a : Arrival) (m : ℕ) (ready waiting numbers pool buffer : List ℕ) (found : Count) (o : Outcome ℕ) (e : count_outcome found ≡ o)
  where
    pub message_taken : (n : ℕ) → found ≡ Ok n → (r : Arrival) (ready' waiting' numbers' buffer' : List ℕ)
        → Taken a m ready waiting numbers pool buffer r ready' waiting' numbers' buffer'
        → ReadMessage o a m ready waiting numbers pool buffer (Ok n) r ready' waiting' numbers' buffer'
    message_taken n f r ready' waiting' numbers' buffer' t = rw (← e, f) (refl, t)

    pub message_refused : (q : Refusal) → found ≡ Err q
        → ReadMessage o a m ready waiting numbers pool buffer (Err q) a ready waiting numbers buffer
    message_refused q f = rw (← e, f) (record {
      answered = refl;
      arrival = refl;
      ready_same = refl;
      waiting_same = refl;
      numbers_same = refl;
      bytes_same = refl;
    })

-- ---- the block after a read

module _ (c : Settings) (f : Flight) (a : Arrival) (k : Clock) (queued outstanding transmissions ready waiting numbers : List ℕ)
    (records : List Record) (acks : List ℕ) (pool buffer : List ℕ)
    (r : Arrival) (ready' waiting' numbers' buffer' : List ℕ) (answer : Count) where
  abbrev before : Link
  before = link_of c f a k (arrays queued outstanding transmissions ready waiting numbers)

  abbrev after : Link
  after = link_of c f r k (arrays queued outstanding transmissions ready' waiting' numbers')

  counted : Taken a (mss c) ready waiting numbers pool buffer r ready' waiting' numbers' buffer' → counts_fit before ≡ true
      → counts_fit after ≡ true
  unfolding counts_fit
  counted t e = let n = block_counts before e in
      rw (
        le-leb _ _ n.queued,
        le-leb _ _ n.outstanding,
        le-leb _ _ t.counts.few_ready,
        le-leb _ _ t.counts.few_waiting,
        t.same_acks,
        le-leb _ _ n.acks,
      ) refl

  after_state : Taken a (mss c) ready waiting numbers pool buffer r ready' waiting' numbers' buffer'
      → state_of after records acks ≡ with_receiving (state_of before records acks) (after_read (state_of before records acks).receiving)
  unfolding state_of
  after_state t = ap (with_receiving (state_of before records acks)) (rw t.same_acks (t.reads (pairs a.acks acks)))

  by_outcome : Readable before pool → (o : Outcome ℕ) → fitting_of (held_in ready a.ready) (length buffer) ≡ o
      → ReadMessage o a (mss c) ready waiting numbers pool buffer answer r ready' waiting' numbers' buffer'
      → ReadCore (read_by (state_of before records acks) pool o) before records acks buffer answer after buffer'
  unfolding state_of message
  by_outcome ok (refused q) e n = (n.answered, rw (n.arrival, n.ready_same, n.waiting_same, n.numbers_same) refl, n.bytes_same)
  by_outcome ok (done n) e m =
      let l = held_in ready a.ready in
      record {
        answer = m.0 ∙ ap Ok ((fitting_fits l (length buffer) n (sym e)).1 ∙ sym
            (joined_length (mss c) pool (front_of l) (in_pool_take (mss c) pool (front_count l) l ok.inside)));
        counts = counted m.1 ok.counts;
        state = after_state m.1;
        slots = refl;
        bytes = m.1.bytes;
      }

  -- m is the mss that was asked for
  pub reads_block : (m : ℕ) → m ≡ mss c → Readable before pool
      → ReadMessage (fitting_of (held_in ready a.ready) (length buffer)) a m ready waiting numbers pool buffer answer r ready' waiting'
      numbers' buffer'
      → ReadCore (reading (state_of before records acks) pool (length buffer)) before records acks buffer answer after buffer'
  unfolding state_of
  reads_block m q ok h = rw (← read_by_lem (state_of before records acks) pool (length buffer))
      (by_outcome ok (fitting_of (held_in ready a.ready) (length buffer)) refl (rw q at h))

-- the lists that come back are those that were left
pub reads_back : (o : Outcome ℕ) (a : Arrival) (m : ℕ) (ready waiting numbers pool buffer : List ℕ) (answer : Count) (r : Arrival)
    (ready' waiting' numbers' buffer' : List ℕ) {ready'' waiting'' numbers'' : List ℕ}
    → ReadMessage o a m ready waiting numbers pool buffer answer r ready' waiting' numbers' buffer'
    → ready'' ≡ ready' → waiting'' ≡ waiting' → numbers'' ≡ numbers'
    → ReadMessage o a m ready waiting numbers pool buffer answer r ready'' waiting'' numbers'' buffer'
reads_back o a m ready waiting numbers pool buffer answer r ready' waiting' numbers' buffer' h e f g = rw (e, f, g) h

-- ---- where a check refuses

pub not_read : (o : Outcome Reads) (q : Refusal) → o ≡ refused q → (l : Link) (records : List Record) (acks buffer : List ℕ)
    → ReadCore o l records acks buffer (Err q) l buffer
not_read o q e l records acks buffer = rw e (refl, refl, refl)

-- ---- telling

pub tells_block : (l : Link) (records : List Record) (acks : List ℕ) (r : Count) → count_outcome r ≡ size_of (held_in l.ready l.arrival.ready)
    → count_outcome r ≡ telling (state_of l records acks)
unfolding size_of telling message_size state_of
tells_block l records acks r e = e
