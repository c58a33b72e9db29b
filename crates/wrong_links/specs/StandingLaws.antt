-- What the promise of a call says of a block at a known state: the answer, and the state that it is at afterwards.
-- Assumes nothing.
use Rattle.std.specs.Prelude.{◌≡◌, true, List, map, ℕ, leb, length, Err, None, Ok, Some}
use Rattle.std.proofs.Math.Path.{ap}
use Rattle.std.proofs.Common.{◌∙◌, subst}
use Rattle.std.proofs.lemmas.List.Edits.{sets}
use Rattle.protocol.specs.Ranges.{mss}
use Rattle.protocol.specs.Protocol.{output_least, lengths_least}
use Rattle.protocol.specs.declared.Settings.{Settings}
use Rattle.protocol.specs.declared.Refusal.{Refusal}
use Rattle.sizes.specs.Sizes.{enough, enough_to_flush}
use Rattle.session.specs.State.{State, Outcome, refused, done}
use Rattle.session.specs.Opening.{opening}
use Rattle.session.specs.Sending.{Sends, sending}
use Rattle.session.specs.Input.{Took, input}
use Rattle.session.specs.Flushing.{Flushed, flushing, bytes_of_segments}
use Rattle.session.specs.Reading.{Reads, reading, telling, showing}
use Rattle.session.specs.Updating as session
use Rattle.session.specs.Updating.{Updates, waits, updating, checking}
use Rattle.control.specs.Views.{state_of, block_valid}
use Rattle.control.specs.declared.Link.{Link}
use Rattle.records.specs.TableLaws.{scattered_length}
use Rattle.promises.specs.Parts.{Parts, FlushParts, lengths_of, is_made}
use Rattle.promises.specs.Outcomes.{
  sends_with,
  takes_in_with,
  flushes_with,
  updates_with,
  checks_with,
  reads_with,
  tells_with,
  shows_with,
  opens,
  sends,
  takes_in,
  flushes,
  updates,
  checks,
  reads,
  tells,
  shows,
}
use Rattle.promises.specs.Answers.{Accepts, Counts, count_outcome, update_answer, time_outcome}
use Rattle.promises.specs.Promises.{
  OpenPromise,
  OpenLeaves,
  SendPromise,
  SendLeaves,
  InputPromise,
  InputLeaves,
  WrittenTo,
  Flushes,
  FlushPromise,
  FlushLeaves,
  UpdatePromise,
  UpdateLeaves,
  CheckPromise,
  ReadPromise,
  NoRead,
  ReadLeaves,
  SizePromise,
  ShowPromise,
  ShowsPart,
}
use Rattle.wrong_links.specs.Standing.{Known, Lends, At, Passes, lengths_known}
use Rattle.answers.specs.Answers.{Answer, Count, Update, Time}

-- ---- opening

-- opening with parts that have these pools, 128 records and 512 entries for acks
module _ (c : Settings) (l : Link) (p : Parts) (l' : Link) (p' : Parts) (k : Known) (a : Answer) where
  pub opening_goes : Lends p k.send_pool k.receive_pool → opening c (lengths_known k) ≡ done k.state → OpenPromise c l p a l' p'
      → (a ≡ Ok tt) × At l' p' k
  opening_goes lends e h =
      let o : opens c p ≡ done k.state = rw (lends.send_pool, lends.receive_pool, lends.table, lends.acks) e in
      let r = subst (λ (o : Outcome State). Accepts a o × OpenLeaves o l l' p p') o (h.answer, h.leaves) in
      (r.0, record { stands = r.1.0; lends = rw r.1.1 lends })

-- ---- every other call

module _ (l : Link) (p : Parts) (k : Known) (at : At l p k) (passes : Passes k) where
  settings_known : l.settings ≡ k.state.settings
  unfolding state_of
  settings_known = ap (λ (s : State). s.settings) at.stands.state

  long_known : enough (mss l.settings) (lengths_of p) ≡ true
  long_known = rw (settings_known, at.lends.send_pool, at.lends.receive_pool, at.lends.table, at.lends.acks) passes.long

  made_known : is_made l p ≡ true
  unfolding block_valid
  made_known = rw (at.stands.counts, at.stands.state) passes.made

  sends_known : (m : List ℕ) → sends l p m ≡ sending k.state k.send_pool m
  unfolding sends_with
  sends_known m = rw (long_known, made_known, at.stands.state, at.lends.send_pool)

  takes_known : (d : List ℕ) → takes_in l p d ≡ input k.state k.receive_pool d
  unfolding takes_in_with
  takes_known d = rw (long_known, made_known, at.stands.state, at.lends.receive_pool)

  flushes_known : (f : FlushParts) (t : ℕ) → leb output_least (length f.output) ≡ true → leb lengths_least (length f.lengths) ≡ true
      → flushes l p f t ≡ done (flushing k.state t k.send_pool)
  unfolding flushes_with enough_to_flush
  flushes_known f t o n = rw (long_known, o, n, made_known, at.stands.state, at.lends.send_pool)

  updates_known : (f : FlushParts) (t : ℕ) → leb output_least (length f.output) ≡ true → leb lengths_least (length f.lengths) ≡ true
      → updates l p f t ≡ done (updating k.state t k.send_pool)
  unfolding updates_with enough_to_flush
  updates_known f t o n = rw (long_known, o, n, made_known, at.stands.state, at.lends.send_pool)

  checks_known : (t : ℕ) → checks l p t ≡ done (checking k.state t)
  unfolding checks_with
  checks_known t = rw (long_known, made_known, at.stands.state)

  reads_known : (room : ℕ) → reads l p room ≡ reading k.state k.receive_pool room
  unfolding reads_with
  reads_known room = rw (long_known, made_known, at.stands.state, at.lends.receive_pool)

  tells_known : tells l p ≡ telling k.state
  unfolding tells_with
  tells_known = rw (long_known, made_known, at.stands.state)

  shows_known : shows l p ≡ showing k.state
  unfolding shows_with
  shows_known = rw (long_known, made_known, at.stands.state)

  -- a message that the definition accepts is accepted and queued
  pub send_goes : (m : List ℕ) (a : Answer) (l' : Link) (p' : Parts) (x : Sends) → sending k.state k.send_pool m ≡ done x
      → SendPromise m l p a l' p'
      → (a ≡ Ok tt) × At l' p' (record { state = x.state; send_pool = x.pool; receive_pool = k.receive_pool })
  send_goes m a l' p' x e h =
      let r = subst (λ (o : Outcome Sends). Accepts a o × SendLeaves o l l' p p') (sends_known m ∙ e) (h.answer, h.leaves) in (
        r.0,
        record {
          stands = r.1.stands;
          lends = record {
            send_pool = r.1.send_pool;
            receive_pool = r.1.receive_pool ∙ at.lends.receive_pool;
            table = ap length r.1.table ∙ at.lends.table;
            acks = ap length r.1.acks ∙ at.lends.acks;
          };
        },
      )

  -- a datagram that the definition accepts is accepted and taken in, by both halves
  pub input_goes : (d : List ℕ) (a : Answer) (l' : Link) (p' : Parts) (x : Took) → input k.state k.receive_pool d ≡ done x
      → InputPromise d l p a l' p'
      → (a ≡ Ok tt) × At l' p' (record { state = x.state; send_pool = k.send_pool; receive_pool = x.pool })
  input_goes d a l' p' x e h =
      let r = subst (λ (o : Outcome Took). Accepts a o × InputLeaves o l l' p p') (takes_known d ∙ e) (h.answer, h.leaves) in (
        r.0,
        record {
          stands = r.1.stands;
          lends = record {
            send_pool = r.1.send_pool ∙ at.lends.send_pool;
            receive_pool = r.1.receive_pool;
            table = ap length r.1.table ∙ scattered_length p.table _ _ ∙ at.lends.table;
            acks = r.1.ack_length ∙ at.lends.acks;
          };
        },
      )

  -- what a flush leaves
  pub record Wrote (x : Flushed) (l' : Link) (p' : Parts) (f f' : FlushParts) : Type 0 where
    pub after : At l' p' (record { state = x.state; send_pool = k.send_pool; receive_pool = k.receive_pool })
    pub output : WrittenTo (map bytes_of_segments x.datagrams) (length x.datagrams) f f'

  wrote : (x : Flushed) (l' : Link) (p' : Parts) (f f' : FlushParts) → Flushes x l' p p' f f'
      → Wrote x l' p' f f'
  wrote x l' p' f f' h = record {
    after = record {
      stands = h.stands;
      lends = record {
        send_pool = h.send_pool ∙ at.lends.send_pool;
        receive_pool = h.receive_pool ∙ at.lends.receive_pool;
        table = ap length h.table ∙ scattered_length p.table _ _ ∙ at.lends.table;
        acks = ap length h.acks ∙ at.lends.acks;
      };
    };
    output = h.output;
  }

  -- a flush answers the number of the definition's datagrams, and these stand in its output
  pub flush_goes : (t : ℕ) (f : FlushParts) (a : Count) (l' : Link) (p' : Parts) (f' : FlushParts) (x : Flushed)
      → leb output_least (length f.output) ≡ true
      → leb lengths_least (length f.lengths) ≡ true
      → flushing k.state t k.send_pool ≡ x
      → FlushPromise t l p f a l' p' f'
      → (a ≡ Ok (length x.datagrams)) × Wrote x l' p' f f'
  flush_goes t f a l' p' f' x o n e h =
      let r =
      subst (λ (o : Outcome Flushed). Counts (λ (y : Flushed). length y.datagrams) a o × FlushLeaves o l l' p p' f f')
      (flushes_known f t o n ∙ ap done e) (h.answer, h.leaves) in
      (r.0, wrote x l' p' f f' r.1)

  module _ (t : ℕ) (f : FlushParts) (a : Update) (l' : Link) (p' : Parts) (f' : FlushParts)
      (o : leb output_least (length f.output) ≡ true) (n : leb lengths_least (length f.lengths) ≡ true)
      (h : UpdatePromise t l p f a l' p' f') where
    update_gives : (u : Updates) → updating k.state t k.send_pool ≡ u
        → (a ≡ update_answer (done u)) × UpdateLeaves (done u) l l' p p' f f'
    update_gives u e =
        subst (λ (o : Outcome Updates). (a ≡ update_answer o) × UpdateLeaves o l l' p p' f f')
        (updates_known f t o n ∙ ap done e) (h.answer, h.leaves)

    -- an update that flushes by the definition answers and leaves the same
    pub update_goes : (x : Flushed) → updating k.state t k.send_pool ≡ session.flushes x
        → (a ≡ Ok (Some (length x.datagrams))) × Wrote x l' p' f f'
    update_goes x e = let r = update_gives (session.flushes x) e in (r.0, wrote x l' p' f f' r.1)

    -- one that waits by the definition changes the state alone
    pub update_waits : (s : State) → updating k.state t k.send_pool ≡ waits s
        → (a ≡ Ok None)
        × At l' p' (record { state = s; send_pool = k.send_pool; receive_pool = k.receive_pool })
        × (p' ≡ p) × (f' ≡ f)
    update_waits s e =
        let r = update_gives (waits s) e in
        (r.0, record { stands = r.1.stands; lends = rw r.1.parts at.lends }, r.1.parts, r.1.flush_parts)

  pub check_goes : (t : ℕ) (a : Time) → CheckPromise t l p a → time_outcome a ≡ done (checking k.state t)
  check_goes t a h = h.answer ∙ checks_known t

  -- a read answers the length of the definition's message, and this stands in its buffer
  pub read_goes : (buffer : List ℕ) (a : Count) (l' : Link) (p' : Parts) (buffer' : List ℕ) (x : Reads)
      → reading k.state k.receive_pool (length buffer) ≡ done x
      → ReadPromise l p buffer a l' p' buffer'
      → (a ≡ Ok (length x.bytes))
      × At l' p' (record { state = x.state; send_pool = k.send_pool; receive_pool = k.receive_pool })
      × (buffer' ≡ sets buffer 0 x.bytes)
  read_goes buffer a l' p' buffer' x e h =
      let r =
      subst (λ (o : Outcome Reads). Counts (λ (y : Reads). length y.bytes) a o × ReadLeaves o l l' p p' buffer buffer')
      (reads_known (length buffer) ∙ e) (h.answer, h.leaves) in
      (r.0, record { stands = r.1.stands; lends = rw r.1.parts at.lends }, r.1.bytes)

  -- one that the definition refuses is refused with its refusal, and changes nothing
  pub read_refused : (buffer : List ℕ) (a : Count) (l' : Link) (p' : Parts) (buffer' : List ℕ) (r : Refusal)
      → reading k.state k.receive_pool (length buffer) ≡ refused r
      → ReadPromise l p buffer a l' p' buffer'
      → (a ≡ Err r) × NoRead l l' p p' buffer buffer'
  read_refused buffer a l' p' buffer' r e h =
      subst (λ (o : Outcome Reads). Counts (λ (y : Reads). length y.bytes) a o × ReadLeaves o l l' p p' buffer buffer')
      (reads_known (length buffer) ∙ e) (h.answer, h.leaves)

  pub size_goes : (a : Count) → SizePromise l p a → count_outcome a ≡ telling k.state
  size_goes a h = h.answer ∙ tells_known

  pub show_goes : (address address' : ℕ × ℕ) (part : List ℕ) → ShowPromise l p address address' part
      → ShowsPart (showing k.state) address k.receive_pool address' part
  show_goes address address' part h = rw (shows_known, at.lends.receive_pool) at h
