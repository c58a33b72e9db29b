-- A call that keeps its promise is the station's own call: the same answer, and the station that the endpoint then stands for.
-- Assumes nothing.
use Rattle.std.specs.Prelude.{◌≡◌, refl, Bool, true, false, cond, List, map, ℕ, ◌^◌, ◌≤◌, ◌<◌, leb, length, Err, Ok}
use Rattle.std.proofs.Common.{sym, ap, ◌∙◌, arith, leb-true, le-leb}
use Rattle.std.proofs.lemmas.List.{length-map}
use Rattle.protocol.specs.Protocol.{output_least, lengths_least}
use Rattle.protocol.specs.Ranges.{in_range, mss}
use Rattle.protocol.specs.declared.Settings.{Settings}
use Rattle.protocol.specs.declared.Refusal.TheVariants.{ShortPart, NoMessage}
use Rattle.sizes.specs.Sizes.{enough, enough_to_flush}
use Rattle.sizes.specs.declared.Lengths.{Lengths}
use Rattle.schedule.specs.declared.Schedule.{Schedule}
use Rattle.session.specs.State.{State, Outcome, with_receiving, with_schedule}
use Rattle.session.specs.Valid.{valid}
use Rattle.session.specs.Sending.{Sends, sending}
use Rattle.session.specs.Input.{Took, input}
use Rattle.session.specs.Flushing.{Flushed, flushing, bytes_of_segments}
use Rattle.session.specs.Reading.{Reads, readable, message_size, message, after_read, reading}
use Rattle.session.specs.Updating.{Updates, updating, checking}
use Rattle.session.specs.Calls.{Call, Reply, Stepped, after_send, after_take_in, after_flush, after_reading, after_update, own, step}
use Rattle.control.specs.Views.{state_of, counts_fit, block_valid}
use Rattle.records.specs.TableLaws.{scattered_length}
use Rattle.packing.specs.Packers.{joined}
use Rattle.answers.specs.Answers as given
use Rattle.promises.specs.Parts.{Parts, FlushParts, lengths_of, state_in, is_made, Unchanged}
use Rattle.promises.specs.Outcomes.{
  sends_with,
  takes_in_with,
  flushes_with,
  reads_with,
  updates_with,
  checks_with,
  sends,
  takes_in,
  flushes,
  reads,
  updates,
  checks,
}
use Rattle.promises.specs.Answers.{Accepts, Counts, update_answer, time_outcome}
use Rattle.promises.specs.Promises.{SendLeaves, InputLeaves, Flushes, UpdateLeaves, ReadLeaves}
use Rattle.delivery.specs.Hearing.{CallFits}
use Rattle.delivery.specs.Passing.{step_own}
use Rattle.delivery.specs.CallCases.{scheduled_at, rescheduled, valid_rescheduled, updating_cases}
use Rattle.delivery.specs.FlushLaws.{flush_writes}
use Rattle.delivery.specs.ReceivingLaws.{flush_enough}
use Rattle.delivery.specs.AlwaysValid.{InOrder, in_order_valid, in_order_long, in_order_stays}
use Rattle.demands.specs.Steps.{Endpoint, Room, acceptance, datagrams_seen, update_seen, time_seen, message_seen, Called}
use Rattle.demands.specs.Stations.{station_of}
use Rattle.demands.specs.OutputLaws.{front_again, joined_flatten, output_cut, message_short}
use Rattle.answers.specs.Answers.{Count, Update, Time}

-- the station after a call is that of the endpoint e', the answer is a, and the counts of the block are within its arrays
pub record Becomes (y : Stepped) (a : Reply) (e' : Endpoint) : Type 0 where
  pub station : y.station ≡ station_of e'
  pub answer : y.answer ≡ a
  pub counts : counts_fit e'.link ≡ true

-- ---- stations

module _ (e e' : Endpoint) where
  -- a call that leaves everything
  same_station : Unchanged e.link e'.link e.parts e'.parts → station_of e ≡ station_of e'
  same_station u = λ i. station_of (record { link = sym u.link i; parts = sym u.parts i })

  refused_becomes : (a : Reply) → counts_fit e.link ≡ true → Unchanged e.link e'.link e.parts e'.parts
      → Becomes (record { station = station_of e; answer = a }) a e'
  refused_becomes a fit u = record { station = same_station u; answer = refl; counts = rw u.link fit }

  -- the lengths of lent parts are as they were
  record SameLengths : Type 0 where
    table : length e'.parts.table ≡ length e.parts.table
    acks : length e'.parts.acks ≡ length e.parts.acks

  -- a station with this state and these pools, all else as it was
  with_state : (s : State) (send receive : List ℕ) → state_in e'.link e'.parts ≡ s → e'.parts.send_pool ≡ send
      → e'.parts.receive_pool ≡ receive → SameLengths
      → record { state = s; send_pool = send; receive_pool = receive; lent = (station_of e).lent } ≡ station_of e'
  with_state s send receive p q r n =
      λ i. record {
        state = sym p i;
        send_pool = sym q i;
        receive_pool = sym r i;
        lent = record { table = sym n.table i; ack_list = sym n.acks i; output = output_least; lengths = lengths_least };
      }

-- ---- each call, by its outcome

-- a message read fits into the buffer
abbrev ReadFits : ℕ → Outcome Reads → Type 0
ReadFits room (Outcome.refused r) = Unit {0}
ReadFits room (Outcome.done x) = length x.bytes ≤ room

reading_fits : (s : State) (pool : List ℕ) (room : ℕ) → ReadFits room (reading s pool room)
unfolding reading
reading_fits s pool room = go (readable s.receiving.ready) (leb (message_size s.receiving) room) refl
  where
    go : (a b : Bool) → leb (message_size s.receiving) room ≡ b
        → ReadFits room
        (cond a
        (cond b
        (Outcome.done (record { state = with_receiving s (after_read s.receiving); bytes = message s pool }))
        (Outcome.refused ShortPart))
        (Outcome.refused NoMessage))
    go true true f = omega (arith, message_short s pool, leb-true (message_size s.receiving) room f)
    go true false f = tt
    go false b f = tt

-- output and lengths as long as document 01 states are enough
pub long_flush : (m : ℕ) (n : Lengths) (out lengths : ℕ) → enough m n ≡ true → output_least ≤ out → lengths_least ≤ lengths
    → enough_to_flush m n out lengths ≡ true
unfolding enough_to_flush
long_flush m n out lengths a b d = rw (a, le-leb output_least out b, le-leb lengths_least lengths d)

-- the datagrams of a flush fit into output and lengths
record FlushFits (x : Flushed) (f : FlushParts) : Type 0 where
  bytes : length (joined (map bytes_of_segments x.datagrams)) ≤ length f.output
  number : length x.datagrams ≤ length f.lengths

-- those of an update that flushes
abbrev UpdateFits : Updates → FlushParts → Type 0
UpdateFits (Updates.waits s) f = Unit {0}
UpdateFits (Updates.flushes x) f = FlushFits x f

-- a time that is not refused is seen
named_seen : (g : Time) (t : ℕ) → time_outcome g ≡ Outcome.done t → time_seen g ≡ Reply.named t
named_seen (Ok n) t e = cc
named_seen (Err r) t e = absurd (let z : ◌≡◌ {A = ℕ} 0 1 = cc in omega arith)

module _ (e e' : Endpoint) (fit : counts_fit e.link ≡ true) where
  -- the state alone changes
  same_parts : (s : State) → state_in e'.link e'.parts ≡ s → e'.parts ≡ e.parts
      → record { state = s; send_pool = e.parts.send_pool; receive_pool = e.parts.receive_pool; lent = (station_of e).lent } ≡ station_of e'
  same_parts s p q =
      with_state e e' s e.parts.send_pool e.parts.receive_pool p (ap (λ (p : Parts). p.send_pool) q)
      (ap (λ (p : Parts). p.receive_pool) q)
      (record {
        table = ap (λ (p : Parts). length p.table) q;
        acks = ap (λ (p : Parts). length p.acks) q;
      })

  sent_becomes : (o : Outcome Sends) (r : given.Answer) → Accepts r o → SendLeaves o e.link e'.link e.parts e'.parts
      → Becomes (after_send (station_of e) o) (acceptance r) e'
  sent_becomes (Outcome.refused x) r ans u = rw ans (refused_becomes e e' (Reply.refused x) fit u)
  sent_becomes (Outcome.done x) r ans q = record {
    station = with_state e e' x.state x.pool e.parts.receive_pool q.stands.state q.send_pool q.receive_pool
        (record { table = ap length q.table; acks = ap length q.acks });
    answer = rw ans;
    counts = q.stands.counts;
  }

  took_becomes : (o : Outcome Took) (r : given.Answer) → Accepts r o → InputLeaves o e.link e'.link e.parts e'.parts
      → Becomes (after_take_in (station_of e) o) (acceptance r) e'
  took_becomes (Outcome.refused x) r ans u = rw ans (refused_becomes e e' (Reply.refused x) fit u)
  took_becomes (Outcome.done x) r ans q = record {
    station = with_state e e' x.state e.parts.send_pool x.pool q.stands.state q.send_pool q.receive_pool
        (record {
          table = ap length q.table ∙ scattered_length e.parts.table _ _;
          acks = q.ack_length;
        });
    answer = rw ans;
    counts = q.stands.counts;
  }

  flush_becomes : (f f' : FlushParts) (x : Flushed) (r : Count) → r ≡ Ok (length x.datagrams)
      → Flushes x e'.link e.parts e'.parts f f'
      → FlushFits x f
      → Becomes (after_flush (station_of e) x) (datagrams_seen r f') e'
  flush_becomes f f' x r ans q fits = record {
    station = with_state e e' x.state e.parts.send_pool e.parts.receive_pool q.stands.state q.send_pool q.receive_pool
        (record {
          table = ap length q.table ∙ scattered_length e.parts.table _ _;
          acks = ap length q.acks;
        });
    answer = rw ans
        (ap Reply.wrote
        (sym
        (output_cut (map bytes_of_segments x.datagrams) f.output f.lengths (length x.datagrams) f'.output f'.lengths
        q.output fits.bytes
        (omega (arith, fits.number, length-map x.datagrams bytes_of_segments)))));
    counts = q.stands.counts;
  }

  update_becomes : (f f' : FlushParts) (u : Updates) (r : Update) → r ≡ update_answer (Outcome.done u)
      → UpdateLeaves (Outcome.done u) e.link e'.link e.parts e'.parts f f'
      → UpdateFits u f
      → Becomes (after_update (station_of e) u) (update_seen r f') e'
  update_becomes f f' (Updates.waits s) r ans q fits = record {
    station = same_parts s q.stands.state q.parts;
    answer = rw ans;
    counts = q.stands.counts;
  }
  update_becomes f f' (Updates.flushes x) r ans q fits =
      rw ans (flush_becomes f f' x (Ok (length x.datagrams)) refl q fits)

  read_becomes : (buffer buffer' : List ℕ) (o : Outcome Reads) (r : Count) → Counts (λ (x : Reads). length x.bytes) r o
      → ReadLeaves o e.link e'.link e.parts e'.parts buffer buffer'
      → ReadFits (length buffer) o
      → Becomes (after_reading (station_of e) o) (message_seen r buffer') e'
  read_becomes buffer buffer' (Outcome.refused x) r ans q f = rw ans (refused_becomes e e' (Reply.refused x) fit q.unchanged)
  read_becomes buffer buffer' (Outcome.done x) r ans q f = record {
    station = same_parts x.state q.stands.state q.parts;
    answer = rw (ans, q.bytes) (ap Reply.message (sym (front_again buffer x.bytes f)));
    counts = q.stands.counts;
  }

-- ---- calls that pass the checks of 7 and 13

module _ (e : Endpoint) (long : enough (mss e.link.settings) (lengths_of e.parts) ≡ true) (made : is_made e.link e.parts ≡ true)
  where
    sends_own : (m : List ℕ) → sends e.link e.parts m ≡ sending (state_in e.link e.parts) e.parts.send_pool m
    unfolding sends_with
    sends_own m = rw (long, made)

    takes_own : (d : List ℕ) → takes_in e.link e.parts d ≡ input (state_in e.link e.parts) e.parts.receive_pool d
    unfolding takes_in_with
    takes_own d = rw (long, made)

    reads_own : (room : ℕ) → reads e.link e.parts room ≡ reading (state_in e.link e.parts) e.parts.receive_pool room
    unfolding reads_with
    reads_own room = rw (long, made)

    checks_own : (t : ℕ) → checks e.link e.parts t ≡ Outcome.done (checking (state_in e.link e.parts) t)
    unfolding checks_with
    checks_own t = rw (long, made)

updates_own : (e : Endpoint) (t : ℕ) (f : FlushParts)
    → enough_to_flush (mss e.link.settings) (lengths_of e.parts) (length f.output) (length f.lengths) ≡ true
    → is_made e.link e.parts ≡ true
    → updates e.link e.parts f t ≡ Outcome.done (updating (state_in e.link e.parts) t e.parts.send_pool)
unfolding updates_with
updates_own e t f long made = rw (long, made)

flushes_own : (e : Endpoint) (t : ℕ) (f : FlushParts)
    → enough_to_flush (mss e.link.settings) (lengths_of e.parts) (length f.output) (length f.lengths) ≡ true
    → is_made e.link e.parts ≡ true
    → flushes e.link e.parts f t ≡ Outcome.done (flushing (state_in e.link e.parts) t e.parts.send_pool)
unfolding flushes_with
flushes_own e t f long made = rw (long, made)

-- ---- any call of an endpoint in order

-- an endpoint that opening and calls leave: its counts are within the arrays, and its station is in order
pub record Preserved (c : Settings) (e : Endpoint) : Type 0 where
  pub counts : counts_fit e.link ≡ true
  pub order : InOrder c (station_of e)

module _ (c : Settings) (range : in_range c ≡ true) (conv : c.conv < 2 ^ 32) (e : Endpoint) (k : Preserved c e) where
  is_valid : valid (station_of e).state ≡ true
  is_valid = in_order_valid c range (station_of e) k.order

  pub is_made_lem : is_made e.link e.parts ≡ true
  unfolding block_valid
  is_made_lem = rw (k.counts, is_valid)

  pub is_long : enough (mss e.link.settings) (lengths_of e.parts) ≡ true
  unfolding state_of
  is_long =
      flush_enough (mss e.link.settings) (lengths_of e.parts) output_least lengths_least
      (in_order_long c range (station_of e) (Call.flush 0) k.order)

  -- whatever its schedule
  flush_fits : (t : ℕ) (f : FlushParts) (x : Schedule) → t < 2 ^ 32 → Room f
      → FlushFits (flushing (with_schedule (state_in e.link e.parts) x) t e.parts.send_pool) f
  flush_fits t f x time room =
      let w = flush_writes (rescheduled (station_of e) x) t (valid_rescheduled (station_of e).state x ∙ is_valid) k.order.sends.fits
      k.order.receives.fits.carries (rw k.order.sends.settings conv)
      (in_order_long c range (station_of e) (Call.flush t) k.order) time in
      record {
        bytes =
            rw (joined_flatten (map bytes_of_segments
            (flushing (with_schedule (state_in e.link e.parts) x) t e.parts.send_pool).datagrams))
            (omega (arith, w.output, room.long));
        number = omega (arith, w.lengths, room.many);
      }

  update_fits : (t : ℕ) (f : FlushParts) → t < 2 ^ 32 → Room f
      → UpdateFits (updating (state_in e.link e.parts) t e.parts.send_pool) f
  update_fits t f time room =
      updating_cases (λ (u : Updates). UpdateFits u f) (state_in e.link e.parts) t e.parts.send_pool
      (flush_fits t f (scheduled_at (state_in e.link e.parts) t) time room) tt

  -- what the call promises makes it the station's own
  pub own_call : (x : Call) (a : Reply) (e' : Endpoint) → CallFits x → Called e x a e' → Becomes (own (station_of e) x) a e'
  own_call (Call.send m) a e' f h =
      rw h.sees
      (sent_becomes e e' k.counts (sending (state_in e.link e.parts) e.parts.send_pool m) h.gives
      (rw (sends_own e is_long is_made_lem m) at h.promise.answer)
      (rw (sends_own e is_long is_made_lem m) at h.promise.leaves))
  own_call (Call.take_in d) a e' f h =
      rw h.sees
      (took_becomes e e' k.counts (input (state_in e.link e.parts) e.parts.receive_pool d) h.gives
      (rw (takes_own e is_long is_made_lem d) at h.promise.answer)
      (rw (takes_own e is_long is_made_lem d) at h.promise.leaves))
  own_call (Call.flush t) a e' f h =
      let o = flushes_own e t h.lent
      (long_flush (mss e.link.settings) (lengths_of e.parts) (length h.lent.output) (length h.lent.lengths) is_long
      h.room.long
      h.room.many) is_made_lem in
      rw h.sees
      (flush_becomes e e' k.counts h.lent h.after (flushing (state_in e.link e.parts) t e.parts.send_pool) h.gives
      (rw o at h.promise.answer)
      (rw o at h.promise.leaves)
      (flush_fits t h.lent (station_of e).state.schedule f h.room))
  own_call (Call.update t) a e' f h =
      let o = updates_own e t h.lent
      (long_flush (mss e.link.settings) (lengths_of e.parts) (length h.lent.output) (length h.lent.lengths) is_long
      h.room.long
      h.room.many) is_made_lem in
      rw h.sees
      (update_becomes e e' k.counts h.lent h.after
      (updating (state_in e.link e.parts) t e.parts.send_pool) h.gives
      (rw o at h.promise.answer)
      (rw o at h.promise.leaves)
      (update_fits t h.lent f h.room))
  own_call (Call.check t) a e' f h = record {
    station = ap station_of (sym h.same);
    answer = sym (h.sees ∙ named_seen h.gives _ (h.promise.answer ∙ checks_own e is_long is_made_lem t));
    counts = rw h.same k.counts;
  }
  own_call (Call.read room) a e' f h =
      rw (h.sees, ← h.long)
      (read_becomes e e' k.counts h.buffer h.buffer'
      (reading (state_in e.link e.parts) e.parts.receive_pool (length h.buffer)) h.gives
      (rw (reads_own e is_long is_made_lem (length h.buffer)) at h.promise.answer)
      (rw (reads_own e is_long is_made_lem (length h.buffer)) at h.promise.leaves)
      (reading_fits (state_in e.link e.parts) e.parts.receive_pool (length h.buffer)))

  -- and it leaves an endpoint in order
  pub preserved_call : (x : Call) (a : Reply) (e' : Endpoint) → CallFits x → Called e x a e' → Preserved c e'
  preserved_call x a e' f h =
      let b = own_call x a e' f h in
      record { counts = b.counts; order = rw b.station at (in_order_stays c range (station_of e) x f k.order) }

  pub step_call : (x : Call) (a : Reply) (e' : Endpoint) → CallFits x → Called e x a e'
      → step (station_of e) x ≡ record { station = station_of e'; answer = a }
  step_call x a e' f h =
      let b = own_call x a e' f h in
      step_own (station_of e) x (in_order_long c range (station_of e) x k.order)
      is_valid ∙ (λ i. record { station = b.station i; answer = b.answer i })
