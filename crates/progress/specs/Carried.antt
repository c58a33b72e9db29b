-- What a flush writes, datagram by datagram, as its peer takes it in. Of the count of queued segments that it numbers, all that is used
-- is that they are queued, and within 32 of snd_una.
-- A proof layer: no statement cites it.
-- Assumes nothing.
use Rattle.std.specs.Prelude.{◌≡◌, refl, Bool, true, ◌||◌, ℕ, ◌+◌, ◌*◌, ◌^◌, ◌≤◌, ◌<◌, length, take}
use Rattle.std.proofs.Common.{ap, arith, length-take, length-append}
use mathlib.Core.List.{List, [], ◌∷◌, map, flatten}
use Rattle.std.proofs.lemmas.List.{length-map}
use Rattle.protocol.specs.Protocol.{send_window, send_slots, acks_most}
use Rattle.protocol.specs.Ranges.{in_range, mss}
use Rattle.protocol.specs.Serial.{minus}
use Rattle.protocol.specs.declared.Settings.{Settings}
use Rattle.datagram.specs.Datagrams.{Segment, Parsed, parse}
use Rattle.timing.specs.Probes.{next_clock}
use Rattle.lists.specs.declared.Sent.{Sent}
use Rattle.schedule.specs.declared.Schedule.{Schedule}
use Rattle.session.specs.State.{State, Sending, Ack, with_schedule}
use Rattle.session.specs.Flushing.{
  window_of,
  numbered_count,
  with_numbered,
  ruled,
  afterwards,
  carried,
  ack_segment,
  data_segment,
  written,
  bytes_of_segments,
  packed,
  flushing,
}
use Rattle.session.specs.Calls.{Station}
use Rattle.session.specs.Decides.{All}
use Rattle.session.specs.AllLaws.{all_any, all_unmapped, all_weaker}
use Rattle.session.specs.RuleLaws.{all_transmitted}
use Rattle.delivery.specs.Hearing.{FewPushes}
use Rattle.delivery.specs.StateRange.{CarryFits}
use Rattle.delivery.specs.PackingLaws.{packed_flat, each_flat, flat_each}
use Rattle.delivery.specs.WireLaws.{all_written, data_written}
use Rattle.delivery.specs.FlushLaws.{sent_with, valid_parts, flush_writes_any}
use Rattle.delivery.specs.SendingHalf.{Half}
use Rattle.delivery.specs.SendingStays.{half_in}
use Rattle.delivery.specs.SendingFlushes.{flushed_with, count_few, count_room, window_most}
use Rattle.delivery.specs.AlwaysValid.{InOrder, in_order_valid}
use Rattle.delivery.specs.SenderModel.{numbered_end}
use Rattle.delivery.specs.SentGenuine.{IfPush, Small, small_datagrams, new_numbers}
use Rattle.progress.specs.Had.{Pushes, HasAck}
use Rattle.progress.specs.Outstanding.{numbers_of, Says, flush_under}

-- a datagram that a link of these settings takes in, with some segments, of each of which P holds
pub record Carries (c : Settings) (P : Segment → Type 0) (d : List ℕ) : Type 0 where
  pub segments : List Segment
  pub parses : parse c.conv (mss c) d ≡ Parsed.segments segments
  pub some : 0 < length segments
  pub each : All P segments

pub carries_weaker : (c : Settings) (P Q : Segment → Type 0) → ((g : Segment) → P g → Q g)
    → (ds : List (List ℕ)) → All (Carries c P) ds → All (Carries c Q) ds
carries_weaker c P Q f =
    all_weaker (Carries c P) (Carries c Q)
    (λ d x. record { segments = x.segments; parses = x.parses; some = x.some; each = all_weaker P Q f x.segments x.each })

-- ---- datagrams made of segments

abbrev Reads : Settings → List Segment → Type 0
Reads c d = parse c.conv (mss c) (bytes_of_segments d) ≡ Parsed.segments d

-- one that reads back is not empty
some_segments : (c : Settings) (d : List Segment) → Reads c d → 0 < length d
unfolding parse bytes_of_segments
some_segments c [] e = absurd (let z : ◌≡◌ {A = ℕ} 0 1 = cc in omega arith)
some_segments c (g ∷ gs) e = omega arith

carries_each : (c : Settings) (P : Segment → Type 0) (ds : List (List Segment)) → All (Reads c) ds → All (All P) ds
    → All (Carries c P) (map bytes_of_segments ds)
carries_each c P [] r a = tt
carries_each c P (d ∷ ds) r a =
    (record { segments = d; parses = r.0; some = some_segments c d r.0; each = a.0 }, carries_each c P ds r.1 a.1)

carries_packed : (c : Settings) (P : Segment → Type 0) (gs : List Segment) → All (Reads c) (packed c.mtu gs) → All P gs
    → All (Carries c P) (map bytes_of_segments (packed c.mtu gs))
carries_packed c P gs r a =
    carries_each c P (packed c.mtu gs) r (flat_each P (packed c.mtu gs) (rw (packed_flat c.mtu gs) a))

-- where some segment is written, some datagram is
some_datagram : (mtu : ℕ) (gs : List Segment) → 0 < length gs → 0 < length (map bytes_of_segments (packed mtu gs))
unfolding flatten
some_datagram mtu gs h = go (packed mtu gs) (packed_flat mtu gs)
  where
    go : (ds : List (List Segment)) → flatten ds ≡ gs → 0 < length (map bytes_of_segments ds)
    go [] e = absurd (omega (arith, ap length e))
    go (d ∷ ds) e = omega arith

-- ---- the segments of a flush of the state s at t that numbers k queued segments

module _ (s : State) (t k : ℕ) (pool : List ℕ) (ask : Bool) where
  abbrev c : Settings
  c = s.settings

  abbrev sent : List Sent
  sent = sent_with s.settings t k s.sending

  abbrev segs : List Segment
  segs = written s t pool ask (sent_with s.settings t k s.sending)

  abbrev push_of : Sent → Segment
  push_of = data_segment (carried s) (mss s.settings) t pool

  -- its pushes are outstanding afterwards
  written_pushes : (N : ℕ) → All (λ (n : ℕ). n < N) (numbers_of (flushed_with c t k s.sending).outstanding) → All (Pushes N) segs
  written_pushes N a =
      let rules = ruled c s.sending.round_trip.timeout t (with_numbered s.sending k) in
      all_written s t pool ask sent (Pushes N)
      (all_any (λ (x : Ack). Pushes N (ack_segment (carried s) x)) (λ x e. absurd (omega arith)) s.receiving.acks)
      (λ e. absurd (omega arith))
      (λ e. absurd (omega arith))
      (all_weaker (λ (x : Sent). x.record.number < N) (λ (x : Sent). Pushes N (push_of x)) (λ x h e. h) sent
      (all_transmitted (λ (x : Sent). x.record.number < N) rules
      (all_unmapped (λ (n : ℕ). n < N) (λ (x : Sent). x.record.number) (afterwards rules) a)))

  -- una is rcv_nxt, and what is acknowledged is had
  written_says : All (HasAck s.receiving) s.receiving.acks → All (Says s.receiving) segs
  written_says a =
      all_written s t pool ask sent (Says s.receiving)
      (all_weaker (HasAck s.receiving) (λ (x : Ack). Says s.receiving (ack_segment (carried s) x)) (λ x h. (omega arith, λ e. h))
      s.receiving.acks a)
      (omega arith, λ e. absurd (omega arith))
      (omega arith, λ e. absurd (omega arith))
      (all_any (λ (x : Sent). Says s.receiving (push_of x)) (λ x. (omega arith, λ e. absurd (omega arith))) sent)

  written_una : All (λ (g : Segment). g.header.una ≡ s.receiving.next) segs
  written_una =
      all_written s t pool ask sent (λ (g : Segment). g.header.una ≡ s.receiving.next)
      (all_any (λ (x : Ack). (ack_segment (carried s) x).header.una ≡ s.receiving.next) (λ x. refl) s.receiving.acks)
      refl
      refl
      (all_any (λ (x : Sent). (push_of x).header.una ≡ s.receiving.next) (λ x. refl) sent)

  -- something is written where an ack is noted
  written_some : 0 < length s.receiving.acks → 0 < length segs
  unfolding written
  written_some h = simp (length-append, length-map) (omega arith)

  -- numbers stay below 2^30 where all pushes do: each newly numbered segment is written
  written_low : k ≤ length s.sending.queued → minus s.sending.next s.sending.una + k ≤ send_window → s.sending.next ≤ 2 ^ 30
      → All (Reads c) (packed c.mtu segs) → FewPushes c (map bytes_of_segments (packed c.mtu segs)) → s.sending.next + k ≤ 2 ^ 30
  written_low few room low reads small =
      let count : length (take k s.sending.queued) ≡ k = simp length-take (omega arith) in
      let pushed : All (IfPush Small) segs =
      rw (packed_flat c.mtu segs) at
      (each_flat (IfPush Small) (packed c.mtu segs) (small_datagrams c (packed c.mtu segs) reads small)) in
      let each : All (λ (x : Sent). x.record.number < 2 ^ 30) sent =
      all_weaker (λ (x : Sent). IfPush Small (push_of x)) (λ (x : Sent). x.record.number < 2 ^ 30) (λ x f. f refl) sent
      (data_written s t pool ask sent (IfPush Small) pushed) in
      let new = new_numbers c s.sending.round_trip.timeout t (λ (n : ℕ). n < 2 ^ 30) s.sending k each in
      omega (arith, count, numbered_end s.sending.next (take k s.sending.queued) low (omega (arith, count)) new)

-- ---- the flush of a state

-- how many queued segments it numbers
abbrev pub numbers : State → ℕ
numbers s = numbered_count (window_of s) s.sending

-- what it writes
abbrev pub wrote_by : State → ℕ → List ℕ → List (List ℕ)
wrote_by s t pool = map bytes_of_segments (flushing s t pool).datagrams

-- what is known of a state that flushes
pub record Flushable (s : State) (pool : List ℕ) : Type 0 where
  pub range : in_range s.settings ≡ true
  pub conv : s.settings.conv < 2 ^ 32
  pub few_acks_lem : length s.receiving.acks ≤ acks_most
  pub half : Half s.settings s.sending
  pub carry : CarryFits s.receiving
  pub long : send_slots * mss s.settings ≤ length pool

pub in_order_flushable : (a : Station) → in_range a.state.settings ≡ true → a.state.settings.conv < 2 ^ 32
    → InOrder a.state.settings a → Flushable a.state a.send_pool
in_order_flushable a range conv32 o = record {
  range = range;
  conv = conv32;
  few_acks_lem = (valid_parts a.state (in_order_valid a.state.settings range a o)).few_acks;
  half = half_in a.state.settings a o.sends;
  carry = o.receives.fits.carries;
  long = o.sends.long;
}

-- a flush does not look at the schedule
pub flushable_rescheduled : (s : State) (pool : List ℕ) (k : Schedule) → Flushable s pool → Flushable (with_schedule s k) pool
flushable_rescheduled s pool k f =
    record { range = f.range; conv = f.conv; few_acks_lem = f.few_acks_lem; half = f.half; carry = f.carry; long = f.long }

module _ (s : State) (pool : List ℕ) (f : Flushable s pool) where
  abbrev d : Sending
  d = s.sending

  pub few_numbers : numbers s ≤ length d.queued
  few_numbers = count_few (window_of s) d

  near_numbers : minus d.next d.una + numbers s ≤ send_window
  near_numbers = count_room (window_of s) d (window_most s) f.half.numbers.apart

  module _ (t : ℕ) (time : t < 2 ^ 32) where
    abbrev asks : Bool
    asks = s.ask || (next_clock s.probe t s.sending.window).ask

    abbrev gs : List Segment
    gs = written s t pool asks (sent_with s.settings t (numbers s) s.sending)

    parsed : All (Reads s.settings) (packed s.settings.mtu gs)
    parsed =
        (flush_writes_any s t (numbers s) pool asks f.range f.few_acks_lem few_numbers near_numbers f.half f.conv f.carry time
        f.long).parsed

    carries_flush : (P : Segment → Type 0) → All P gs → All (Carries s.settings P) (wrote_by s t pool)
    unfolding flushing
    carries_flush P h = carries_packed s.settings P gs parsed h

    -- una is rcv_nxt in each segment
    pub flush_una : All (Carries s.settings (λ (g : Segment). g.header.una ≡ s.receiving.next)) (wrote_by s t pool)
    flush_una = carries_flush (λ (g : Segment). g.header.una ≡ s.receiving.next) (written_una s t (numbers s) pool asks)

    -- where an ack is noted, a datagram is written
    pub flush_some : 0 < length s.receiving.acks → 0 < length (wrote_by s t pool)
    unfolding flushing
    flush_some h = some_datagram s.settings.mtu gs (written_some s t (numbers s) pool asks h)

    pub flush_says : All (HasAck s.receiving) s.receiving.acks → All (Carries s.settings (Says s.receiving)) (wrote_by s t pool)
    flush_says h = carries_flush (Says s.receiving) (written_says s t (numbers s) pool asks h)

    -- where pushes are few, numbers end at 2^30 at most; and the other way round
    pub flush_low : d.next ≤ 2 ^ 30 → FewPushes s.settings (wrote_by s t pool) → d.next + numbers s ≤ 2 ^ 30
    unfolding flushing
    flush_low low few = written_low s t (numbers s) pool asks few_numbers near_numbers low parsed few

    pub flush_pushes : d.next + numbers s ≤ 2 ^ 30 → All (λ (n : ℕ). n < d.next) (numbers_of d.outstanding)
        → All (Carries s.settings (Pushes (d.next + numbers s))) (wrote_by s t pool)
    flush_pushes top under =
        carries_flush (Pushes (d.next + numbers s))
        (written_pushes s t (numbers s) pool asks (d.next + numbers s) (flush_under s.settings t (numbers s) d few_numbers top under))
