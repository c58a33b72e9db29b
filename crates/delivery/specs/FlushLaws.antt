-- What a link writes, a link of the same settings takes in: each datagram of a flush is at most mtu bytes and parses to its segments;
-- and the output that a flush is lent suffices, 50,992 bytes and 290 lengths.
-- Assumes nothing.
use Rattle.std.specs.Prelude.{◌≡◌, refl, Bool, true, ◌&&◌, ◌||◌, leb, length, take}
use Rattle.std.proofs.Common.{ap, ◌∙◌, leb-true}
use mathlib.Core.List.{List, [], ◌∷◌, map, flatten}
use Prim.Native.Nat.{ℕ, ◌+◌, ◌*◌, ◌^◌, ◌≤◌, ◌<◌, zero-le}
use native.Mathlib.Omega.{arith}
use Rattle.std.proofs.Math.ListN.{length-take, length-append, length-map}
use Rattle.protocol.specs.Protocol.{fragment_most, send_slots, send_window, receive_slots, receive_window, acks_most, output_least, lengths_least}
use Rattle.protocol.specs.Ranges.{in_range, mss}
use Rattle.protocol.specs.Serial.{plus, minus}
use Rattle.protocol.specs.declared.Settings.{Settings}
use Rattle.datagram.specs.Datagrams.{Segment, Parsed, parse}
use Rattle.datagram.specs.Joined.{Valid, AllValid}
use Rattle.datagram.proofs.JoinedLaws.{parse_whole}
use Rattle.timing.specs.Probes.{next_clock}
use Rattle.lists.specs.declared.Held.{Held}
use Rattle.lists.specs.declared.Sent.{Sent}
use Rattle.lists.specs.Orders.{sent_offset}
use Rattle.session.specs.State.{State, Sending, Receiving, send_held, receive_held}
use Rattle.session.specs.Valid.{all, held_fits, slots_fit, waiting_fits, settled, sending_valid, receiving_valid, valid}
use Rattle.session.specs.Flushing.{
  numbered,
  window_of,
  numbered_count,
  with_numbered,
  ruling,
  ruled,
  transmitted,
  written,
  bytes_of_segments,
  packed,
  flushing,
}
use Rattle.session.specs.Calls.{Station, Call, lengths_of, long_enough}
use Rattle.session.specs.Decides.{All, and_parts}
use Rattle.session.specs.AllLaws.{all_any, all_left, all_unmapped, all_weaker}
use Rattle.session.specs.RuleLaws.{all_transmitted, transmitted_few}
use Rattle.session.specs.Ascending.{Ascends, ascending_ascends}
use Rattle.session.specs.SendingValid.{sending_decides}
use Rattle.session.specs.SendOrder.{ascends_length}
use Rattle.delivery.specs.StateRange.{SendingFits, CarryFits}
use Rattle.delivery.specs.SendingHalf.{SentWell, Half, half_of}
use Rattle.delivery.specs.SendingFlushes.{flushed_with, flushed_held, half_flushed, window_most, count_few, count_room}
use Rattle.delivery.specs.SizeLaws.{enough_pool}
use Rattle.delivery.specs.PackingLaws.{Datagram, bytes_joined, packed_each, packed_count, packed_bytes}
use Rattle.delivery.specs.WireLaws.{DataFits, written_valid, written_short, written_few, written_bytes}

-- ---- what a flush transmits

-- outstanding segments of a half in order can be written
half_data : (c : Settings) (s : Sending) → Half c s → All (DataFits (mss c)) s.outstanding
half_data c s h =
    go s.outstanding
    (all_left (λ (x : Held). x.len ≤ mss c) (map (λ (x : Sent). x.held) s.outstanding) s.queued h.held.lengths)
    (all_left (λ (x : Held). x.fragment ≤ fragment_most) (map (λ (x : Sent). x.held) s.outstanding) s.queued h.held.fragments)
    (all_left (λ (x : Held). x.slot < send_slots) (map (λ (x : Sent). x.held) s.outstanding) s.queued h.held.low)
    h.sent
  where
    go : (l : List Sent) →
        All (λ (x : Held). x.len ≤ mss c) (map (λ (x : Sent). x.held) l) →
        All (λ (x : Held). x.fragment ≤ fragment_most) (map (λ (x : Sent). x.held) l) →
        All (λ (x : Held). x.slot < send_slots) (map (λ (x : Sent). x.held) l) →
        All (SentWell c.mode) l →
        All (DataFits (mss c)) l
    go [] a b d e = tt
    go (x ∷ l) a b d e = (
      record { len = a.0; fragment = b.0; slot = d.0; number = e.0.fits.number },
      go l a.1 b.1 d.1 e.1,
    )

-- ---- a flush's datagrams

pub record FlushWrites (c : Settings) (ds : List (List Segment)) : Type 0 where
  -- each datagram is at most mtu bytes
  pub fit : All (λ (d : List Segment). length (bytes_of_segments d) ≤ c.mtu) ds
  -- a link of the same settings takes in its segments
  pub parsed : All (λ (d : List Segment). parse c.conv (mss c) (bytes_of_segments d) ≡ Parsed.segments d) ds
  -- the lent output suffices
  pub output : length (flatten (map bytes_of_segments ds)) ≤ output_least
  pub lengths : length ds ≤ lengths_least

all_valid : (conv m : ℕ) (gs : List Segment) → All (Valid conv m) gs → AllValid conv m gs
all_valid conv m [] a = tt
all_valid conv m (g ∷ gs) a = (a.0, all_valid conv m gs a.1)

parses : (conv m mtu : ℕ) (d : List Segment) → Datagram (Valid conv m) mtu d → parse conv m (bytes_of_segments d) ≡ Parsed.segments d
parses conv m mtu [] h = absurd (omega (arith, h.some))
parses conv m mtu (g ∷ gs) h = ap (parse conv m) (bytes_joined (g ∷ gs)) ∙ parse_whole conv m g gs (all_valid conv m (g ∷ gs) h.each)

-- segments transmitted now, where k of the queued ones are numbered
abbrev pub sent_with : Settings → ℕ → ℕ → Sending → List Sent
sent_with c t k d = transmitted (ruled c d.round_trip.timeout t (with_numbered d k))

numbered_length : (n : ℕ) (q : List Held) → length (numbered n q) ≡ length q
unfolding numbered
numbered_length n [] = refl
numbered_length n (h ∷ q) = rw (numbered_length (plus n 1) q)

module _ (c : Settings) (t k : ℕ) (d : Sending) (few : k ≤ length d.queued) (room : minus d.next d.una + k ≤ send_window) where
  -- they are at most 32
  sent_few_lem : Ascends (sent_offset d.una) 0 (minus d.next d.una) d.outstanding → length (sent_with c t k d) ≤ send_window
  unfolding with_numbered
  sent_few_lem a =
      omega (
        arith,
        transmitted_few (ruled c d.round_trip.timeout t (with_numbered d k)),
        length-map (with_numbered d k) (ruling c d.round_trip.timeout t),
        length-append d.outstanding (numbered d.next (take k d.queued)),
        numbered_length d.next (take k d.queued),
        length-take k d.queued,
        ascends_length (sent_offset d.una) 0 (minus d.next d.una) d.outstanding zero-le a,
      )

  -- and no longer than what is held
  sent_short : All (λ (h : Held). h.len ≤ mss c) (send_held d) → All (λ (x : Sent). x.held.len ≤ mss c) (sent_with c t k d)
  sent_short a =
      let after : Sending = flushed_with c t k d in
      let held : All Short (send_held after) = rw (flushed_held c t k d few room) a in
      all_transmitted (λ (x : Sent). Short x.held) (ruled c d.round_trip.timeout t (with_numbered d k))
      (all_unmapped Short (λ (x : Sent). x.held) after.outstanding
      (all_left Short (map (λ (x : Sent). x.held) after.outstanding) after.queued held))
    where
      Short : Held → Type 0
      Short h = h.len ≤ mss c

module _ (s : State) (t k : ℕ) (pool : List ℕ) (ask : Bool)
    (range : in_range s.settings ≡ true)
    (few_acks : length s.receiving.acks ≤ acks_most)
    (few : k ≤ length s.sending.queued)
    (room : minus s.sending.next s.sending.una + k ≤ send_window) where
  abbrev sent : List Sent
  sent = sent_with s.settings t k s.sending

  abbrev ds : List (List Segment)
  ds = packed s.settings.mtu (written s t pool ask (sent_with s.settings t k s.sending))

  -- whatever numbers the state has
  module _ (lengths : All (λ (h : Held). h.len ≤ mss s.settings) (send_held s.sending))
      (ascends : Ascends (sent_offset s.sending.una) 0 (minus s.sending.next s.sending.una) s.sending.outstanding) where
    short : All (λ (x : Sent). x.held.len ≤ mss s.settings) sent
    short = sent_short s.settings t k s.sending few room lengths

    most : length sent ≤ send_window
    most = sent_few_lem s.settings t k s.sending few room ascends

    -- each datagram has some segments, of each of which P holds where it holds of all that is written
    datagrams_each : (P : Segment → Type 0) → All P (written s t pool ask sent) → All (Datagram P s.settings.mtu) ds
    datagrams_each P a = packed_each P s.settings.mtu (written s t pool ask sent) a
        (written_short s t pool ask sent range few_acks short most)

    datagrams_few : length ds ≤ lengths_least
    datagrams_few =
        omega (
          arith,
          packed_count Any s.settings.mtu (written s t pool ask sent)
              (datagrams_each Any (all_any Any (λ g. tt) (written s t pool ask sent))),
          written_few s t pool ask sent range few_acks short most,
        )
      where
        Any : Segment → Type 0
        Any g = Unit {0}

    datagrams_bytes : length (flatten (map bytes_of_segments ds)) ≤ output_least
    datagrams_bytes = rw (packed_bytes s.settings.mtu (written s t pool ask sent))
        (written_bytes s t pool ask sent range few_acks short most)

  module _ (half : Half s.settings s.sending)
      (conv32 : s.settings.conv < 2 ^ 32)
      (carry : CarryFits s.receiving)
      (time : t < 2 ^ 32)
      (long : send_slots * mss s.settings ≤ length pool) where
    sent_fit : All (DataFits (mss s.settings)) sent
    sent_fit =
        all_transmitted (DataFits (mss s.settings))
        (ruled s.settings s.sending.round_trip.timeout t (with_numbered s.sending k))
        (half_data s.settings (flushed_with s.settings t k s.sending) (half_flushed s.settings t k s.sending few room half))

    -- each datagram has some segments, valid ones
    datagrams_valid : All (Datagram (Valid s.settings.conv (mss s.settings)) s.settings.mtu) ds
    datagrams_valid =
        datagrams_each half.held.lengths half.numbers.ascends (Valid s.settings.conv (mss s.settings))
        (written_valid s t pool ask sent range conv32 carry time long sent_fit)

    pub flush_writes_any : FlushWrites s.settings
        (packed s.settings.mtu (written s t pool ask (sent_with s.settings t k s.sending)))
    flush_writes_any = record {
      fit = all_weaker D (λ (d : List Segment). length (bytes_of_segments d) ≤ s.settings.mtu) (λ d h. h.fits) ds datagrams_valid;
      parsed = all_weaker D (λ (d : List Segment). parse s.settings.conv (mss s.settings) (bytes_of_segments d) ≡ Parsed.segments d)
          (parses s.settings.conv (mss s.settings) s.settings.mtu)
          ds
          datagrams_valid;
      output = datagrams_bytes half.held.lengths half.numbers.ascends;
      lengths = datagrams_few half.held.lengths half.numbers.ascends;
    }
      where
        D : List Segment → Type 0
        D = Datagram (Valid s.settings.conv (mss s.settings)) s.settings.mtu

-- the parts of a valid state
pub record ValidParts (s : State) : Type 0 where
  pub range : in_range s.settings ≡ true
  pub sending : sending_valid s.settings s.sending ≡ true
  pub few_acks : length s.receiving.acks ≤ acks_most

few_acks_lem : (c : Settings) (r : Receiving) → receiving_valid c r ≡ true → length r.acks ≤ acks_most
unfolding receiving_valid
few_acks_lem c r e =
    leb-true (length r.acks) acks_most
    (and_parts (all (held_fits (mss c)) (receive_held r) && slots_fit receive_slots (receive_held r) && leb (length r.ready) receive_window
    && waiting_fits r && settled r) _ e).1

pub valid_parts : (s : State) → valid s ≡ true → ValidParts s
unfolding valid
valid_parts s e =
    let a = and_parts _ _ (and_parts _ _ (and_parts _ _ e).0).0 in
    let b = and_parts _ _ a.0 in
    record { range = b.0; sending = b.1; few_acks = few_acks_lem s.settings s.receiving a.1 }

-- A flush of a valid state in range writes datagrams that a link of the same settings takes in, and no more than the lent output holds
pub flush_writes : (s : Station) (t : ℕ) →
    valid s.state ≡ true →
    SendingFits s.state.sending →
    CarryFits s.state.receiving →
    s.state.settings.conv < 2 ^ 32 →
    long_enough s (Call.flush t) ≡ true →
    t < 2 ^ 32 →
    FlushWrites s.state.settings (flushing s.state t s.send_pool).datagrams
unfolding flushing
flush_writes s t v f carry conv32 long time =
    let p = valid_parts s.state v in
    let c : Settings = s.state.settings in
    let d : Sending = s.state.sending in
    let half : Half c d = half_of c d ((sending_decides c d).holds p.sending) f in
    flush_writes_any s.state t (numbered_count (window_of s.state) d) s.send_pool
    (s.state.ask || (next_clock s.state.probe t d.window).ask) p.range p.few_acks (count_few (window_of s.state) d)
    (count_room (window_of s.state) d (window_most s.state) half.numbers.apart) half conv32 carry time
    (enough_pool (mss c) (lengths_of s) s.lent.output s.lent.lengths long)

-- A flush of any valid state, its numbers in range or not, writes at most 290 datagrams
pub flush_few : (s : State) (t : ℕ) (pool : List ℕ) → valid s ≡ true → length (flushing s t pool).datagrams ≤ lengths_least
unfolding flushing
flush_few s t pool v =
    let p = valid_parts s v in
    let d : Sending = s.sending in
    let h = (sending_decides s.settings d).holds p.sending in
    datagrams_few s t (numbered_count (window_of s) d) pool (s.ask || (next_clock s.probe t d.window).ask) p.range p.few_acks
    (count_few (window_of s) d) (count_room (window_of s) d (window_most s) h.apart) h.lengths
    (ascending_ascends (sent_offset d.una) (minus d.next d.una) d.outstanding h.ascending)
