-- Every push that any flush wrote is the segment of its number of those numbered since opening, whatever the sender takes in.
-- Assumes nothing.
use Rattle.std.specs.Prelude.{◌≡◌, Bool, true, false, cond, ◌||◌, ℕ, ◌+◌, ◌^◌, ◌≤◌, ◌<◌, eqb, length, take}
use Rattle.std.proofs.Math.Path.{refl}
use Rattle.std.proofs.Common.{sym, ap, ◌∙◌, subst, arith, eqb-true, length-take}
use mathlib.Core.List.{List, [], ◌∷◌, ◌++◌, map, append_assoc, append-nil}
use Rattle.std.proofs.lemmas.Bool.{eqb-false}
use Rattle.protocol.specs.Protocol.{push, send_window}
use Rattle.protocol.specs.Ranges.{mss}
use Rattle.protocol.specs.Serial.{plus}
use Rattle.protocol.specs.declared.Settings.{Settings}
use Rattle.datagram.specs.Datagrams.{Segment, Parsed, parse}
use Rattle.retransmission.specs.Transmissions.{first_transmission, sending, is_sent}
use Rattle.retransmission.specs.TransmissionLaws.{when_never_sent, transmission_number}
use Rattle.timing.specs.Probes.{next_clock}
use Rattle.timing.specs.declared.Record.{Record}
use Rattle.retransmission.specs.declared.Transmission.{Transmission}
use Rattle.lists.specs.declared.Held.{Held}
use Rattle.lists.specs.declared.Sent.{Sent}
use Rattle.schedule.specs.declared.Schedule.{Schedule}
use Rattle.session.specs.State.{Sending, Ack, with_schedule}
use Rattle.session.specs.Valid.{valid}
use Rattle.session.specs.Opening.{opened}
use Rattle.session.specs.Input.{applied, ack_numbers}
use Rattle.session.specs.Flushing.{numbered_as, numbered, window_of, numbered_count, with_numbered, ruling, ruled, afterwards, transmitted, carried, ack_segment, data_segment, written, bytes_of_segments, packed, flushing}
use Rattle.session.specs.Calls.{Station, Call, Stepped, Event, after_flush, own, history, datagrams_in, datagrams_by}
use Rattle.session.specs.Decides.{All}
use Rattle.session.specs.AllLaws.{all_any, all_append, all_left, all_right, all_unmapped, all_weaker}
use Rattle.session.specs.RuleLaws.{sent_after, all_transmitted, sent_append}
use Rattle.delivery.specs.PlainReceiver.{push_numbers, pushes_of, pushes_in}
use Rattle.delivery.specs.Hearing.{Taken, CallFits, FewPushes}
use Rattle.delivery.specs.Stations.{Opened}
use Rattle.delivery.specs.Pieces.{Piece, piece_of, Genuine, pushes, GenuineDatagram}
use Rattle.delivery.specs.Passing.{Passing}
use Rattle.delivery.specs.PassingLaws.{history_first}
use Rattle.delivery.specs.CallCases.{scheduled_at, rescheduled, valid_rescheduled, own_cases}
use Rattle.delivery.specs.StateRange.{CarryFits}
use Rattle.delivery.specs.SendingHalf.{Half}
use Rattle.delivery.specs.SendPool.{piece_in}
use Rattle.delivery.specs.Numbering.{numbered_now, pieces_numbered}
use Rattle.delivery.specs.SendingFlushes.{window_most, count_few, count_room}
use Rattle.delivery.specs.SendingStays.{SendingInOrder, half_in, sending_stays, opened_in_order}
use Rattle.delivery.specs.PackingLaws.{packed_flat, each_flat, flat_each}
use Rattle.delivery.specs.WireLaws.{all_written, data_written}
use Rattle.delivery.specs.FlushLaws.{FlushWrites, sent_with, valid_parts, flush_writes_any}
use Rattle.delivery.specs.CarryLaws.{carry_stays}
use Rattle.delivery.specs.SenderModel as model
use Rattle.delivery.specs.SenderModel.{Shows, get_append, sends_taken, sends_more, numbered_end, with_numbered_lem, sends_flushed}

-- ---- pushes

-- what holds of a segment if it is a push
abbrev pub IfPush : (Segment → Type 0) → Segment → Type 0
IfPush P g = g.header.cmd ≡ push → P g

abbrev pub Small : Segment → Type 0
Small g = g.header.sn < 2 ^ 30

all_pushes : (P : Segment → Type 0) (gs : List Segment) → All (IfPush P) gs → All P (pushes gs)
unfolding pushes
all_pushes P [] a = tt
all_pushes P (g ∷ gs) a = go (eqb g.header.cmd push) refl (all_pushes P gs a.1)
  where
    go : (b : Bool) → eqb g.header.cmd push ≡ b → All P (pushes gs) → All P (cond b (g ∷ pushes gs) (pushes gs))
    go true e i = (a.0 (eqb-true g.header.cmd push e), i)
    go false e i = i

-- pushes with small numbers
small_pushes : (gs : List Segment) → All (λ (sn : ℕ). sn < 2 ^ 30) (push_numbers gs) → All (IfPush Small) gs
unfolding push_numbers
small_pushes [] a = tt
small_pushes (g ∷ gs) a = go (eqb g.header.cmd push) refl a (small_pushes gs)
  where
    go : (b : Bool) → eqb g.header.cmd push ≡ b →
        All (λ (sn : ℕ). sn < 2 ^ 30) (cond b (g.header.sn ∷ push_numbers gs) (push_numbers gs)) →
        (All (λ (sn : ℕ). sn < 2 ^ 30) (push_numbers gs) → All (IfPush Small) gs) →
        All (IfPush Small) (g ∷ gs)
    go true e h later = ((λ q. h.0), later h.1)
    go false e h later = ((λ q. absurd (eqb-false g.header.cmd push e q)), later h)

-- in a datagram that parses to its segments
small_datagram : (c : Settings) (d : List Segment) →
    parse c.conv (mss c) (bytes_of_segments d) ≡ Parsed.segments d →
    All (λ (sn : ℕ). sn < 2 ^ 30) (pushes_in c (bytes_of_segments d)) →
    All (IfPush Small) d
unfolding pushes_in
small_datagram c d e a = small_pushes d (subst (λ (p : Parsed). All (λ (sn : ℕ). sn < 2 ^ 30) (pushes_of p)) e a)

pub small_datagrams : (c : Settings) (ds : List (List Segment)) →
    All (λ (d : List Segment). parse c.conv (mss c) (bytes_of_segments d) ≡ Parsed.segments d) ds →
    FewPushes c (map bytes_of_segments ds) →
    All (All (IfPush Small)) ds
small_datagrams c [] e a = tt
small_datagrams c (d ∷ ds) e a = (small_datagram c d e.0 a.0, small_datagrams c ds e.1 a.1)

genuine_datagrams : (c : Settings) (pieces : List Piece) (ds : List (List Segment)) →
    All (λ (d : List Segment). parse c.conv (mss c) (bytes_of_segments d) ≡ Parsed.segments d) ds →
    All (All (IfPush (Genuine pieces))) ds →
    All (GenuineDatagram c pieces) (map bytes_of_segments ds)
genuine_datagrams c pieces [] e a = tt
genuine_datagrams c pieces (d ∷ ds) e a = (
  record { its_segments = d; parses = e.0; genuine = all_pushes (Genuine pieces) d a.0 },
  genuine_datagrams c pieces ds e.1 a.1,
)

-- ---- all newly numbered segments are transmitted

module _ (c : Settings) (link t : ℕ) where
  new_sends : (n : ℕ) (h : Held) → is_sent (ruling c link t (numbered_as n h)).rule ≡ true
  new_sends n h =
      let r : Record = record { number = n; due = 0; timeout = 0; skips = 0 } in
      sym (ap (λ (x : Transmission). is_sent x) (when_never_sent c link t 0 r {x = sending 0 (first_transmission c.mode link t r)} refl
      refl))

  pub transmitted_new : (n : ℕ) (q : List Held) → transmitted (ruled c link t (numbered n q)) ≡ map (sent_after c link t) (numbered n q)
  unfolding transmitted numbered
  transmitted_new n [] = refl
  transmitted_new n (h ∷ q) = rw (new_sends n h)
      (ap {B = List Sent} (λ (r : List Sent). sent_after c link t (numbered_as n h) ∷ r) (transmitted_new (plus n 1) q))

  -- what holds of each transmitted segment's number holds of the newly numbered ones
  pub new_numbers : (P : ℕ → Type 0) (s : Sending) (k : ℕ) →
      All (λ (x : Sent). P x.record.number) (transmitted (ruled c link t (with_numbered s k))) →
      All (λ (x : Sent). P x.record.number) (numbered s.next (take k s.queued))
  unfolding with_numbered
  new_numbers P s k a =
      same (numbered s.next (take k s.queued))
      (all_unmapped (λ (x : Sent). P x.record.number) (sent_after c link t) (numbered s.next (take k s.queued))
      (rw (transmitted_new s.next (take k s.queued)) at
      (all_right (λ (x : Sent). P x.record.number) (transmitted (ruled c link t s.outstanding))
      (transmitted (ruled c link t (numbered s.next (take k s.queued))))
      (rw (sent_append c link t s.outstanding (numbered s.next (take k s.queued))) at a))))
    where
      same : (l : List Sent) → All (λ (x : Sent). P (sent_after c link t x).record.number) l → All (λ (x : Sent). P x.record.number) l
      same [] a = tt
      same (x ∷ l) a = (rw (transmission_number c link t x.transmissions x.record) at a.0, same l a.1)

  shows_after : (m : ℕ) (pool : List ℕ) (pieces : List Piece) (l : List Sent) →
      All (Shows m pool pieces) l →
      All (Shows m pool pieces) (afterwards (ruled c link t l))
  shows_after m pool pieces [] a = tt
  shows_after m pool pieces (x ∷ l) a = (
    record {
      its_piece = rw (transmission_number c link t x.transmissions x.record) a.0.its_piece;
      small = rw (transmission_number c link t x.transmissions x.record) a.0.small;
    },
    shows_after m pool pieces l a.1,
  )

-- ---- one call

-- what a call leaves, with the pieces numbered before it: the half shows those and the ones numbered now, and so do its datagrams
record Wrote (c : Settings) (s : Station) (pieces : List Piece) (y : Stepped) : Type 0 where
  shows : model.Sends (mss c) y.station.send_pool (pieces ++ numbered_now s y.answer) y.station.state.sending
  genuine : All (GenuineDatagram c (pieces ++ numbered_now s y.answer)) (datagrams_in y.answer)

module _ (s : Station) (pieces : List Piece) (made : valid s.state ≡ true) (conv32 : s.state.settings.conv < 2 ^ 32)
    (o : SendingInOrder s.state.settings s) (carry : CarryFits s.state.receiving)
    (h : model.Sends (mss s.state.settings) s.send_pool pieces s.state.sending) where
  abbrev c : Settings
  c = s.state.settings

  abbrev d : Sending
  d = s.state.sending

  half : Half c d
  half = half_in c s o

  same : model.Sends (mss c) s.send_pool (pieces ++ []) d
  same = rw (append-nil pieces) h

  module _ (t : ℕ) (time : t < 2 ^ 32) (few : FewPushes s.state.settings
      (map bytes_of_segments (flushing s.state t s.send_pool).datagrams)) where
    abbrev k : ℕ
    k = numbered_count (window_of s.state) s.state.sending

    abbrev ask : Bool
    ask = s.state.ask || (next_clock s.state.probe t s.state.sending.window).ask

    abbrev segs : List Segment
    segs = written s.state t s.send_pool ask (sent_with c t k d)

    abbrev link : ℕ
    link = s.state.sending.round_trip.timeout

    flush_datagrams : (flushing s.state t s.send_pool).datagrams ≡ packed c.mtu segs
    unfolding flushing
    flush_datagrams = refl

    writes : FlushWrites c (packed c.mtu segs)
    writes =
        let p = valid_parts s.state made in
        flush_writes_any s.state t k s.send_pool ask p.range p.few_acks (count_few (window_of s.state) d)
        (count_room (window_of s.state) d (window_most s.state) half.numbers.apart) half conv32 carry time o.long

    -- the numbers of what is transmitted
    small_sent : All (λ (x : Sent). x.record.number < 2 ^ 30) (sent_with c t k d)
    small_sent =
        all_weaker (λ (x : Sent). IfPush Small (data_segment (carried s.state) (mss c) t s.send_pool x))
        (λ (x : Sent). x.record.number < 2 ^ 30) (λ x f. f refl) (sent_with c t k d)
        (data_written s.state t s.send_pool ask (sent_with c t k d) (IfPush Small)
        (rw (packed_flat c.mtu segs) at (each_flat (IfPush Small) (packed c.mtu segs)
        (small_datagrams c (packed c.mtu segs) writes.parsed (rw flush_datagrams at few)))))

    end : d.next + k ≤ 2 ^ 30
    end =
        let count : length (take k d.queued) ≡ k = simp length-take (omega (arith, count_few (window_of s.state) d)) in
        let few32 : length (take k d.queued) ≤ send_window =
        omega (arith, count, count_room (window_of s.state) d (window_most s.state) half.numbers.apart) in
        omega (
          arith,
          count,
          numbered_end d.next (take k d.queued) h.low few32
              (new_numbers c link t (λ (n : ℕ). n < 2 ^ 30) d k small_sent),
        )

    -- the pieces numbered then
    abbrev more : List Piece
    more = pieces ++ map (piece_in (mss s.state.settings) s.send_pool)
        (take (numbered_count (window_of s.state) s.state.sending) s.state.sending.queued)

    shown : All (Shows (mss c) s.send_pool more) (afterwards (ruled c link t (with_numbered d k)))
    shown =
        shows_after c link t (mss c) s.send_pool more (with_numbered d k)
        (with_numbered_lem (mss c) s.send_pool pieces c t k d (count_few (window_of s.state) d) end h)

    genuine_segs : All (IfPush (Genuine more)) segs
    genuine_segs =
        all_written s.state t s.send_pool ask (sent_with c t k d) (IfPush (Genuine more))
        (all_any (λ (a : Ack). IfPush (Genuine more) (ack_segment (carried s.state) a)) (λ a e. absurd (omega arith))
        s.state.receiving.acks)
        (λ e. absurd (omega arith))
        (λ e. absurd (omega arith))
        (all_weaker (Shows (mss c) s.send_pool more)
        (λ (x : Sent). IfPush (Genuine more) (data_segment (carried s.state) (mss c) t s.send_pool x))
        (λ x f e. record { its_piece = f.its_piece; small = f.small })
        (sent_with c t k d)
        (all_transmitted (Shows (mss c) s.send_pool more) (ruled c link t (with_numbered d k)) shown))

    wrote_flush : Wrote c s pieces (own s (Call.flush t))
    unfolding flushing
    wrote_flush = record {
      shows = sends_flushed (mss c) s.send_pool pieces c t k d (count_few (window_of s.state) d) end h shown;
      genuine = genuine_datagrams c more (packed c.mtu segs) writes.parsed
          (flat_each (IfPush (Genuine more)) (packed c.mtu segs) (rw (packed_flat c.mtu segs) genuine_segs));
    }

-- an update that flushes: the flush of the station with the schedule moved on
module _ (s : Station) (pieces : List Piece) (made : valid s.state ≡ true) (conv32 : s.state.settings.conv < 2 ^ 32)
    (o : SendingInOrder s.state.settings s) (carry : CarryFits s.state.receiving)
    (h : model.Sends (mss s.state.settings) s.send_pool pieces s.state.sending) where
  abbrev settings : Settings
  settings = s.state.settings

  as_before : model.Sends (mss settings) s.send_pool (pieces ++ []) s.state.sending
  as_before = same s pieces made conv32 o carry h

  wrote_update : (t : ℕ) (k : Schedule) → t < 2 ^ 32
      → FewPushes settings (map bytes_of_segments (flushing (with_schedule s.state k) t s.send_pool).datagrams)
      → Wrote settings s pieces (after_flush s (flushing (with_schedule s.state k) t s.send_pool))
  wrote_update t next time few =
      let order : SendingInOrder settings (rescheduled s next) =
      record { settings = o.settings; long = o.long; valid = o.valid; fits = o.fits; probe = o.probe } in
      let w = wrote_flush (rescheduled s next) pieces (valid_rescheduled s.state next ∙ made) conv32 order carry h t time few in
      record { shows = w.shows; genuine = w.genuine }

  wrote : (x : Call) → CallFits x → FewPushes settings (datagrams_in (own s x).answer) → Wrote settings s pieces (own s x)
  unfolding applied
  wrote =
      own_cases (λ (x : Call) (y : Stepped). CallFits x → FewPushes settings (datagrams_in y.answer) → Wrote settings s pieces y) s
      (λ x r k few. record { shows = as_before; genuine = tt })
      (λ m ok k few. record {
        shows =
            sends_more settings s.state.sending s.send_pool m (half s pieces made conv32 o carry h) o.long ok.room
            (pieces ++ [])
            as_before;
        genuine = tt;
      })
      (λ b gs e k few. record {
        shows =
            sends_taken (mss settings) s.send_pool (pieces ++ []) settings s.state.current s.state.sending gs (ack_numbers gs)
            as_before;
        genuine = tt;
      })
      (λ t k few. wrote_flush s pieces made conv32 o carry h t k few)
      (λ room k few. record { shows = as_before; genuine = tt })
      (λ t k few. wrote_update t (scheduled_at s.state t) k few)
      (λ t k few. record { shows = as_before; genuine = tt })
      (λ t k few. record { shows = as_before; genuine = tt })

-- by any name of the settings
wrote_by : (c : Settings) (s : Station) (pieces : List Piece) (x : Call) →
    valid s.state ≡ true →
    c.conv < 2 ^ 32 →
    SendingInOrder c s →
    CarryFits s.state.receiving →
    model.Sends (mss c) s.send_pool pieces s.state.sending →
    CallFits x →
    FewPushes c (datagrams_in (own s x).answer) →
    Wrote c s pieces (own s x)
wrote_by c s pieces x made conv32 o carry h k few =
    subst (λ (c : Settings).
    c.conv < 2 ^ 32 →
    SendingInOrder c s →
    model.Sends (mss c) s.send_pool pieces s.state.sending →
    FewPushes c (datagrams_in (own s x).answer) →
    Wrote c s pieces (own s x))
    o.settings
    (λ conv32 o h few. wrote s pieces made conv32 o carry h x k few)
    conv32 o h few

-- ---- lists of calls

-- more pieces
more_genuine : (pieces more : List Piece) (gs : List Segment) → All (Genuine pieces) gs → All (Genuine (pieces ++ more)) gs
more_genuine pieces more =
    all_weaker (Genuine pieces) (Genuine (pieces ++ more))
    (λ g h. record { its_piece = get_append pieces more g.header.sn (piece_of g) h.its_piece; small = h.small })

pub more_datagrams : (c : Settings) (pieces more : List Piece) (ds : List (List ℕ)) →
    All (GenuineDatagram c pieces) ds →
    All (GenuineDatagram c (pieces ++ more)) ds
more_datagrams c pieces more =
    all_weaker (GenuineDatagram c pieces) (GenuineDatagram c (pieces ++ more))
    (λ d h. record {
      its_segments = h.its_segments;
      parses = h.parses;
      genuine = more_genuine pieces more (pushes h.its_segments) h.genuine;
    })

-- the events of a list, the first and the others
module _ (c : Settings) (e : Event) (es : List Event) where
  few_first : FewPushes c (datagrams_by (e ∷ es)) → FewPushes c (datagrams_in e.answer)
  unfolding datagrams_by
  few_first = all_left (λ (d : List ℕ). All (λ (sn : ℕ). sn < 2 ^ 30) (pushes_in c d)) (datagrams_in e.answer) (datagrams_by es)

  few_later : FewPushes c (datagrams_by (e ∷ es)) → FewPushes c (datagrams_by es)
  unfolding datagrams_by
  few_later = all_right (λ (d : List ℕ). All (λ (sn : ℕ). sn < 2 ^ 30) (pushes_in c d)) (datagrams_in e.answer) (datagrams_by es)

  -- genuine by what was numbered up to then, and by what is numbered later
  genuine_both : (pieces now later : List Piece) →
      All (GenuineDatagram c (pieces ++ now)) (datagrams_in e.answer) →
      All (GenuineDatagram c ((pieces ++ now) ++ later)) (datagrams_by es) →
      All (GenuineDatagram c (pieces ++ (now ++ later))) (datagrams_by (e ∷ es))
  unfolding datagrams_by
  genuine_both pieces now later a b =
      rw (← append_assoc pieces now later)
      (all_append (GenuineDatagram c ((pieces ++ now) ++ later)) (datagrams_in e.answer) (datagrams_by es)
      (more_datagrams c (pieces ++ now) later (datagrams_in e.answer) a) b)

genuine_calls : (c : Settings) → Taken c → (calls : List Call) (s : Station) (pieces : List Piece) →
    SendingInOrder c s →
    CarryFits s.state.receiving →
    model.Sends (mss c) s.send_pool pieces s.state.sending →
    All CallFits calls →
    Passing s calls →
    FewPushes c (datagrams_by (history s calls)) →
    All (GenuineDatagram c (pieces ++ pieces_numbered s calls)) (datagrams_by (history s calls))
unfolding history datagrams_by pieces_numbered
genuine_calls c taken [] s pieces o carry h k p few = tt
genuine_calls c taken (x ∷ xs) s pieces o carry h k p few =
    let e : Event = record { call = x; answer = (own s x).answer } in
    let later : List Event = history (own s x).station xs in
    let few' : FewPushes c (datagrams_by (e ∷ later)) =
    subst (λ (l : List Event). FewPushes c (datagrams_by l)) (history_first s x xs p) few in
    let w : Wrote c s pieces (own s x) = wrote_by c s pieces x p.1 taken.conv o carry h k.0 (few_first c e later few') in
    subst (λ (l : List Event). All
    (GenuineDatagram c (pieces ++ (numbered_now s (own s x).answer ++ pieces_numbered (own s x).station xs))) (datagrams_by l))
    (sym (history_first s x xs p))
    (genuine_both c e later pieces (numbered_now s (own s x).answer) (pieces_numbered (own s x).station xs) w.genuine
    (genuine_calls c taken xs (own s x).station (pieces ++ numbered_now s (own s x).answer)
    (sending_stays c taken.range s x k.0 o)
    (carry_stays s x k.0 carry)
    w.shows
    k.1
    p.2
    (few_later c e later few')))

-- ---- since opening

opened_sends : (c : Settings) (m : ℕ) (pool : List ℕ) → model.Sends m pool [] (opened c).sending
unfolding opened
opened_sends c m pool = record { low = omega arith; counts = refl; sent = tt }

pub opened_carry : (c : Settings) → CarryFits (opened c).receiving
unfolding opened
opened_carry c = record { next = omega arith; acks = tt }

-- Every push that any flush wrote is the segment of that number of those numbered; the sender takes in anything
pub sent_genuine : (c : Settings) → Taken c → (s : Station) → Opened c s → (calls : List Call) → All CallFits calls → Passing s calls →
    FewPushes c (datagrams_by (history s calls)) →
    All (GenuineDatagram c (pieces_numbered s calls)) (datagrams_by (history s calls))
sent_genuine c taken s p calls k q few =
    genuine_calls c taken calls s [] (opened_in_order c s p) (rw p.state (opened_carry c))
    (rw p.state (opened_sends c (mss c) s.send_pool)) k q few
