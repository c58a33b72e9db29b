-- Taking in a datagram.
-- Assumes nothing.
use Rattle.std.specs.Prelude.{Bool, true, cond, not, ◌||◌, ◌&&◌, List, [], ◌∷◌, ◌++◌, map, ℕ, ◌*◌, ltb, eqb, length}
use Rattle.std.proofs.lemmas.List.Edits.{sets}
use Rattle.protocol.specs.Protocol.{push, ack, window_ask, receive_window, receive_slots, acks_most}
use Rattle.protocol.specs.Ranges.{mss}
use Rattle.protocol.specs.Serial.{plus, minus, is_before, is_after, is_due}
use Rattle.wire.specs.declared.Header.{Header}
use Rattle.protocol.specs.declared.Settings.{Settings}
use Rattle.datagram.specs.Datagrams.{Segment, Parsed, parse}
use Rattle.congestion.specs.Congestions.{after_datagram}
use Rattle.congestion.specs.declared.Congestion.{Congestion}
use Rattle.timing.specs.RoundTrips.{sampled}
use Rattle.lists.specs.declared.Waiting.{Waiting}
use Rattle.lists.specs.declared.Acknowledges.{Acknowledges}
use Rattle.lists.specs.declared.Acknowledges.TheVariants as by
use Rattle.lists.specs.Orders.{waiting_offset, is_held, insert}
use Rattle.lists.specs.Receiving.{advance}
use Rattle.lists.specs.Acknowledging.{removed, first_number_or, skip_before}
use Rattle.lists.specs.Acknowledging as rule
use Rattle.session.specs.Slots.{lowest_free}
use Rattle.session.specs.State.{
  State,
  Sending,
  Receiving,
  Ack,
  Outcome,
  receive_held,
  slots,
  with_outstanding,
  with_window,
  with_round_trip,
  with_lists,
  with_notes,
  with_halves,
  with_congestion,
}

-- ---- the sending half

-- una removes every outstanding segment that it is after, unless it is after snd_nxt; an ack the segment that it names (`removed`);
-- after this, snd_una becomes the first outstanding number, else snd_nxt
unfoldable pub acknowledged : Acknowledges → Sending → Sending
acknowledged arrival s =
    let left = removed s.next arrival s.outstanding in
    with_outstanding s (first_number_or left s.next) left

-- if current - ts is 0 or more, that is a sample
unfoldable pub sampled_by : Settings → ℕ → ℕ → Sending → Sending
sampled_by c current ts s =
    with_round_trip s (cond (is_due current ts) (sampled s.round_trip c (minus current ts)) s.round_trip)

-- whether a segment acknowledges the number n, by its una or, if it is an ack, by its sn
abbrev pub acknowledges : ℕ → Header → ℕ → Bool
acknowledges next h n = rule.acknowledged next (by.Una h.una) n || eqb h.cmd ack && rule.acknowledged next (by.Ack h.sn) n

-- each segment: its window is the peer's last window; una removes; then an ack: the sample, and the segment sn is removed
unfoldable pub heard_by_sending : Settings → ℕ → Sending → Header → Sending
heard_by_sending c current s h =
    let passed = acknowledged (by.Una h.una) (with_window h.wnd s) in
    cond (eqb h.cmd ack) (acknowledged (by.Ack h.sn) (sampled_by c current h.ts passed)) passed

-- ---- the receiving half, with the receive pool

pub record Receiver : Type 0 where
  pub half : Receiving
  pub pool : List ℕ

-- sn is before rcv_nxt + 128
abbrev pub in_window : Receiving → ℕ → Bool
in_window r sn = is_before sn (plus r.next receive_window)

-- note an ack; none is noted past 256 pairs
abbrev pub noted : Receiving → Header → List Ack
noted r h = cond (ltb (length r.acks) acks_most) (r.acks ++ (record { sn = h.sn; ts = h.ts } ∷ [])) r.acks

-- sn is also not before rcv_nxt and not already held
abbrev pub is_new : Receiving → ℕ → Bool
is_new r sn = not (is_before sn r.next) && not (is_held (waiting_offset r.next) (minus sn r.next) r.waiting)

-- keep it in the lowest free receive slot, which starts at slot x mss
abbrev pub kept : ℕ → Receiver → Segment → Receiver
kept m x g =
    let r = x.half in
    let slot = lowest_free (slots (receive_held r)) receive_slots in
    let w : Waiting = record { number = g.header.sn; held = record { slot = slot; len = g.header.len; fragment = g.header.frg } } in
    record {
      half = with_lists r r.next r.ready (insert (waiting_offset r.next) w r.waiting);
      pool = sets x.pool (slot * m) g.payload;
    }

-- the segment numbered rcv_nxt becomes ready, repeatedly, while fewer than 128 are ready
abbrev pub moved_up : Receiving → Receiving
moved_up r =
    let u = advance r.next r.ready r.waiting in
    with_lists r u.next u.ready u.waiting

abbrev pub moved_up_in : Receiver → Receiver
moved_up_in x = record { half = moved_up x.half; pool = x.pool }

abbrev pub with_acks : List Ack → Receiver → Receiver
with_acks l x =
    record { half = with_notes x.half l x.half.tell; pool = x.pool }

-- a push: if sn is before rcv_nxt + 128, note an ack; if sn is also new, keep it. Then segments become ready
unfoldable pub pushed : ℕ → Receiver → Segment → Receiver
pushed m x g =
    let r = x.half in
    let sn = g.header.sn in
    moved_up_in
    (cond (in_window r sn)
    (let y = with_acks (noted r g.header) x in cond (is_new r sn) (kept m y g) y)
    x)

-- an ask: a tell is wanted
abbrev pub asked : Receiver → Receiver
asked x =
    record { half = with_notes x.half x.half.acks true; pool = x.pool }

-- a push or an ask; acks and tells change nothing here
unfoldable pub heard_by_receiving : ℕ → Receiver → Segment → Receiver
heard_by_receiving m x g =
    cond (eqb g.header.cmd push) (pushed m x g) (cond (eqb g.header.cmd window_ask) (asked x) x)

-- ---- all segments of a datagram

unfoldable pub all_by_sending : Settings → ℕ → Sending → List Segment → Sending
all_by_sending c current s [] = s
all_by_sending c current s (g ∷ gs) = all_by_sending c current (heard_by_sending c current s g.header) gs

unfoldable pub all_by_receiving : ℕ → Receiver → List Segment → Receiver
all_by_receiving m x [] = x
all_by_receiving m x (g ∷ gs) = all_by_receiving m (heard_by_receiving m x g) gs

-- ---- skips, after the datagram

-- the acks' numbers, in order
unfoldable pub ack_numbers : List Segment → List ℕ
ack_numbers [] = []
ack_numbers (g ∷ gs) = cond (eqb g.header.cmd ack) (g.header.sn ∷ ack_numbers gs) (ack_numbers gs)

-- the furthest: n, replaced by each later one that is after it
unfoldable pub furthest : ℕ → List ℕ → ℕ
furthest n [] = n
furthest n (k ∷ l) = furthest (cond (is_after k n) k n) l

-- it counts if it is not before snd_una and is before snd_nxt: each outstanding segment before it gets one skip, staying at 255
unfoldable pub skipped : Sending → ℕ → Sending
skipped s n =
    cond (not (is_before n s.una) && is_before n s.next)
    (with_outstanding s s.una (map (skip_before n) s.outstanding))
    s

-- if acks came
abbrev pub skipped_by_all : Sending → List ℕ → Sending
skipped_by_all s [] = s
skipped_by_all s (n ∷ l) = skipped s (furthest n l)

-- ---- the call

pub record Took : Type 0 where
  pub state : State
  pub pool : List ℕ

-- the congestion window: growth, once after a datagram that moved snd_una, by the peer's window after it
abbrev pub grown_by : Settings → Congestion → Sending → Sending → Congestion
grown_by c x before after = after_datagram x (mss c) before.una after.una after.window

-- a datagram's segments applied
unfoldable pub applied : State → List ℕ → List Segment → Took
applied s pool gs =
    let c = s.settings in
    let d = skipped_by_all (all_by_sending c s.current s.sending gs) (ack_numbers gs) in
    let x = all_by_receiving (mss c) (record { half = s.receiving; pool = pool }) gs in
    record {
      state = with_congestion (with_halves s d x.half) (grown_by c s.congestion s.sending d);
      pool = x.pool;
    }

-- nothing is applied until all have passed
abbrev pub taking : State → List ℕ → Parsed → Outcome Took
taking s pool (Parsed.refused r) = Outcome.refused r
taking s pool (Parsed.segments gs) = Outcome.done (applied s pool gs)

-- input checks 1, then 2 to 6 segment by segment
unfoldable pub input : State → List ℕ → List ℕ → Outcome Took
input s pool datagram = taking s pool (parse s.settings.conv (mss s.settings) datagram)
