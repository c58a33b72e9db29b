-- A flush at a given time: what is written, and the state after it.
-- Assumes nothing.
use Rattle.std.specs.Prelude.{Bool, false, cond, ◌||◌, ℕ, ◌+◌, ◌-◌, ◌*◌, min, leb, eqb, length, take, drop}
use mathlib.Core.List.{List, [], ◌∷◌, ◌++◌, map, foldl}
use Rattle.protocol.specs.Protocol.{push, ack, window_ask, window_tell, receive_window, dead_after}
use Rattle.protocol.specs.Ranges.{mss, controls_congestion}
use Rattle.protocol.specs.Serial.{plus, minus}
use Rattle.wire.specs.Headers.{encode}
use Rattle.protocol.specs.declared.Settings.{Settings}
use Rattle.datagram.specs.Datagrams.{Segment}
use Rattle.congestion.specs.Congestions.{used_window, after_flush}
use Rattle.congestion.specs.declared.Losses.{Losses}
use Rattle.retransmission.specs.Transmissions.{is_sent, is_late, is_fast, transmission}
use Rattle.retransmission.specs.declared.Transmission.{Transmission}
use Rattle.timing.specs.Probes.{next_clock}
use Rattle.lists.specs.declared.Held.{Held}
use Rattle.lists.specs.declared.Sent.{Sent}
use Rattle.session.specs.State.{State, Sending, Ack, with_numbers, with_notes, after_flushing}

-- ---- numbering

-- a queued segment gets a number, and transmissions and skips 0; its timeout and due time come with its first transmission
abbrev pub numbered_as : ℕ → Held → Sent
numbered_as n h = record { held = h; transmissions = 0; «record» = record { number = n; due = 0; timeout = 0; skips = 0 } }

-- numbers counting up from n
unfoldable pub numbered : ℕ → List Held → List Sent
numbered n [] = []
numbered n (h ∷ q) = numbered_as n h ∷ numbered (plus n 1) q

-- the window that a flush goes by: the least of 32, the peer's last window and, with the setting on, the congestion window
abbrev pub window_of : State → ℕ
window_of s = used_window (controls_congestion s.settings) s.sending.window s.congestion.window

-- how many are numbered: while snd_nxt - snd_una is below the window
unfoldable pub numbered_count : ℕ → Sending → ℕ
numbered_count window s = min (length s.queued) (window - minus s.next s.una)

-- the outstanding segments, with those that are numbered now
unfoldable pub with_numbered : Sending → ℕ → List Sent
with_numbered s k = s.outstanding ++ numbered s.next (take k s.queued)

-- ---- the rule for each outstanding segment

-- one of them before a flush, and what the flush does with it
pub record Ruled : Type 0 where
  pub segment : Sent
  pub rule : Transmission

-- at t: by the first rule that holds
abbrev pub ruling : Settings → ℕ → ℕ → Sent → Ruled
ruling c timeout t x = record { segment = x; rule = transmission c timeout t x.transmissions x.record }

-- each of them, in order of sn
abbrev pub ruled : Settings → ℕ → ℕ → List Sent → List Ruled
ruled c timeout t = map (ruling c timeout t)

-- one as its rule leaves it, and all of them
abbrev pub after_rule : Ruled → Sent
after_rule r = record { held = r.segment.held; transmissions = r.rule.transmissions; «record» = r.rule.updated }

abbrev pub afterwards : List Ruled → List Sent
afterwards = map after_rule

-- those that are transmitted, as they are then
unfoldable pub transmitted : List Ruled → List Sent
transmitted [] = []
transmitted (r ∷ rules) = cond (is_sent r.rule) (after_rule r ∷ transmitted rules) (transmitted rules)

-- the test holds of one of them
abbrev pub some : {A : Type 0} → (A → Bool) → List A → Bool
some test [] = false
some test (x ∷ l) = test x || some test l

-- one of those transmitted was so 20 times
abbrev pub some_dead : List Sent → Bool
some_dead = some (λ (x : Sent). eqb x.transmissions dead_after)

-- what a flush that numbers k tells of losses: one was sent because it was skipped, or because it was due; in flight are the numbers from
-- snd_una to snd_nxt at its end
abbrev pub losses_of : State → ℕ → List Ruled → Losses
losses_of s k rules =
    let d = s.sending in
    record {
      fast = some (λ (r : Ruled). is_fast r.rule) rules;
      late = some (λ (r : Ruled). is_late r.rule) rules;
      skips = s.settings.threshold;
      inflight = minus (plus d.next k) d.una;
      used = window_of s;
    }

-- ---- what is written

-- what all segments of a flush carry: conversation, window 128 minus ready count, and una = rcv_nxt
pub record Carried : Type 0 where
  pub conv : ℕ
  pub wnd : ℕ
  pub una : ℕ

abbrev pub carried : State → Carried
carried s = record { conv = s.settings.conv; wnd = receive_window - length s.receiving.ready; una = s.receiving.next }

-- acks, asks and tells: fragment and len 0
abbrev pub control : Carried → ℕ → ℕ → ℕ → Segment
control c cmd sn ts =
    record { header = record { conv = c.conv; cmd = cmd; frg = 0; wnd = c.wnd; ts = ts; sn = sn; una = c.una; len = 0 }; payload = [] }

-- acks copy the pushed sn and ts
abbrev pub ack_segment : Carried → Ack → Segment
ack_segment c a = control c ack a.sn a.ts

-- data: ts = t, and the payload from its slot, which starts at slot x mss
abbrev pub data_segment : Carried → ℕ → ℕ → List ℕ → Sent → Segment
data_segment c m t pool x =
    record {
      header = record {
        conv = c.conv;
        cmd = push;
        frg = x.held.fragment;
        wnd = c.wnd;
        ts = t;
        sn = x.record.number;
        una = c.una;
        len = x.held.len;
      };
      payload = take x.held.len (drop (x.held.slot * m) pool);
    }

-- a wished segment, or none
abbrev pub wished : Bool → Segment → List Segment
wished b g = cond b (g ∷ []) []

-- all acks in order, then a window ask and a window tell if wanted (sn and ts 0), then data
unfoldable pub written : State → ℕ → List ℕ → Bool → List Sent → List Segment
written s t pool ask sent =
    let c = carried s in
    map (ack_segment c) s.receiving.acks
    ++ (wished ask (control c window_ask 0 0)
    ++ (wished s.receiving.tell (control c window_tell 0 0)
    ++ map (data_segment c (mss s.settings) t pool) sent))

-- ---- packing

-- the bytes of a segment, and of segments one behind the other
abbrev pub bytes_of_segment : Segment → List ℕ
bytes_of_segment g = encode g.header ++ g.payload

unfoldable pub bytes_of_segments : List Segment → List ℕ
bytes_of_segments [] = []
bytes_of_segments (g ∷ gs) = bytes_of_segment g ++ bytes_of_segments gs

-- datagrams that are closed, and the one that is being filled
pub record Packing : Type 0 where
  pub closed : List (List Segment)
  pub filling : List Segment

-- a segment that would take a datagram past mtu starts a new one
unfoldable pub pack_one : ℕ → Packing → Segment → Packing
pack_one mtu p g =
    cond (leb (length (bytes_of_segments p.filling) + length (bytes_of_segment g)) mtu)
    (record { closed = p.closed; filling = p.filling ++ (g ∷ []) })
    (record { closed = p.closed ++ (p.filling ∷ []); filling = g ∷ [] })

-- the datagrams of a packing: the last one too, unless it is empty
abbrev pub datagrams_of : List (List Segment) → List Segment → List (List Segment)
datagrams_of closed [] = closed
datagrams_of closed (g ∷ gs) = closed ++ ((g ∷ gs) ∷ [])

unfoldable pub packed : ℕ → List Segment → List (List Segment)
packed mtu gs =
    let p = foldl (pack_one mtu) (record { closed = []; filling = [] }) gs in
    datagrams_of p.closed p.filling

-- ---- the flush

-- what a flush gives: the state after it, and the datagrams that it wrote
pub record Flushed : Type 0 where
  pub state : State
  pub datagrams : List (List Segment)

-- in the order of document 01: queued segments are numbered, the rule is used on each outstanding one, the probe clock is moved on before
-- anything is written; then acks, ask, tell and data are packed, and acks and both wishes are cleared
unfoldable pub flushing : State → ℕ → List ℕ → Flushed
flushing s t pool =
    let c = s.settings in
    let d = s.sending in
    let k = numbered_count (window_of s) d in
    let rules = ruled c d.round_trip.timeout t (with_numbered d k) in
    let sent = transmitted rules in
    let probed = next_clock s.probe t d.window in
    record {
      datagrams = packed c.mtu (written s t pool (s.ask || probed.ask) sent);
      state =
          after_flushing s (with_numbers d (plus d.next k) (drop k d.queued) (afterwards rules)) (with_notes s.receiving [] false)
          probed.clock t (after_flush s.congestion (mss c) (losses_of s k rules)) (s.dead || some_dead sent);
    }
