-- The marked cases of document 01, as one table, proved by computing both sides.
-- Assumes nothing.
use Rattle.std.specs.Prelude.{◌≡◌, refl, Bool, true, false, ℕ, ◌^◌, length, replicate, ℤ, pos, neg_ℤ}
use mathlib.Core.List.{List, [], ◌∷◌, map}
use Rattle.protocol.specs.Protocol.{push}
use Rattle.protocol.specs.Refusals.{number_of}
use Rattle.protocol.specs.Serial.{minus, signed, is_before, is_after, is_due}
use Rattle.wire.specs.LittleEndian.{bytes_of, number_at}
use Rattle.wire.specs.Headers.{encode, front, back, decode}
use Rattle.protocol.specs.declared.Settings.{Settings}
use Rattle.datagram.specs.Datagrams.{Segment, Parsed, parse, walk, tail, verdict, segment_of}
use Rattle.timing.specs.Probes.{stopped, longer_wait, next_clock}
use Rattle.timing.specs.RoundTrips.{next_smoothed, next_variation, least_timeout, timeout_of, sampled}
use Rattle.congestion.specs.Congestions.{used_window}
use Rattle.retransmission.specs.Transmissions.{first_due, growth, longer_timeout, is_skipped, is_sent, transmission}
use Rattle.timing.specs.declared.ProbeClock.{ProbeClock}
use Rattle.timing.specs.declared.Record.{Record}
use Rattle.timing.specs.declared.RoundTrip.{RoundTrip}
use Rattle.lists.specs.Orders.{insert, is_held}
use Rattle.lists.specs.Receiving.{advance}
use Rattle.lists.specs.declared.Waiting.{Waiting}
use Rattle.session.specs.Slots.{occurs, lowest_from, lowest_free}
use Rattle.session.specs.State.{State, Ack, Outcome, with_receiving, with_notes}
use Rattle.session.specs.Opening.{opened}
use Rattle.session.specs.Cutting.{fragment_count, segment_count, pieces, cut, cut_as}
use Rattle.session.specs.Sending.{Sends, sending, place, filled}
use Rattle.session.specs.Flushing.{flushing, numbered_count, with_numbered, numbered, transmitted, written, packed, pack_one, bytes_of_segment, bytes_of_segments}
use Rattle.session.specs.Input.{pushed}

-- whether a flush sends a segment, and when the segment is due then
pub record Flush : Type 0 where
  pub sends : Bool
  pub due : ℕ

-- what a case speaks of
pub data Value : Type 0 where
  bytes : List ℕ → Value
  parsed : Parsed → Value
  difference : ℤ → Value
  lengths : List ℕ → Value
  count : ℕ → Value
  refused_by : ℕ → Value
  round_trips : List RoundTrip → Value
  flushes : List Flush → Value
  waits : List ℕ → Value
  noted : List ℕ → List Ack → Value

pub record Case : Type 0 where
  pub is : Value
  pub wanted : Value

-- ---- A

abbrev hi : Segment
hi =
    record {
      header = record { conv = 1; cmd = 81; frg = 0; wnd = 128; ts = 0; sn = 0; una = 0; len = 2 };
      payload = 0x68 ∷ 0x69 ∷ [];
    }

abbrev hi_bytes : List ℕ
hi_bytes = 0x01 ∷ 0x00 ∷ 0x00 ∷ 0x00 ∷ 0x51 ∷ 0x00 ∷ 0x80 ∷ 0x00 ∷ 0x00 ∷ 0x00 ∷ 0x00 ∷ 0x00 ∷ 0x00 ∷ 0x00 ∷ 0x00 ∷ 0x00 ∷ 0x00
    ∷ 0x00
    ∷ 0x00 ∷ 0x00 ∷ 0x02 ∷ 0x00 ∷ 0x00 ∷ 0x00 ∷ 0x68 ∷ 0x69 ∷ []

-- ---- C and D: mss 26

abbrev small : Settings
small = record { conv = 1; mtu = 50; interval = 100; mode = 0; threshold = 0; stream = 0; congestion = 0 }

-- what sending so many bytes over a fresh link gives: the lengths of the segments queued, or the refusal's number
abbrev lengths_queued : Outcome Sends → Value
lengths_queued (Outcome.refused r) = refused_by (number_of r)
lengths_queued (Outcome.done x) = lengths (map (λ h. h.len) x.state.sending.queued)

abbrev count_queued : Outcome Sends → Value
count_queued (Outcome.refused r) = refused_by (number_of r)
count_queued (Outcome.done x) = count (length x.state.sending.queued)

abbrev send_of : ℕ → Outcome Sends
send_of n = sending (opened small) [] (replicate n 0)

-- ---- E: the round trip after each of the samples

unfoldable pub after_samples : Settings → RoundTrip → List ℕ → List RoundTrip
after_samples c p [] = []
after_samples c p (r ∷ rs) = let q = sampled p c r in q ∷ after_samples c q rs

-- ---- F and G: a segment with n transmissions and the record r, after each of the flushes at these times

unfoldable pub after_flushes : Settings → ℕ → ℕ → Record → List ℕ → List Flush
after_flushes c link n r [] = []
after_flushes c link n r (t ∷ ts) =
    let x = transmission c link t n r in
    record { sends = is_sent x; due = x.updated.due } ∷ after_flushes c link x.transmissions x.updated ts

abbrev in_mode : ℕ → Settings
in_mode mode = record { conv = 1; mtu = 50; interval = 100; mode = mode; threshold = 0; stream = 0; congestion = 0 }

abbrev unsent : Record
unsent = record { number = 0; due = 0; timeout = 0; skips = 0 }

abbrev sent : ℕ → Flush
sent due = record { sends = true; due = due }

abbrev stays : ℕ → Flush
stays due = record { sends = false; due = due }

-- ---- H: the clock's wait after each of the flushes at these times, the peer's window being 0

unfoldable pub waits_at : ProbeClock → List ℕ → List ℕ
waits_at c [] = []
waits_at c (t ∷ ts) = let x = next_clock c t 0 in x.clock.wait ∷ waits_at x.clock ts

-- ---- I: a push with this number comes to a fresh link

abbrev push_of : ℕ → Segment
push_of sn = record { header = record { conv = 1; cmd = push; frg = 0; wnd = 128; ts = 7; sn = sn; una = 0; len = 0 }; payload = [] }

-- the waiting numbers, and the acks noted
abbrev received : ℕ → Value
received sn =
    let r = (pushed 26 (record { half = (opened small).receiving; pool = [] }) (push_of sn)).half in
    noted (map (λ (w : Waiting). w.number) r.waiting) r.acks

-- ---- J

abbrev with_three_acks : State
with_three_acks =
    let s = opened small in
    let a : Ack = record { sn = 0; ts = 0 } in
    with_receiving s (with_notes s.receiving (a ∷ a ∷ a ∷ []) false)

unfoldable pub cases : List Case
cases =
    -- A
    record { is = bytes (bytes_of_segment hi); wanted = bytes hi_bytes }
    ∷ record { is = parsed (parse 1 488 hi_bytes); wanted = parsed (Parsed.segments (hi ∷ [])) }
    -- B
    ∷ record { is = difference (signed (minus 0 4294967295)); wanted = difference (pos 1) }
    ∷ record { is = difference (signed (minus (2 ^ 31) 0)); wanted = difference (neg_ℤ (pos (2 ^ 31))) }
    -- C
    ∷ record { is = lengths_queued (send_of 0); wanted = lengths (0 ∷ []) }
    ∷ record { is = lengths_queued (send_of 26); wanted = lengths (26 ∷ []) }
    ∷ record { is = lengths_queued (send_of 27); wanted = lengths (26 ∷ 1 ∷ []) }
    -- D
    ∷ record { is = count_queued (send_of 3302); wanted = count 127 }
    ∷ record { is = count_queued (send_of 3303); wanted = refused_by 10 }
    -- E
    ∷ record {
      is = round_trips (after_samples small (opened small).sending.round_trip (50 ∷ 90 ∷ []));
      wanted = round_trips (record { smoothed = 50; variation = 25; timeout = 150 } ∷ record { smoothed = 55; variation = 28; timeout = 167 }
          ∷ []);
    }
    -- F
    ∷ record {
      is = flushes (after_flushes (in_mode 0) 200 0 unsent (1000 ∷ 1224 ∷ 1225 ∷ []));
      wanted = flushes (sent 1225 ∷ stays 1225 ∷ sent 1625 ∷ []);
    }
    -- G
    ∷ record {
      is = flushes (after_flushes (in_mode 1) 200 0 unsent (1000 ∷ 1199 ∷ 1200 ∷ 1499 ∷ 1500 ∷ []));
      wanted = flushes (sent 1200 ∷ stays 1200 ∷ sent 1500 ∷ stays 1500 ∷ sent 1950 ∷ []);
    }
    ∷ record {
      is = flushes (after_flushes (in_mode 2) 200 0 unsent (1000 ∷ 1199 ∷ 1200 ∷ 1499 ∷ 1500 ∷ []));
      wanted = flushes (sent 1200 ∷ stays 1200 ∷ sent 1500 ∷ stays 1500 ∷ sent 1900 ∷ []);
    }
    -- H
    ∷ record {
      is = waits (waits_at stopped (0 ∷ 7000 ∷ 17500 ∷ 33250 ∷ []));
      wanted = waits (7000 ∷ 10500 ∷ 15750 ∷ 23625 ∷ []);
    }
    -- I
    ∷ record { is = received 127; wanted = noted (127 ∷ []) (record { sn = 127; ts = 7 } ∷ []) }
    ∷ record { is = received 128; wanted = noted [] [] }
    -- J
    ∷ record {
      is = lengths (map (λ d. length (bytes_of_segments d)) (flushing with_three_acks 0 []).datagrams);
      wanted = lengths (48 ∷ 24 ∷ []);
    }
    ∷ []

pub marked : map (λ (c : Case). c.is) cases ≡ map (λ (c : Case). c.wanted) cases
unfolding cases encode front back decode bytes_of number_at bytes_of_segments parse walk tail verdict segment_of signed is_before is_after is_due
    opened fragment_count segment_count pieces cut cut_as filled sending place lowest_free lowest_from occurs pushed insert is_held advance
    flushing used_window numbered_count with_numbered numbered transmitted written packed pack_one next_clock after_samples after_flushes
    waits_at sampled next_smoothed next_variation least_timeout timeout_of transmission first_due growth longer_timeout is_skipped longer_wait
marked = refl
