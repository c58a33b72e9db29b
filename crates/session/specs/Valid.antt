-- Which states a link makes (refusal 13): the conditions of document 01, each a test that computes.
-- Assumes nothing.
use Rattle.std.specs.Prelude.{Bool, true, not, ◌&&◌, ◌||◌, List, [], ◌∷◌, ℕ, ◌^◌, leb, ltb, eqb, length}
use Rattle.protocol.specs.Protocol.{
  fragment_most,
  send_slots,
  receive_slots,
  send_window,
  receive_window,
  acks_most,
  dead_after,
  skips_most,
  timeout_most,
  probe_wait_least,
  probe_wait_most,
}
use Rattle.protocol.specs.Ranges.{in_range, mss}
use Rattle.protocol.specs.Serial.{minus}
use Rattle.protocol.specs.declared.Settings.{Settings}
use Rattle.congestion.specs.Congestions.{fits}
use Rattle.timing.specs.RoundTrips.{least_timeout}
use Rattle.timing.specs.declared.RoundTrip.{RoundTrip}
use Rattle.timing.specs.declared.ProbeClock.{ProbeClock}
use Rattle.lists.specs.declared.Held.{Held}
use Rattle.lists.specs.declared.Sent.{Sent}
use Rattle.lists.specs.Orders.{ascending, sent_offset, waiting_offset}
use Rattle.lists.specs.Receiving.{starts_at}
use Rattle.lists.specs.Acknowledging.{first_number_or}
use Rattle.session.specs.Slots.{occurs}
use Rattle.session.specs.State.{Sending, Receiving, State, send_held, receive_held, slots}

-- ---- tests on lists

-- the test holds of each
abbrev pub all : {A : Type 0} → (A → Bool) → List A → Bool
all test [] = true
all test (x ∷ l) = test x && all test l

-- none is held twice
abbrev pub once : List ℕ → Bool
once [] = true
once (x ∷ l) = not (occurs x l) && once l

-- ---- the conditions

-- held lengths at most mss, held fragments at most 126
abbrev pub held_fits : ℕ → Held → Bool
held_fits m h = leb h.len m && leb h.fragment fragment_most

-- held slots below n, none held twice
abbrev pub slots_fit : ℕ → List Held → Bool
slots_fit n l = all (λ (h : Held). ltb h.slot n) l && once (slots l)

-- outstanding numbers ascending from snd_una up to but not including snd_nxt, these two at most 32 apart, the first being snd_una (none:
-- the two are equal)
unfoldable pub numbers_fit : Sending → Bool
numbers_fit s =
    ascending (sent_offset s.una) 0 (minus s.next s.una) s.outstanding
    && leb (minus s.next s.una) send_window
    && eqb (first_number_or s.outstanding s.next) s.una

-- waiting numbers ascending from rcv_nxt to rcv_nxt + 127
unfoldable pub waiting_fits : Receiving → Bool
waiting_fits r = ascending (waiting_offset r.next) 0 receive_window r.waiting

-- not starting at rcv_nxt while fewer than 128 are ready
unfoldable pub settled : Receiving → Bool
settled r = not (starts_at r.next r.waiting && ltb (length r.ready) receive_window)

-- a timeout from the mode's least to 60,000
abbrev pub timeout_fits : ℕ → ℕ → Bool
timeout_fits mode x = leb (least_timeout mode) x && leb x timeout_most

-- outstanding transmissions at most 20, skip counts at most 255, and the timeout
abbrev pub sent_fits : ℕ → Sent → Bool
sent_fits mode x = leb x.transmissions dead_after && leb x.record.skips skips_most && timeout_fits mode x.record.timeout

-- smoothed time and variation 0 to 2^31 - 1
abbrev pub round_trip_fits : ℕ → RoundTrip → Bool
round_trip_fits mode x = ltb x.smoothed (2 ^ 31) && ltb x.variation (2 ^ 31) && timeout_fits mode x.timeout

-- probe wait 0 or 7,000 to 120,000
abbrev pub probe_fits : ProbeClock → Bool
probe_fits p = eqb p.wait 0 || leb probe_wait_least p.wait && leb p.wait probe_wait_most

-- ---- the halves, and the whole

unfoldable pub sending_valid : Settings → Sending → Bool
sending_valid c s =
    all (held_fits (mss c)) (send_held s)
    && slots_fit send_slots (send_held s)
    && numbers_fit s
    && all (sent_fits c.mode) s.outstanding
    && round_trip_fits c.mode s.round_trip

unfoldable pub receiving_valid : Settings → Receiving → Bool
receiving_valid c r =
    all (held_fits (mss c)) (receive_held r)
    && slots_fit receive_slots (receive_held r)
    && leb (length r.ready) receive_window
    && waiting_fits r
    && settled r
    && leb (length r.acks) acks_most

unfoldable pub valid : State → Bool
valid s =
    in_range s.settings
    && sending_valid s.settings s.sending
    && receiving_valid s.settings s.receiving
    && probe_fits s.probe
    && fits s.congestion (mss s.settings)
