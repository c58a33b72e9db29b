-- Errors that look right, as document 01 names them: what the definitions give where each would give something else. Proved by computing.
-- Assumes nothing.
use Rattle.std.specs.Prelude.{◌≡◌, refl, false, List, [], ◌∷◌, ◌++◌, map, ℕ, length, replicate, take}
use Rattle.protocol.specs.Protocol.{push, ack, acks_most}
use Rattle.protocol.specs.Serial.{signed, is_before, is_after, is_due}
use Rattle.protocol.specs.declared.Settings.{Settings}
use Rattle.protocol.specs.declared.Refusal.TheVariants.{HighFragment}
use Rattle.wire.specs.LittleEndian.{bytes_of, number_at}
use Rattle.wire.specs.Headers.{encode, front, back, decode}
use Rattle.datagram.specs.Datagrams.{Segment, parse, walk, tail, verdict, segment_of}
use Rattle.timing.specs.RoundTrips.{next_smoothed, next_variation, least_timeout, timeout_of, sampled}
use Rattle.lists.specs.declared.Sent.{Sent}
use Rattle.lists.specs.declared.Waiting.{Waiting}
use Rattle.lists.specs.Orders.{insert, is_held}
use Rattle.lists.specs.Receiving.{advance}
use Rattle.lists.specs.Acknowledging.{select, first_number_or, skip_before}
use Rattle.session.specs.Slots.{occurs, lowest_from, lowest_free}
use Rattle.session.specs.State.{Sending, Receiving, Outcome, with_numbers, with_lists, with_notes, with_sending}
use Rattle.session.specs.Opening.{opened}
use Rattle.session.specs.Input.{
  Receiver,
  Took,
  acknowledged,
  applied,
  all_by_receiving,
  heard_by_receiving,
  sampled_by,
  heard_by_sending,
  all_by_sending,
  ack_numbers,
  furthest,
  skipped,
  skipped_by_all,
  pushed,
  input,
}

abbrev small : Settings
small = record { conv = 1; mtu = 50; interval = 100; mode = 0; threshold = 0; stream = 0; congestion = 0 }

abbrev segment : ℕ → ℕ → ℕ → Segment
segment cmd fragment sn = record {
  header = record { conv = 1; cmd = cmd; frg = fragment; wnd = 128; ts = 0; sn = sn; una = 0; len = 0 };
  payload = [];
}

-- ---- comparing sn as plain numbers

-- the last number is expected next, and pushes come with these numbers
unfoldable pub after_last : List ℕ → Receiving
after_last sns = (after (record { half = with_lists (opened small).receiving 4294967295 [] []; pool = [] }) sns).half
  where
    after : Receiver → List ℕ → Receiver
    after x [] = x
    after x (sn ∷ l) = after (pushed 26 x (segment push 0 sn)) l

-- number 0 comes after 4,294,967,295: it is noted and kept, and both are ready once that one comes too
pub kept_past_last : (map (λ (w : Waiting). w.number) (after_last (0 ∷ [])).waiting ≡ 0 ∷ []) × (length (after_last (0 ∷ [])).acks ≡ 1)
    × (length (after_last (0 ∷ 4294967295 ∷ [])).ready ≡ 2) × ((after_last (0 ∷ 4294967295 ∷ [])).next ≡ 1)
unfolding after_last pushed insert is_held advance lowest_free lowest_from occurs signed is_before opened
kept_past_last = (refl, refl, refl, refl)

-- ---- a skip per ack

abbrev sent_as : ℕ → Sent
sent_as n = record {
  held = record { slot = n; len = 0; fragment = 0 };
  transmissions = 1;
  «record» = record { number = n; due = 0; timeout = 100; skips = 0 };
}

-- outstanding 0 to 3
abbrev four : Sending
four =
    with_numbers (opened small).sending 4 [] (sent_as 0 ∷ sent_as 1 ∷ sent_as 2 ∷ sent_as 3 ∷ [])

-- the sending half after datagrams of these acks
unfoldable pub after_acks : Sending → List (List ℕ) → Sending
after_acks s [] = s
after_acks s (sns ∷ l) =
    let gs = map (segment ack 0) sns in
    after_acks (skipped_by_all (all_by_sending small 0 s gs) (ack_numbers gs)) l

-- the skips of the outstanding segments
abbrev skips_after : List (List ℕ) → List ℕ
skips_after l = map (λ (x : Sent). x.record.skips) (after_acks four l).outstanding

-- one datagram with acks 1 and 2 gives segment 0 one skip; two datagrams give two
pub skips : (skips_after ((1 ∷ 2 ∷ []) ∷ []) ≡ 1 ∷ 0 ∷ []) × (skips_after ((1 ∷ []) ∷ (2 ∷ []) ∷ []) ≡ 2 ∷ 0 ∷ [])
unfolding after_acks acknowledged sampled_by heard_by_sending all_by_sending ack_numbers furthest skipped select first_number_or skip_before signed
    is_before is_after is_due sampled next_smoothed next_variation least_timeout timeout_of opened
skips = (refl, refl)

-- ---- a peer that acknowledges what was never sent

-- four are outstanding, and a push comes with una 900 and window 7
unfoldable pub after_ahead : Took
after_ahead =
    let g : Segment = record {
      header = record { conv = 1; cmd = push; frg = 0; wnd = 7; ts = 5; sn = 0; una = 900; len = 2 };
      payload = 104 ∷ 105 ∷ [];
    } in
    applied (with_sending (opened small) four) (replicate 52 0) (g ∷ [])

-- nothing is removed
pub none_removed : (map (λ (x : Sent). x.record.number) after_ahead.state.sending.outstanding ≡ 0 ∷ 1 ∷ 2 ∷ 3 ∷ []) ×
    (after_ahead.state.sending.una ≡ 0)
unfolding after_ahead applied acknowledged heard_by_sending all_by_sending ack_numbers opened select first_number_or signed is_after
none_removed = (refl, refl)

-- the rest is taken as ever: its window, its payload, and the ack for it
pub rest_taken : (after_ahead.state.sending.window ≡ 7) × (take 2 after_ahead.pool ≡ 104 ∷ 105 ∷ [])
    × (length after_ahead.state.receiving.ready ≡ 1) × (after_ahead.state.receiving.acks ≡ record { sn = 0; ts = 5 } ∷ [])
unfolding after_ahead applied heard_by_sending all_by_sending all_by_receiving heard_by_receiving ack_numbers opened acknowledged pushed insert is_held
    advance lowest_free lowest_from occurs signed is_before is_after select
rest_taken = (refl, refl, refl, refl)

-- ---- refusing data when the ack list is full

abbrev full_list : Receiving
full_list = with_notes (opened small).receiving (replicate acks_most (record { sn = 0; ts = 0 })) false

abbrev after_push : Receiving
after_push = (pushed 26 (record { half = full_list; pool = [] }) (segment push 0 0)).half

-- no ack is noted, and the data is taken
pub still_taken : (length after_push.acks ≡ 256) × (length after_push.ready ≡ 1) × (after_push.next ≡ 1)
unfolding pushed insert is_held advance lowest_free lowest_from occurs signed is_before opened
still_taken = (refl, refl, refl)

-- ---- applying segments until the bad one

-- a good push, and one with fragment number 127 behind it: refused whole
pub refused_whole : input (opened small) [] (encode (segment push 0 0).header ++ encode (segment push 127 1).header) ≡ Outcome.refused
    HighFragment
unfolding input opened parse walk tail verdict segment_of encode front back decode bytes_of number_at
refused_whole = refl
