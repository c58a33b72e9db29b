-- A session that is computed: a sender sends a message of two segments and one of one, flushes, or updates three times, and takes in two
-- acks; a receiver takes the two datagrams in and reads both messages. The second datagram has two segments, the last of the first
-- message and the second message.
-- Assumes nothing.
use Rattle.std.specs.Prelude.{◌≡◌, refl, Bool, true, false, List, [], ◌∷◌, ◌++◌, map, ℕ, length, get_or, replicate}
use Rattle.protocol.specs.declared.Settings.{Settings}
use Rattle.protocol.specs.declared.Refusal.TheVariants.{NoMessage}
use Rattle.protocol.specs.Protocol.{ack}
use Rattle.protocol.specs.Serial.{signed, is_before, is_after, is_due}
use Rattle.wire.specs.LittleEndian.{bytes_of, number_at}
use Rattle.wire.specs.declared.Header.{Header}
use Rattle.wire.specs.Headers.{encode, front, back, decode}
use Rattle.datagram.specs.Datagrams.{parse, walk, tail, verdict, segment_of}
use Rattle.timing.specs.Probes.{longer_wait, next_clock}
use Rattle.timing.specs.RoundTrips.{next_smoothed, next_variation, least_timeout, timeout_of, sampled}
use Rattle.retransmission.specs.Transmissions.{first_due, growth, longer_timeout, is_skipped, transmission}
use Rattle.lists.specs.Orders.{insert, is_held, ascending}
use Rattle.lists.specs.Receiving.{advance, starts_at}
use Rattle.lists.specs.declared.Sent.{Sent}
use Rattle.lists.specs.Acknowledging.{select, first_number_or, skip_before}
use Rattle.sizes.specs.Sizes.{enough}
use Rattle.schedule.specs.Schedules as scheduling
use Rattle.schedule.specs.Schedules.{is_astray, corrected, started, following, ahead, earliest, named}
use Rattle.session.specs.Slots.{occurs, lowest_from, lowest_free}
use Rattle.congestion.specs.Congestions.{
  used_window,
  slow_start,
  raised,
  widened,
  avoidance,
  limited,
  grown,
  after_datagram,
  halved,
  by_skips,
  by_timeout,
  at_least_one,
  after_flush,
  fits,
}
use Rattle.session.specs.State.{Outcome, refused, done, with_times, with_schedule}
use Rattle.session.specs.Valid.{numbers_fit, waiting_fits, settled, sending_valid, receiving_valid, valid}
use Rattle.session.specs.Opening.{opened, opening}
use Rattle.session.specs.Cutting.{fragment_count, segment_count, pieces, cut_as}
use Rattle.session.specs.Sending.{Sends, place, filled, sending}
use Rattle.session.specs.Flushing.{
  Flushed,
  numbered,
  numbered_count,
  with_numbered,
  transmitted,
  written,
  bytes_of_segments,
  pack_one,
  packed,
  flushing,
}
use Rattle.session.specs.Input as Input-of
use Rattle.session.specs.Input.{
  Took,
  sampled_by,
  heard_by_sending,
  pushed,
  heard_by_receiving,
  all_by_sending,
  all_by_receiving,
  ack_numbers,
  furthest,
  skipped,
  applied,
  input,
}
use Rattle.session.specs.Reading as reading-of
use Rattle.session.specs.Reading.{Reads, joined_in, message, length_of, message_size, reading, telling, showing}
use Rattle.session.specs.Updating as session
use Rattle.session.specs.Updating.{updating, checking}
use Rattle.promises.specs.Promises.{shown, place_of}
use Rattle.wrong_links.specs.Standing.{Known, Passes, lengths_known}

-- ---- both ends at first

abbrev pub settings : Settings
settings = record { conv = 1; mtu = 50; interval = 100; mode = 0; threshold = 2; stream = 0; congestion = 0 }

-- what an opening is lent
unfoldable pub send_pool : List ℕ
send_pool = replicate 3328 0

unfoldable pub receive_pool : List ℕ
receive_pool = replicate 6656 0

abbrev pub fresh : Known
fresh = record { state = opened settings; send_pool = send_pool; receive_pool = receive_pool }

-- the result of an outcome that is not refused
abbrev pub result_or : {A : Type 0} → A → Outcome A → A
result_or x (refused r) = x
result_or x (done y) = y

abbrev pub is_done : {A : Type 0} → Outcome A → Bool
is_done (refused r) = false
is_done (done y) = true

-- ---- the sender

unfoldable pub first : List ℕ
first = replicate 27 7

unfoldable pub second : List ℕ
second = 9 ∷ []

abbrev pub sends : Known → List ℕ → Sends
sends k m = result_or (record { state = k.state; pool = k.send_pool }) (sending k.state k.send_pool m)

abbrev pub after_send : Known → Sends → Known
after_send k x = record { state = x.state; send_pool = x.pool; receive_pool = k.receive_pool }

unfoldable pub one_sent : Known
one_sent = after_send fresh (sends fresh first)

unfoldable pub both_sent : Known
both_sent = after_send one_sent (sends one_sent second)

unfoldable pub flush : Flushed
flush = flushing both_sent.state 5 both_sent.send_pool

unfoldable pub flushed : Known
flushed = record { state = flush.state; send_pool = both_sent.send_pool; receive_pool = both_sent.receive_pool }

-- its datagrams
unfoldable pub datagrams : List (List ℕ)
datagrams = map bytes_of_segments flush.datagrams

-- or it updates: the first one flushes, the next waits, and at the next flush time there is nothing to write
unfoldable pub update : Flushed
update = flushing (with_schedule both_sent.state (record { next = 105; made = true })) 5 both_sent.send_pool

unfoldable pub updated : Known
updated = record { state = update.state; send_pool = both_sent.send_pool; receive_pool = both_sent.receive_pool }

unfoldable pub rested : Known
rested =
    record {
      state = with_times updated.state 6 updated.state.schedule;
      send_pool = updated.send_pool;
      receive_pool = updated.receive_pool;
    }

unfoldable pub later_update : Flushed
later_update = flushing (with_schedule rested.state (record { next = 205; made = true })) 105 rested.send_pool

-- acks of the segments 0 and 1, in one datagram; una is after none
abbrev pub ack_of : ℕ → Header
ack_of n = record { conv = 1; cmd = ack; frg = 0; wnd = 128; ts = 5; sn = n; una = 0; len = 0 }

unfoldable pub acks : List ℕ
acks = encode (ack_of 0) ++ encode (ack_of 1)

abbrev pub takes : Known → List ℕ → Took
takes k d = result_or (record { state = k.state; pool = k.receive_pool }) (input k.state k.receive_pool d)

abbrev pub after_input : Known → Took → Known
after_input k x = record { state = x.state; send_pool = k.send_pool; receive_pool = x.pool }

unfoldable pub acknowledged : Known
acknowledged = after_input flushed (takes flushed acks)

-- ---- the receiver

unfoldable pub one_heard : Known
one_heard = after_input fresh (takes fresh (get_or datagrams 0 []))

unfoldable pub both_heard : Known
both_heard = after_input one_heard (takes one_heard (get_or datagrams 1 []))

-- into a buffer of 30 bytes
abbrev pub reads : Known → Reads
reads k = result_or (record { state = k.state; bytes = [] }) (reading k.state k.receive_pool 30)

abbrev pub after_read : Known → Reads → Known
after_read k x = record { state = x.state; send_pool = k.send_pool; receive_pool = k.receive_pool }

unfoldable pub one_read : Known
one_read = after_read both_heard (reads both_heard)

unfoldable pub both_read : Known
both_read = after_read one_read (reads one_read)

-- ---- what is computed of them

-- neither 7 nor 13 is given to either
pub record AllPass : Type 0 where
  pub at_first : Passes fresh
  pub one_sent_lem : Passes one_sent
  pub both_sent_lem : Passes both_sent
  pub one_flushed : Passes flushed
  pub one_updated : Passes updated
  pub one_rested : Passes rested
  pub one_heard_lem : Passes one_heard
  pub both_heard_lem : Passes both_heard
  pub one_read_lem : Passes one_read
  pub both_read_lem : Passes both_read

-- each call's outcome
pub record Computed : Type 0 where
  pub opens : opening settings (lengths_known fresh) ≡ done fresh.state
  pub sends_first : is_done (sending fresh.state fresh.send_pool first) ≡ true
  pub sends_second : is_done (sending one_sent.state one_sent.send_pool second) ≡ true
  pub datagram_count : length flush.datagrams ≡ 2
  pub datagram_sizes : map (λ (d : List ℕ). length d) datagrams ≡ 50 ∷ 50 ∷ []
  pub updates_first : updating both_sent.state 5 both_sent.send_pool ≡ session.flushes update
  pub update_count : length update.datagrams ≡ 2
  pub update_datagrams : map bytes_of_segments update.datagrams ≡ datagrams
  pub updates_waiting : updating updated.state 6 updated.send_pool ≡ session.waits rested.state
  pub updates_later : updating rested.state 105 rested.send_pool ≡ session.flushes later_update
  pub later_none : later_update.datagrams ≡ []
  pub checks_first : checking both_sent.state 5 ≡ 5
  pub checks_later : checking rested.state 6 ≡ 105
  pub takes_acks : is_done (input flushed.state flushed.receive_pool acks) ≡ true
  pub left_outstanding : map (λ (x : Sent). x.record.number) acknowledged.state.sending.outstanding ≡ 2 ∷ []
  pub takes_first : is_done (input fresh.state fresh.receive_pool (get_or datagrams 0 [])) ≡ true
  pub size_none : telling one_heard.state ≡ refused NoMessage
  pub takes_second : is_done (input one_heard.state one_heard.receive_pool (get_or datagrams 1 [])) ≡ true
  pub size_first : telling both_heard.state ≡ done 27
  pub shown_first : ((place_of (showing both_heard.state)).start ≡ 0) ×
      (shown (showing both_heard.state) both_heard.receive_pool ≡ replicate 26 7)
  pub shown_second : ((place_of (showing one_read.state)).start ≡ 52) × (shown (showing one_read.state) one_read.receive_pool ≡ second)
  pub reads_first : is_done (reading both_heard.state both_heard.receive_pool 30) ≡ true
  pub message_first : (reads both_heard).bytes ≡ first
  pub reads_second : is_done (reading one_read.state one_read.receive_pool 30) ≡ true
  pub message_second : (reads one_read).bytes ≡ second
  pub reads_none : reading both_read.state both_read.receive_pool 30 ≡ refused NoMessage

pub all_pass : AllPass
unfolding used_window slow_start raised widened avoidance limited grown after_datagram halved by_skips by_timeout at_least_one after_flush fits
    send_pool receive_pool first second one_sent both_sent flush flushed update updated rested later_update datagrams acks acknowledged one_heard
    both_heard one_read both_read opened opening enough signed is_before is_after is_due front back encode decode bytes_of number_at verdict
    segment_of tail walk parse longer_wait next_clock next_smoothed next_variation least_timeout timeout_of sampled first_due growth longer_timeout
    is_skipped transmission select first_number_or skip_before advance starts_at insert is_held ascending fragment_count segment_count pieces cut_as
    filled numbered numbered_count with_numbered transmitted written bytes_of_segments pack_one packed flushing Input-of.acknowledged
    sampled_by heard_by_sending pushed heard_by_receiving all_by_sending all_by_receiving ack_numbers furthest skipped applied input joined_in message
    length_of message_size reading-of.after_read reading telling showing place sending occurs lowest_from lowest_free numbers_fit waiting_fits
    settled sending_valid receiving_valid valid
all_pass = record {
  at_first = record { long = refl; made = refl };
  one_sent_lem = record { long = refl; made = refl };
  both_sent_lem = record { long = refl; made = refl };
  one_flushed = record { long = refl; made = refl };
  one_updated = record { long = refl; made = refl };
  one_rested = record { long = refl; made = refl };
  one_heard_lem = record { long = refl; made = refl };
  both_heard_lem = record { long = refl; made = refl };
  one_read_lem = record { long = refl; made = refl };
  both_read_lem = record { long = refl; made = refl };
}

pub computed : Computed
unfolding place_of used_window slow_start raised widened avoidance limited grown after_datagram halved by_skips by_timeout at_least_one after_flush
    fits send_pool receive_pool first second one_sent both_sent flush flushed update updated rested later_update datagrams acks acknowledged
    one_heard both_heard one_read both_read opened opening enough signed is_before is_after is_due front back encode decode bytes_of number_at
    verdict segment_of tail walk parse longer_wait next_clock next_smoothed next_variation least_timeout timeout_of sampled first_due growth
    longer_timeout is_skipped transmission select first_number_or skip_before advance starts_at insert is_held ascending fragment_count segment_count
    pieces cut_as filled numbered numbered_count with_numbered transmitted written bytes_of_segments pack_one packed flushing
    Input-of.acknowledged sampled_by heard_by_sending pushed heard_by_receiving all_by_sending all_by_receiving ack_numbers furthest skipped applied
    input joined_in message length_of message_size reading-of.after_read reading telling showing place sending occurs lowest_from lowest_free
    numbers_fit waiting_fits settled sending_valid receiving_valid valid scheduling.updated is_astray corrected started following ahead earliest
    named updating checking
computed = record {
  opens = refl;
  sends_first = refl;
  sends_second = refl;
  datagram_count = refl;
  datagram_sizes = refl;
  updates_first = refl;
  update_count = refl;
  update_datagrams = refl;
  updates_waiting = refl;
  updates_later = refl;
  later_none = refl;
  checks_first = refl;
  checks_later = refl;
  takes_acks = refl;
  left_outstanding = refl;
  takes_first = refl;
  size_none = refl;
  takes_second = refl;
  size_first = refl;
  shown_first = (refl, refl);
  shown_second = (refl, refl);
  reads_first = refl;
  message_first = refl;
  reads_second = refl;
  message_second = refl;
  reads_none = refl;
}
