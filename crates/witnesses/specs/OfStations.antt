-- The premises of demand 3 can be met: a sender whose first flush is lost in part and sent again, and two receivers that are fed late and
-- shuffled. The first hears one datagram and reads nothing; the second hears one more, twice, and reads both messages. Proved by computing.
-- Assumes nothing.
use Rattle.std.specs.Prelude.{◌≡◌, refl, Bool, true, ◌&&◌, List, [], ◌∷◌, map, ℕ, zero, suc, ltb, length, get_or, replicate}
use mathlib.Core.List.Memᴰ
use Rattle.std.proofs.Common.{arith, ltb-true}
use Rattle.protocol.specs.Protocol.{output_least, lengths_least}
use Rattle.protocol.specs.declared.Settings.{Settings}
use Rattle.protocol.specs.declared.Refusal.TheVariants.{NoMessage}
use Rattle.protocol.specs.Serial.{signed, is_before, is_after, is_due}
use Rattle.wire.specs.LittleEndian.{AllBytes, bytes_of, number_at}
use Rattle.wire.specs.Headers.{encode, front, back, decode}
use Rattle.datagram.specs.Datagrams.{parse, walk, tail, verdict, segment_of}
use Rattle.timing.specs.Probes.{longer_wait, next_clock}
use Rattle.timing.specs.RoundTrips.{next_smoothed, next_variation, least_timeout, timeout_of, sampled}
use Rattle.retransmission.specs.Transmissions.{first_due, growth, longer_timeout, is_skipped, transmission}
use Rattle.lists.specs.Orders.{insert, is_held, ascending}
use Rattle.lists.specs.Receiving.{advance, starts_at}
use Rattle.lists.specs.Acknowledging.{select, first_number_or, skip_before}
use Rattle.sizes.specs.Sizes.{enough, enough_to_flush}
use Rattle.congestion.specs.Congestions as congestion
use Rattle.congestion.specs.Congestions.{
  used_window,
  slow_start,
  raised,
  widened,
  avoidance,
  limited,
  grown,
  after_datagram,
  halved,
  by_skips,
  by_timeout,
  at_least_one,
  fits,
}
use Rattle.session.specs.Slots.{occurs, lowest_from, lowest_free}
use Rattle.session.specs.Valid.{numbers_fit, waiting_fits, settled, sending_valid, receiving_valid, valid}
use Rattle.session.specs.Cutting.{fragment_count, segment_count, pieces, cut_as}
use Rattle.session.specs.Sending.{place, filled, sending}
use Rattle.session.specs.Flushing.{
  numbered,
  numbered_count,
  with_numbered,
  transmitted,
  written,
  bytes_of_segments,
  pack_one,
  packed,
  flushing,
}
use Rattle.session.specs.Input.{
  acknowledged,
  sampled_by,
  heard_by_sending,
  pushed,
  heard_by_receiving,
  all_by_sending,
  all_by_receiving,
  ack_numbers,
  furthest,
  skipped,
  applied,
  input,
}
use Rattle.session.specs.Reading.{joined_in, message, length_of, message_size, after_read, reading}
use Rattle.session.specs.Opening.{opened}
use Rattle.session.specs.Calls.{Station, Call, Reply, step, history, after, accepted_list, datagrams_by, read_answers}
use Rattle.session.specs.Decides.{All, and_parts}
use Rattle.delivery.specs.Accepted.{accepted_for}
use Rattle.delivery.specs.PlainReceiver.{push_numbers, pushes_in}
use Rattle.delivery.specs.Hearing.{CallFits, FewPushes, FedWith, HearsMore}
use Rattle.delivery.specs.Claims.{Delivered}
use Rattle.delivery.specs.Stations.{Opened, observed}
use Rattle.delivery.proofs.Demand3.{station_demand_3}

-- ---- bytes, by a test

abbrev pub byte_test : List ℕ → Bool
byte_test [] = true
byte_test (x ∷ l) = ltb x 256 && byte_test l

pub bytes_by : (l : List ℕ) → byte_test l ≡ true → AllBytes l
bytes_by [] e zero = omega arith
bytes_by [] e (suc i) = omega arith
bytes_by (x ∷ l) e zero = let a = and_parts (ltb x 256) (byte_test l) e in omega (arith, ltb-true x 256 a.0)
bytes_by (x ∷ l) e (suc i) = bytes_by l (and_parts (ltb x 256) (byte_test l) e).1 i

-- ---- the three

abbrev pub c : Settings
c = record { conv = 1; mtu = 50; mode = 0; interval = 100; threshold = 2; stream = 0; congestion = 0 }

unfoldable pub station : Station
station = record {
  state = opened c;
  send_pool = replicate 3328 0;
  receive_pool = replicate 6656 0;
  lent = record { table = 128; ack_list = 512; output = output_least; lengths = lengths_least };
}

-- a message of two segments, one that is refused, and one of one segment; a flush after the first, and one when its segments are due again
unfoldable pub calls : List Call
calls = Call.send (replicate 27 7) ∷ Call.flush 5 ∷ Call.send (replicate 3303 1) ∷ Call.send (9 ∷ []) ∷ Call.flush 300 ∷ []

unfoldable pub wrote : List (List ℕ)
wrote = datagrams_by (history station calls)

-- the last datagram alone: the second segment again, and the second message
unfoldable pub firsts : List Call
firsts = Call.take_in (get_or wrote 3 []) ∷ Call.flush 9 ∷ Call.read 100 ∷ Call.read 20 ∷ []

-- the first datagram too, late and twice
unfoldable pub seconds : List Call
seconds =
    Call.take_in (get_or wrote 3 [])
    ∷ Call.send (1 ∷ [])
    ∷ Call.take_in (get_or wrote 0 [])
    ∷ Call.take_in (get_or wrote 0 [])
    ∷ Call.read 100
    ∷ Call.read 20
    ∷ []

more : HearsMore firsts seconds
unfolding firsts seconds
more = HearsMore.both_take (HearsMore.second_sends
    (HearsMore.takes_more (HearsMore.takes_more (HearsMore.first_flushes (HearsMore.both_read (HearsMore.both_read HearsMore.start))))))

-- ---- what is computed

pub record Met : Type 0 where
  pub opens : Opened c station
  pub sizes : map (λ (d : List ℕ). length d) wrote ≡ 50 ∷ 25 ∷ 50 ∷ 50 ∷ []
  pub few : FewPushes c (datagrams_by (history station calls))
  pub fed_first : FedWith (datagrams_by (history station calls)) firsts
  pub fed_second : FedWith (datagrams_by (history station calls)) seconds
  pub fits : All CallFits calls
  pub fits_first_lem : All CallFits firsts
  pub fits_second : All CallFits seconds
  pub first_reads : read_answers (history station firsts) ≡ Reply.refused NoMessage ∷ Reply.refused NoMessage ∷ []
  pub second_reads : read_answers (history station seconds) ≡ Reply.message (replicate 27 7) ∷ Reply.message (9 ∷ []) ∷ []

pub met : Met
unfolding used_window slow_start raised widened avoidance limited grown after_datagram halved by_skips by_timeout at_least_one fits
    congestion.after_flush firsts seconds wrote station calls push_numbers pushes_in signed is_before is_after is_due front back encode decode
    bytes_of number_at verdict segment_of tail walk parse longer_wait next_clock next_smoothed next_variation least_timeout timeout_of sampled
    first_due growth longer_timeout is_skipped transmission select first_number_or skip_before advance starts_at insert is_held ascending enough
    enough_to_flush step history after datagrams_by fragment_count segment_count pieces cut_as filled numbered numbered_count with_numbered
    transmitted written bytes_of_segments pack_one packed flushing acknowledged sampled_by heard_by_sending pushed heard_by_receiving
    all_by_sending all_by_receiving ack_numbers furthest skipped applied input opened joined_in message length_of message_size after_read reading
    place sending occurs lowest_from lowest_free numbers_fit waiting_fits settled sending_valid receiving_valid valid
met = record {
  opens = record { state = refl; long = refl };
  sizes = refl;
  few = omega arith;
  fed_first = (Memᴰ.tail (Memᴰ.tail (Memᴰ.tail (Memᴰ.head refl))), tt);
  fed_second = (
    Memᴰ.tail (Memᴰ.tail (Memᴰ.tail (Memᴰ.head refl))),
    (Memᴰ.head refl, (Memᴰ.head refl, tt)),
  );
  fits = (bytes_by (replicate 27 7) refl, (omega arith, (bytes_by (replicate 3303 1) refl, (bytes_by (9 ∷ []) refl, (omega arith, tt)))));
  fits_first_lem = (bytes_by (get_or wrote 3 []) refl, (omega arith, (tt, (tt, tt))));
  fits_second = (
    bytes_by (get_or wrote 3 []) refl,
    (bytes_by (1 ∷ []) refl, (bytes_by (get_or wrote 0 []) refl, (bytes_by (get_or wrote 0 []) refl, (tt, (tt, tt))))),
  );
  first_reads = refl;
  second_reads = refl;
}

-- demand 3 says something of them
pub holds : Delivered c (accepted_list (history station calls)) (observed station firsts) (observed station seconds)
unfolding accepted_for
holds =
    station_demand_3 c (record { range = refl; conv = omega arith }) station station station met.opens met.opens met.opens calls
    firsts seconds met.fits met.fits_first_lem
    met.fits_second
    met.few
    met.fed_first
    met.fed_second
    more
