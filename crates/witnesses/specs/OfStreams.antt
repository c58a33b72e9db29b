-- The premises of demand 3 can be met in stream mode: two sends make two segments, which an update numbers; a third send fills neither
-- of them. The first
-- receiver hears the second segment alone and reads nothing, the second one hears both and reads the first. Proved by computing.
-- Assumes nothing.
use Rattle.std.specs.Prelude.{◌≡◌, refl, List, [], ◌∷◌, ◌++◌, ℕ, get_or, replicate}
use mathlib.Core.List.Memᴰ
use Rattle.std.proofs.Common.{arith}
use Rattle.protocol.specs.Protocol.{output_least, lengths_least}
use Rattle.protocol.specs.declared.Settings.{Settings}
use Rattle.protocol.specs.declared.Refusal.TheVariants.{NoMessage}
use Rattle.protocol.specs.Serial.{signed, is_before, is_after, is_due}
use Rattle.wire.specs.LittleEndian.{bytes_of, number_at}
use Rattle.wire.specs.Headers.{encode, front, back, decode}
use Rattle.datagram.specs.Datagrams.{parse, walk, tail, verdict, segment_of}
use Rattle.timing.specs.Probes.{longer_wait, next_clock}
use Rattle.timing.specs.RoundTrips.{next_smoothed, next_variation, least_timeout, timeout_of, sampled}
use Rattle.retransmission.specs.Transmissions.{first_due, growth, longer_timeout, is_skipped, transmission}
use Rattle.lists.specs.Orders.{insert, is_held, ascending}
use Rattle.lists.specs.Receiving.{advance, starts_at}
use Rattle.lists.specs.Acknowledging.{select, first_number_or, skip_before}
use Rattle.sizes.specs.Sizes.{enough, enough_to_flush}
use Rattle.schedule.specs.Schedules.{is_astray, corrected, started, following, updated}
use Rattle.congestion.specs.Congestions as congestion
use Rattle.congestion.specs.Congestions.{
  used_window,
  slow_start,
  raised,
  widened,
  avoidance,
  limited,
  grown,
  after_datagram,
  halved,
  by_skips,
  by_timeout,
  at_least_one,
  fits,
}
use Rattle.session.specs.Slots.{occurs, lowest_from, lowest_free}
use Rattle.session.specs.Valid.{numbers_fit, waiting_fits, settled, sending_valid, receiving_valid, valid}
use Rattle.session.specs.Cutting.{fragment_count, segment_count, pieces, cut_as}
use Rattle.session.specs.Sending.{place, filled, sending}
use Rattle.session.specs.Flushing.{
  numbered,
  numbered_count,
  with_numbered,
  transmitted,
  written,
  bytes_of_segments,
  pack_one,
  packed,
  flushing,
}
use Rattle.session.specs.Updating.{updating}
use Rattle.session.specs.Input.{
  acknowledged,
  sampled_by,
  heard_by_sending,
  pushed,
  heard_by_receiving,
  all_by_sending,
  all_by_receiving,
  ack_numbers,
  furthest,
  skipped,
  applied,
  input,
}
use Rattle.session.specs.Reading.{joined_in, message, length_of, message_size, after_read, reading}
use Rattle.session.specs.Opening.{opened}
use Rattle.session.specs.Calls.{Station, Call, Reply, step, history, after, datagrams_by, read_answers}
use Rattle.session.specs.Decides.{All}
use Rattle.delivery.specs.Accepted.{numbered_in, numbered_in_all, numbered_by, accepted_for}
use Rattle.delivery.specs.PlainReceiver.{push_numbers, pushes_in}
use Rattle.delivery.specs.Hearing.{CallFits, FewPushes, FedWith, HearsMore}
use Rattle.delivery.specs.Claims.{Delivered}
use Rattle.delivery.specs.Stations.{Opened, observed}
use Rattle.delivery.proofs.Demand3.{station_demand_3}
use Rattle.witnesses.specs.OfStations.{bytes_by}

abbrev pub c : Settings
c = record { conv = 1; mtu = 50; mode = 0; interval = 100; threshold = 2; stream = 1; congestion = 0 }

unfoldable pub station : Station
station = record {
  state = opened c;
  send_pool = replicate 3328 0;
  receive_pool = replicate 6656 0;
  lent = record { table = 128; ack_list = 512; output = output_least; lengths = lengths_least };
}

-- the first update flushes
unfoldable pub calls : List Call
calls = Call.send (replicate 10 7) ∷ Call.send (replicate 20 8) ∷ Call.update 5 ∷ Call.send (9 ∷ []) ∷ []

unfoldable pub wrote : List (List ℕ)
wrote = datagrams_by (history station calls)

unfoldable pub firsts : List Call
firsts = Call.take_in (get_or wrote 1 []) ∷ Call.read 100 ∷ []

unfoldable pub seconds : List Call
seconds = Call.take_in (get_or wrote 1 []) ∷ Call.take_in (get_or wrote 0 []) ∷ Call.read 100 ∷ []

more : HearsMore firsts seconds
unfolding firsts seconds
more = HearsMore.both_take (HearsMore.takes_more (HearsMore.both_read HearsMore.start))

-- ---- what is computed

pub record Met : Type 0 where
  pub opens : Opened c station
  -- the second send fills the first segment; the third one is queued
  pub accepted : accepted_for c (history station calls) ≡ (replicate 10 7 ++ replicate 16 8) ∷ replicate 4 8 ∷ []
  pub queued : joined_in 26 (after station calls).send_pool (after station calls).state.sending.queued ≡ 9 ∷ []
  pub few : FewPushes c (datagrams_by (history station calls))
  pub fed_first : FedWith (datagrams_by (history station calls)) firsts
  pub fed_second : FedWith (datagrams_by (history station calls)) seconds
  pub fits : All CallFits calls
  pub fits_first_lem : All CallFits firsts
  pub fits_second : All CallFits seconds
  pub first_reads : read_answers (history station firsts) ≡ Reply.refused NoMessage ∷ []
  pub second_reads : read_answers (history station seconds) ≡ Reply.message (replicate 10 7 ++ replicate 16 8) ∷ []

pub met : Met
unfolding used_window slow_start raised widened avoidance limited grown after_datagram halved by_skips by_timeout at_least_one fits
    congestion.after_flush firsts seconds wrote station calls push_numbers pushes_in signed is_before is_after is_due front back encode decode
    bytes_of number_at verdict segment_of tail walk parse longer_wait next_clock next_smoothed next_variation least_timeout timeout_of sampled
    first_due growth longer_timeout is_skipped transmission select first_number_or skip_before advance starts_at insert is_held ascending enough
    enough_to_flush step history after datagrams_by fragment_count segment_count pieces cut_as filled numbered numbered_count with_numbered
    transmitted written bytes_of_segments pack_one packed flushing acknowledged sampled_by heard_by_sending pushed heard_by_receiving
    all_by_sending all_by_receiving ack_numbers furthest skipped applied input opened joined_in message length_of message_size after_read reading
    place sending updated corrected started following is_astray updating accepted_for numbered_by numbered_in_all numbered_in occurs lowest_from
    lowest_free numbers_fit waiting_fits settled sending_valid receiving_valid valid
met = record {
  opens = record { state = refl; long = refl };
  accepted = refl;
  queued = refl;
  few = omega arith;
  fed_first = (Memᴰ.tail (Memᴰ.head refl), tt);
  fed_second = (Memᴰ.tail (Memᴰ.head refl), (Memᴰ.head refl, tt));
  fits = (bytes_by (replicate 10 7) refl, (bytes_by (replicate 20 8) refl, (omega arith, (bytes_by (9 ∷ []) refl, tt))));
  fits_first_lem = (bytes_by (get_or wrote 1 []) refl, (tt, tt));
  fits_second = (bytes_by (get_or wrote 1 []) refl, (bytes_by (get_or wrote 0 []) refl, (tt, tt)));
  first_reads = refl;
  second_reads = refl;
}

-- demand 3 says something of them
pub holds : Delivered c (accepted_for c (history station calls)) (observed station firsts) (observed station seconds)
holds =
    station_demand_3 c (record { range = refl; conv = omega arith }) station station station met.opens met.opens met.opens calls
    firsts seconds met.fits met.fits_first_lem met.fits_second met.few met.fed_first met.fed_second more
