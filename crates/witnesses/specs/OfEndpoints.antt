-- The premises of demand 3 can be met by steps that keep the promises of the public calls: a sender, a receiver that hears nothing and gets
-- 9, and one that hears the datagram and reads the message. Proved by computing.
-- Assumes nothing.
use Rattle.std.specs.Prelude.{refl, List, [], ◌∷◌, ℕ, replicate, Err, Ok}
use mathlib.Core.List.Memᴰ
use Rattle.std.proofs.Common.{arith}
use Rattle.std.proofs.lemmas.List.Edits.{sets}
use Rattle.protocol.specs.Protocol.{output_least, lengths_least}
use Rattle.protocol.specs.declared.Refusal.TheVariants.{NoMessage}
use Rattle.protocol.specs.Serial.{signed, is_before, is_after, is_due}
use Rattle.wire.specs.LittleEndian.{AllBytes, bytes_of, number_at}
use Rattle.wire.specs.Headers.{encode, front, back, decode}
use Rattle.datagram.specs.Datagrams.{parse, walk, tail, verdict, segment_of}
use Rattle.timing.specs.Probes.{longer_wait, next_clock}
use Rattle.timing.specs.RoundTrips.{next_smoothed, next_variation, least_timeout, timeout_of, sampled}
use Rattle.retransmission.specs.Transmissions.{first_due, growth, longer_timeout, is_skipped, transmission}
use Rattle.lists.specs.Joining as joining
use Rattle.lists.specs.Orders.{insert, is_held, ascending}
use Rattle.lists.specs.Receiving.{advance, starts_at}
use Rattle.lists.specs.Acknowledging.{select, first_number_or, skip_before}
use Rattle.sizes.specs.Sizes.{enough, enough_to_flush}
use Rattle.congestion.specs.Congestions as congestion
use Rattle.congestion.specs.Congestions.{
  used_window,
  slow_start,
  raised,
  widened,
  avoidance,
  limited,
  grown,
  after_datagram,
  halved,
  by_skips,
  by_timeout,
  at_least_one,
  fits,
}
use Rattle.session.specs.Slots.{occurs, lowest_from, lowest_free}
use Rattle.session.specs.Valid.{numbers_fit, waiting_fits, settled, sending_valid, receiving_valid, valid}
use Rattle.session.specs.Cutting.{fragment_count, segment_count, pieces, cut_as}
use Rattle.session.specs.Sending.{place, filled, sending}
use Rattle.session.specs.Flushing.{
  numbered,
  numbered_count,
  with_numbered,
  transmitted,
  written,
  bytes_of_segments,
  pack_one,
  packed,
  flushing,
}
use Rattle.session.specs.Input.{
  acknowledged,
  sampled_by,
  heard_by_sending,
  pushed,
  heard_by_receiving,
  all_by_sending,
  all_by_receiving,
  ack_numbers,
  furthest,
  skipped,
  applied,
  input,
}
use Rattle.session.specs.Reading.{joined_in, message, length_of, message_size, after_read, reading}
use Rattle.session.specs.Opening.{opened, opening}
use Rattle.session.specs.Calls.{Call, Reply, Event, accepted_list, datagrams_by}
use Rattle.words.specs.Words.{paired}
use Rattle.control.specs.Views.{pairs, state_of, counts_fit, block_valid}
use Rattle.records.specs.Tables.{blank, scattered}
use Rattle.packing.specs.Packers.{joined, lengths_of}
use Rattle.promises.specs.Parts.{Parts, flush_parts_of}
use Rattle.promises.specs.Outcomes.{sends_with, takes_in_with, flushes_with, reads_with, sends, takes_in, flushes, reads}
use Rattle.delivery.specs.Accepted.{accepted_for}
use Rattle.delivery.specs.PlainReceiver.{push_numbers, pushes_in}
use Rattle.delivery.specs.Hearing.{FewPushes, FedWith, HearsMore}
use Rattle.demands.specs.Steps.{Endpoint, cut_by, Called, start, next, Opens, SinceOpening}
use Rattle.delivery.specs.Claims.{Delivered}
use Rattle.demands.specs.Claims.{observed}
use Rattle.demands.specs.Relations.{entries_of}
use Rattle.demands.proofs.Demand3.{demand_3}
use Rattle.witnesses.specs.Blocks.{link_of, after_send, after_input, after_flush, after_reading}
use Rattle.witnesses.specs.OfStations.{bytes_by, c}

-- ---- the endpoints

unfoldable pub parts : Parts
parts = record { send_pool = replicate 3328 0; receive_pool = replicate 6656 0; table = replicate 128 blank; acks = replicate 512 0 }

unfoldable pub fresh : Endpoint
fresh = record { link = link_of (opened c); parts = parts }

-- the sender sends a message and flushes
unfoldable pub sent : Endpoint
sent = after_send fresh (sends fresh.link fresh.parts (104 ∷ 105 ∷ []))

unfoldable pub flushed : Endpoint
flushed = after_flush sent (flushes sent.link sent.parts (flush_parts_of (replicate output_least 0) (replicate lengths_least 0)) 7)

unfoldable pub datagram : List ℕ
datagram = 1 ∷ 0 ∷ 0 ∷ 0 ∷ 81 ∷ 0 ∷ 128 ∷ 0 ∷ 7 ∷ 0 ∷ 0 ∷ 0 ∷ 0 ∷ 0 ∷ 0 ∷ 0 ∷ 0 ∷ 0 ∷ 0 ∷ 0 ∷ 2 ∷ 0 ∷ 0 ∷ 0
    ∷ 104 ∷ 105 ∷ []

-- a receiver takes the datagram in and reads
unfoldable pub heard : Endpoint
heard = after_input fresh (takes_in fresh.link fresh.parts datagram)

unfoldable pub finished : Endpoint
finished = after_reading heard (reads heard.link heard.parts 10)

-- ---- the calls, with their answers

abbrev pub calls : List Call
calls = Call.send (104 ∷ 105 ∷ []) ∷ Call.flush 7 ∷ []

abbrev pub events : List Event
events = record { call = Call.send (104 ∷ 105 ∷ []); answer = Reply.accepted }
    ∷ record { call = Call.flush 7; answer = Reply.wrote (datagram ∷ []) } ∷ []

abbrev pub firsts : List Call
firsts = Call.read 10 ∷ []

abbrev pub heard₁ : List Event
heard₁ = record { call = Call.read 10; answer = Reply.refused NoMessage } ∷ []

abbrev pub seconds : List Call
seconds = Call.take_in datagram ∷ Call.read 10 ∷ []

abbrev pub heard₂ : List Event
heard₂ =
    record { call = Call.take_in datagram; answer = Reply.accepted }
    ∷ record { call = Call.read 10; answer = Reply.message (104 ∷ 105 ∷ []) }
    ∷ []

-- ---- each call keeps its promise

record Met : Type 0 where
  opens : Opens c fresh
  sends_it : Called fresh (Call.send (104 ∷ 105 ∷ [])) Reply.accepted sent
  flushes_it : Called sent (Call.flush 7) (Reply.wrote (datagram ∷ [])) flushed
  reads_nothing : Called fresh (Call.read 10) (Reply.refused NoMessage) fresh
  takes_it : Called fresh (Call.take_in datagram) Reply.accepted heard
  reads_it : Called heard (Call.read 10) (Reply.message (104 ∷ 105 ∷ [])) finished
  few : FewPushes c (datagrams_by events)
  fed : FedWith (datagrams_by events) seconds
  bytes : AllBytes datagram

met : Met
unfolding used_window slow_start raised widened avoidance limited grown after_datagram halved by_skips by_timeout at_least_one fits
    congestion.after_flush sent flushed fresh heard finished datagram parts opened opening entries_of counts_fit state_of pairs joining.joined
    block_valid scattered joined lengths_of cut_by sends_with takes_in_with flushes_with reads_with signed is_before is_after is_due front back encode
    decode bytes_of number_at verdict segment_of tail walk parse longer_wait next_clock next_smoothed next_variation least_timeout timeout_of sampled
    first_due growth longer_timeout is_skipped transmission select first_number_or skip_before advance starts_at insert is_held ascending enough
    enough_to_flush datagrams_by pushes_in push_numbers fragment_count segment_count pieces cut_as filled numbered numbered_count with_numbered
    transmitted written bytes_of_segments pack_one packed flushing acknowledged sampled_by heard_by_sending pushed heard_by_receiving
    all_by_sending all_by_receiving ack_numbers furthest skipped applied input joined_in message length_of message_size after_read reading place
    sending occurs lowest_from lowest_free numbers_fit waiting_fits settled sending_valid receiving_valid valid paired
met = record {
  opens = record {
    block = link_of (opened c);
    lent = parts;
    promise = record { answer = refl; number = refl; leaves = (record { counts = refl; state = refl }, refl) };
  };
  sends_it = record {
    gives = Ok tt;
    promise = record {
      answer = refl;
      number = refl;
      leaves = record { stands = record { counts = refl; state = refl }; send_pool = refl; receive_pool = refl; table = refl; acks = refl };
    };
    sees = refl;
  };
  flushes_it = record {
    lent = flush_parts_of (replicate output_least 0) (replicate lengths_least 0);
    room = record { long = omega arith; many = omega arith };
    gives = Ok 1;
    after = flush_parts_of (sets (replicate output_least 0) 0 datagram) (sets (replicate lengths_least 0) 0 (26 ∷ []));
    promise = record {
      answer = refl;
      number = refl;
      leaves = record {
        stands = record { counts = refl; state = refl };
        send_pool = refl;
        receive_pool = refl;
        table = refl;
        acks = refl;
        output = record { bytes = refl; sizes = refl; number = refl };
      };
    };
    sees = refl;
  };
  reads_nothing = record {
    buffer = replicate 10 0;
    long = refl;
    gives = Err NoMessage;
    buffer' = replicate 10 0;
    promise = record { answer = refl; number = refl; leaves = record { unchanged = record { link = refl; parts = refl }; bytes = refl } };
    sees = refl;
  };
  takes_it = record {
    gives = Ok tt;
    promise = record {
      answer = refl;
      number = refl;
      leaves = record {
        stands = record { counts = refl; state = refl };
        send_pool = refl;
        receive_pool = refl;
        table = refl;
        ack_length = refl;
        ack_rest = refl;
      };
    };
    sees = refl;
  };
  reads_it = record {
    buffer = replicate 10 0;
    long = refl;
    gives = Ok 2;
    buffer' = sets (replicate 10 0) 0 (104 ∷ 105 ∷ []);
    promise = record {
      answer = refl;
      number = refl;
      leaves = record { stands = record { counts = refl; state = refl }; parts = refl; bytes = refl };
    };
    sees = refl;
  };
  few = omega arith;
  fed = (Memᴰ.head refl, tt);
  bytes = bytes_by datagram refl;
}

pub opens_fresh : Opens c fresh
opens_fresh = met.opens

pub sends_it : Called fresh (Call.send (104 ∷ 105 ∷ [])) Reply.accepted sent
sends_it = met.sends_it

pub flushes_it : Called sent (Call.flush 7) (Reply.wrote (datagram ∷ [])) flushed
flushes_it = met.flushes_it

pub reads_nothing : Called fresh (Call.read 10) (Reply.refused NoMessage) fresh
reads_nothing = met.reads_nothing

-- ---- the three of them, since opening

sender_runs : SinceOpening c calls events flushed
sender_runs = record {
  first = fresh;
  opens = met.opens;
  runs = next fresh (Call.send (104 ∷ 105 ∷ [])) Reply.accepted sent met.sends_it
      (next sent (Call.flush 7) (Reply.wrote (datagram ∷ [])) flushed met.flushes_it start);
  conv = omega arith;
  fits = (bytes_by (104 ∷ 105 ∷ []) refl, (omega arith, tt));
}

first_runs : SinceOpening c firsts heard₁ fresh
first_runs = record {
  first = fresh;
  opens = met.opens;
  runs = next fresh (Call.read 10) (Reply.refused NoMessage) fresh met.reads_nothing start;
  conv = omega arith;
  fits = (tt, tt);
}

second_runs : SinceOpening c seconds heard₂ finished
second_runs = record {
  first = fresh;
  opens = met.opens;
  runs = next fresh (Call.take_in datagram) Reply.accepted heard met.takes_it
      (next heard (Call.read 10) (Reply.message (104 ∷ 105 ∷ [])) finished met.reads_it start);
  conv = omega arith;
  fits = (met.bytes, (tt, tt));
}

-- demand 3 says something of them
pub holds : Delivered c (accepted_list events) (observed firsts heard₁ fresh) (observed seconds heard₂ finished)
unfolding accepted_for
holds =
    demand_3 c calls firsts seconds events heard₁ heard₂ flushed fresh finished sender_runs first_runs second_runs met.few tt met.fed
    (HearsMore.takes_more (HearsMore.both_read HearsMore.start))
