-- The premises of request 2026-13 can be met by steps that keep the promises of the public calls: the sender's first datagram is lost, the
-- receiver reads 9, the sender's update at 300 sends the segment again, it arrives, the receiver flushes, and that arrives. Proved by
-- computing.
-- Assumes nothing.
use Rattle.std.specs.Prelude.{◌≡◌, refl, true, false, List, [], ◌∷◌, ℕ, replicate, Ok, Some}
use mathlib.Core.List.Memᴰ
use Rattle.std.proofs.Common.{arith}
use Rattle.std.proofs.lemmas.List.Edits.{sets}
use Rattle.protocol.specs.declared.Refusal.TheVariants.{NoMessage}
use Rattle.protocol.specs.Serial.{signed, is_before, is_after, is_due}
use Rattle.wire.specs.LittleEndian.{bytes_of, number_at}
use Rattle.wire.specs.Headers.{encode, front, back, decode}
use Rattle.datagram.specs.Datagrams.{parse, walk, tail, verdict, segment_of}
use Rattle.timing.specs.Probes.{longer_wait, next_clock}
use Rattle.timing.specs.RoundTrips.{next_smoothed, next_variation, least_timeout, timeout_of, sampled}
use Rattle.retransmission.specs.Transmissions.{first_due, growth, longer_timeout, is_skipped, transmission}
use Rattle.lists.specs.declared.Sent.{Sent}
use Rattle.lists.specs.Joining as joining
use Rattle.lists.specs.Orders.{insert, is_held, ascending}
use Rattle.lists.specs.Receiving.{advance, starts_at}
use Rattle.lists.specs.Acknowledging.{select, first_number_or, skip_before}
use Rattle.sizes.specs.Sizes.{enough, enough_to_flush}
use Rattle.schedule.specs.Schedules.{updated, is_astray, corrected, started, following}
use Rattle.congestion.specs.Congestions as congestion
use Rattle.congestion.specs.Congestions.{
  used_window,
  slow_start,
  raised,
  widened,
  avoidance,
  limited,
  grown,
  after_datagram,
  halved,
  by_skips,
  by_timeout,
  at_least_one,
  fits,
}
use Rattle.session.specs.State.{with_numbers, after_flushing, with_schedule}
use Rattle.session.specs.Slots.{occurs, lowest_from, lowest_free}
use Rattle.session.specs.Valid.{numbers_fit, waiting_fits, settled, sending_valid, receiving_valid, valid}
use Rattle.session.specs.Cutting.{fragment_count, segment_count, pieces, cut_as}
use Rattle.session.specs.Sending.{place, filled, sending}
use Rattle.session.specs.Flushing.{
  numbered,
  numbered_count,
  with_numbered,
  transmitted,
  written,
  bytes_of_segments,
  pack_one,
  packed,
  flushing,
}
use Rattle.session.specs.Input.{
  acknowledged,
  sampled_by,
  heard_by_sending,
  pushed,
  heard_by_receiving,
  all_by_sending,
  all_by_receiving,
  ack_numbers,
  furthest,
  skipped,
  applied,
  input,
}
use Rattle.session.specs.Updating.{updating}
use Rattle.session.specs.Opening.{opened}
use Rattle.session.specs.Calls.{Call, Reply}
use Rattle.words.specs.Words.{paired}
use Rattle.control.specs.Views.{pairs, state_of, counts_fit, block_valid}
use Rattle.records.specs.Tables.{blank, scattered}
use Rattle.packing.specs.Packers.{joined, lengths_of}
use Rattle.promises.specs.Parts.{flush_parts_of}
use Rattle.promises.specs.Outcomes.{sends_with, takes_in_with, flushes_with, updates_with, takes_in, flushes}
use Rattle.delivery.specs.PlainReceiver.{push_numbers, pushes_in}
use Rattle.demands.specs.Steps.{Endpoint, cut_by, Called, start, next}
use Rattle.demands.specs.Claims.{fragments_accepted}
use Rattle.demands.specs.Relations.{entries_of}
use Rattle.progress.specs.TwoEnds.{
  Move,
  at_a,
  at_b,
  events_of_a,
  events_of_b,
  MadeBy,
  HeardOnlyEachOther,
  FewSegments,
  ReadUntil9,
  GoesOut,
  FlushArrives,
  GoodRoundTrip,
  Passed,
}
use Rattle.progress.proofs.RoundTrip.{one_good_round_trip}
use Rattle.witnesses.specs.Blocks.{link_of, after_input, after_flush}
use Rattle.witnesses.specs.OfStations.{bytes_by, c}
use Rattle.witnesses.specs.OfEndpoints.{parts, fresh, sent, flushed, datagram, opens_fresh, sends_it, flushes_it, reads_nothing}

-- ---- the datagrams: the push again, and its acknowledgement

unfoldable pub again : List ℕ
again = 1 ∷ 0 ∷ 0 ∷ 0 ∷ 81 ∷ 0 ∷ 128 ∷ 0 ∷ 44 ∷ 1 ∷ 0 ∷ 0 ∷ 0 ∷ 0 ∷ 0 ∷ 0 ∷ 0 ∷ 0 ∷ 0 ∷ 0 ∷ 2 ∷ 0 ∷ 0 ∷ 0 ∷ 104
    ∷ 105 ∷ []

unfoldable pub acked : List ℕ
acked = 1 ∷ 0 ∷ 0 ∷ 0 ∷ 82 ∷ 0 ∷ 127 ∷ 0 ∷ 44 ∷ 1 ∷ 0 ∷ 0 ∷ 0 ∷ 0 ∷ 0 ∷ 0 ∷ 1 ∷ 0 ∷ 0 ∷ 0 ∷ 0 ∷ 0 ∷ 0 ∷ 0 ∷ []

-- ---- the endpoints

-- the sender after its update at 300: the segment was transmitted twice, is due at 700, and the next flush is at 400
abbrev segment : Sent
segment = record {
  held = record { slot = 0; len = 2; fragment = 0 };
  transmissions = 2;
  «record» = record { number = 0; due = 700; timeout = 400; skips = 0 };
}

unfoldable pub resent : Endpoint
resent =
    let s = opened c in
    record {
      link = link_of
          (with_schedule (after_flushing s (with_numbers s.sending 1 [] (segment ∷ [])) s.receiving s.probe 300
          (record { window = 1; threshold = 16; allowance = 26 }) false)
          (record { next = 400; made = true }));
      parts = record {
        send_pool = sets (replicate 3328 0) 0 (104 ∷ 105 ∷ []);
        receive_pool = replicate 6656 0;
        table = record { number = 0; due = 700; timeout = 400; skips = 0 } ∷ replicate 127 blank;
        acks = replicate 512 0;
      };
    }

-- the receiver hears it and flushes; the sender hears that
unfoldable pub heard : Endpoint
heard = after_input fresh (takes_in fresh.link fresh.parts again)

unfoldable pub replied : Endpoint
replied = after_flush heard (flushes heard.link heard.parts (flush_parts_of (replicate 50992 0) (replicate 290 0)) 9)

unfoldable pub done : Endpoint
done = after_input resent (takes_in resent.link resent.parts acked)

-- ---- each call keeps its promise

record Met : Type 0 where
  sends_again : Called flushed (Call.update 300) (Reply.wrote (again ∷ [])) resent
  takes_it : Called fresh (Call.take_in again) Reply.accepted heard
  replies : Called heard (Call.flush 9) (Reply.wrote (acked ∷ [])) replied
  takes_ack : Called resent (Call.take_in acked) Reply.accepted done
  out : GoesOut c flushed.link.flight.una (again ∷ [])
  una_before : flushed.link.flight.una ≡ 0
  una_after : done.link.flight.una ≡ 1

met : Met
unfolding used_window slow_start raised widened avoidance limited grown after_datagram halved by_skips by_timeout at_least_one fits
    congestion.after_flush again acked resent heard replied done sent flushed fresh datagram parts opened entries_of counts_fit state_of pairs
    joining.joined
    block_valid scattered joined lengths_of cut_by sends_with takes_in_with flushes_with updates_with updated is_astray corrected started following
    updating signed is_before is_after is_due front back encode decode bytes_of number_at verdict segment_of tail walk parse longer_wait
    next_clock next_smoothed next_variation least_timeout timeout_of sampled first_due growth longer_timeout is_skipped transmission select
    first_number_or skip_before advance starts_at insert is_held ascending enough enough_to_flush pushes_in push_numbers fragment_count segment_count
    pieces cut_as filled numbered numbered_count with_numbered transmitted written bytes_of_segments pack_one packed flushing acknowledged
    sampled_by heard_by_sending pushed heard_by_receiving all_by_sending all_by_receiving ack_numbers furthest skipped applied input place sending
    occurs lowest_from lowest_free numbers_fit waiting_fits settled sending_valid receiving_valid valid paired
met = record {
  sends_again = record {
    lent = flush_parts_of (replicate 50992 0) (replicate 290 0);
    room = record { long = omega arith; many = omega arith };
    gives = Ok (Some 1);
    after = flush_parts_of (sets (replicate 50992 0) 0 again) (sets (replicate 290 0) 0 (26 ∷ []));
    promise = record {
      answer = refl;
      number = refl;
      leaves = record {
        stands = record { counts = refl; state = refl };
        send_pool = refl;
        receive_pool = refl;
        table = refl;
        acks = refl;
        output = record { bytes = refl; sizes = refl; number = refl };
      };
    };
    sees = refl;
  };
  takes_it = record {
    gives = Ok tt;
    promise = record {
      answer = refl;
      number = refl;
      leaves = record {
        stands = record { counts = refl; state = refl };
        send_pool = refl;
        receive_pool = refl;
        table = refl;
        ack_length = refl;
        ack_rest = refl;
      };
    };
    sees = refl;
  };
  replies = record {
    lent = flush_parts_of (replicate 50992 0) (replicate 290 0);
    room = record { long = omega arith; many = omega arith };
    gives = Ok 1;
    after = flush_parts_of (sets (replicate 50992 0) 0 acked) (sets (replicate 290 0) 0 (24 ∷ []));
    promise = record {
      answer = refl;
      number = refl;
      leaves = record {
        stands = record { counts = refl; state = refl };
        send_pool = refl;
        receive_pool = refl;
        table = refl;
        acks = refl;
        output = record { bytes = refl; sizes = refl; number = refl };
      };
    };
    sees = refl;
  };
  takes_ack = record {
    gives = Ok tt;
    promise = record {
      answer = refl;
      number = refl;
      leaves = record {
        stands = record { counts = refl; state = refl };
        send_pool = refl;
        receive_pool = refl;
        table = refl;
        ack_length = refl;
        ack_rest = refl;
      };
    };
    sees = refl;
  };
  out = record { it = again; one_of = Memᴰ.head refl; has_it = refl };
  una_before = refl;
  una_after = refl;
}

-- ---- before the trip

abbrev moves : List Move
moves =
    at_a (Call.send (104 ∷ 105 ∷ [])) Reply.accepted
    ∷ at_a (Call.flush 7) (Reply.wrote (datagram ∷ []))
    ∷ at_b (Call.read 10) (Reply.refused NoMessage)
    ∷ []

of_a : MadeBy c (events_of_a moves) flushed
unfolding events_of_a
of_a = record {
  first = fresh;
  opens = opens_fresh;
  runs = next fresh (Call.send (104 ∷ 105 ∷ [])) Reply.accepted sent sends_it
      (next sent (Call.flush 7) (Reply.wrote (datagram ∷ [])) flushed flushes_it start);
  conv = omega arith;
  fits = (bytes_by (104 ∷ 105 ∷ []) refl, (omega arith, tt));
}

of_b : MadeBy c (events_of_b moves) fresh
unfolding events_of_b
of_b = record {
  first = fresh;
  opens = opens_fresh;
  runs = next fresh (Call.read 10) (Reply.refused NoMessage) fresh reads_nothing start;
  conv = omega arith;
  fits = (tt, tt);
}

few_a : FewSegments of_a
unfolding used_window slow_start raised widened avoidance limited grown after_datagram halved by_skips by_timeout at_least_one fits
    congestion.after_flush of_a fragments_accepted fragment_count segment_count filled state_of fresh opened
few_a = omega arith

few_b : FewSegments of_b
unfolding of_b fragments_accepted
few_b = omega arith

until_9 : ReadUntil9 (events_of_b moves)
unfolding events_of_b
until_9 = record { before = []; room = 10; since = []; are = refl; unheard = tt }

-- ---- the trip

there : FlushArrives flushed fresh resent heard
unfolding again
there = record {
  call = Call.update 300;
  writes = again ∷ [];
  flushes = met.sends_again;
  arrivals = again ∷ [];
  all_arrive = record { all = (Memᴰ.head refl, tt); only = (Memᴰ.head refl, tt) };
  events = record { call = Call.take_in again; answer = Reply.accepted } ∷ [];
  hears = next fresh (Call.take_in again) Reply.accepted heard met.takes_it start;
  fits = (omega arith, (bytes_by again refl, tt));
}

back_again : FlushArrives heard resent replied done
unfolding acked
back_again = record {
  call = Call.flush 9;
  writes = acked ∷ [];
  flushes = met.replies;
  arrivals = acked ∷ [];
  all_arrive = record { all = (Memᴰ.head refl, tt); only = (Memᴰ.head refl, tt) };
  events = record { call = Call.take_in acked; answer = Reply.accepted } ∷ [];
  hears = next resent (Call.take_in acked) Reply.accepted done met.takes_ack start;
  fits = (omega arith, (bytes_by acked refl, tt));
}

trip : GoodRoundTrip c flushed fresh done
unfolding there
trip = record { a' = resent; b' = heard; b'' = replied; there = there; back = back_again; goes_out = met.out }

heard_only : HeardOnlyEachOther moves
heard_only = (tt, (tt, (tt, tt)))

-- the theorem says something of them: snd_una was 0, and is 1
pub holds : Passed flushed.link.flight.una done.link.flight.una
holds = one_good_round_trip c moves flushed fresh done of_a of_b heard_only few_a few_b until_9 trip
