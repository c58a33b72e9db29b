-- The premises of the quiet theorem can be met by steps that keep the promises of the public calls: a sender whose first update, at 7,
-- flushes; a check at 8 that names 107; updates at 106 and then at 20, a clock that goes back, which both wait. Proved by computing.
-- Assumes nothing.
use Rattle.std.specs.Prelude.{refl, [], ◌∷◌, ℕ, replicate, None, Ok, Some}
use Rattle.std.proofs.Common.{arith}
use Rattle.std.proofs.lemmas.List.Edits.{sets}
use Rattle.protocol.specs.Protocol.{output_least, lengths_least}
use Rattle.protocol.specs.Serial.{signed, is_before, is_after, is_due}
use Rattle.wire.specs.LittleEndian.{bytes_of}
use Rattle.wire.specs.Headers.{encode, front, back}
use Rattle.timing.specs.Probes.{longer_wait, next_clock}
use Rattle.timing.specs.RoundTrips.{least_timeout}
use Rattle.retransmission.specs.Transmissions.{first_due, growth, longer_timeout, is_skipped, transmission}
use Rattle.lists.specs.Joining as joining
use Rattle.lists.specs.Orders.{ascending}
use Rattle.lists.specs.Receiving.{starts_at}
use Rattle.lists.specs.Acknowledging.{first_number_or}
use Rattle.sizes.specs.Sizes.{enough, enough_to_flush}
use Rattle.schedule.specs.Schedules as scheduling
use Rattle.schedule.specs.Schedules.{is_astray, corrected, started, following, ahead, earliest, named}
use Rattle.congestion.specs.Congestions as congestion
use Rattle.congestion.specs.Congestions.{
  used_window,
  slow_start,
  raised,
  widened,
  avoidance,
  limited,
  grown,
  after_datagram,
  halved,
  by_skips,
  by_timeout,
  at_least_one,
  fits,
}
use Rattle.session.specs.Slots.{occurs, lowest_from, lowest_free}
use Rattle.session.specs.Valid.{numbers_fit, waiting_fits, settled, sending_valid, receiving_valid, valid}
use Rattle.session.specs.Cutting.{fragment_count, segment_count, pieces, cut_as}
use Rattle.session.specs.Sending.{place, filled, sending}
use Rattle.session.specs.Flushing.{
  numbered,
  numbered_count,
  with_numbered,
  transmitted,
  written,
  bytes_of_segments,
  pack_one,
  packed,
  flushing,
}
use Rattle.session.specs.Updating.{updating, checking}
use Rattle.session.specs.Opening.{opened, opening}
use Rattle.session.specs.Calls.{Call, Reply}
use Rattle.words.specs.Words.{paired}
use Rattle.control.specs.Views.{pairs, state_of, counts_fit, block_valid}
use Rattle.records.specs.Tables.{blank, scattered}
use Rattle.packing.specs.Packers.{joined, lengths_of}
use Rattle.promises.specs.Parts.{FlushParts, flush_parts_of}
use Rattle.promises.specs.Outcomes.{sends_with, updates_with, checks_with}
use Rattle.promises.specs.Promises.{UpdatePromise, CheckPromise}
use Rattle.demands.specs.Steps.{Endpoint, cut_by, Called, start, next, SinceOpening}
use Rattle.demands.specs.Quiet as quiet
use Rattle.demands.specs.Quiet.{StaysQuiet, NoSooner}
use Rattle.demands.proofs.QuietLaws.{stays_quiet, no_sooner, fits_since}
use Rattle.witnesses.specs.OfStations.{bytes_by, c}
use Rattle.witnesses.specs.OfEndpoints.{parts, fresh, sent, datagram, opens_fresh, sends_it}

-- ---- the endpoints

-- after an update at `current`: the segment is outstanding, due at 232, and the next flush is at 107
abbrev at : ℕ → Endpoint
at current =
    record {
      link = record {
        settings = c;
        flight = record {
          una = 0;
          next = 1;
          rtt = record { smoothed = 0; variation = 0; timeout = 200 };
          window = 128;
          congestion = record { window = 1; threshold = 2; allowance = 26 };
          queued = 0;
          outstanding = 1;
        };
        arrival = record { expected = 0; tell = 0; ready = 0; waiting = 0; acks = 0 };
        clock = record { probe = record { wait = 0; due = 0 }; current = current; next_flush = 107; ask = 0; dead = 0; updated = 1 };
        queued = [];
        outstanding = 131072 ∷ [];
        transmissions = 1 ∷ [];
        ready = [];
        waiting = [];
        waiting_numbers = [];
      };
      parts = record {
        send_pool = sets (replicate 3328 0) 0 (104 ∷ 105 ∷ []);
        receive_pool = replicate 6656 0;
        table = record { number = 0; due = 232; timeout = 200; skips = 0 } ∷ replicate 127 blank;
        acks = replicate 512 0;
      };
    }

unfoldable pub updated : Endpoint
updated = at 7

unfoldable pub rested : Endpoint
rested = at 106

unfoldable pub rested_again : Endpoint
rested_again = at 20

abbrev blank_parts : FlushParts
blank_parts = flush_parts_of (replicate output_least 0) (replicate lengths_least 0)

-- ---- each call keeps its promise

pub updates_it : Called sent (Call.update 7) (Reply.wrote (datagram ∷ [])) updated
unfolding used_window slow_start raised widened avoidance limited grown after_datagram halved by_skips by_timeout at_least_one fits
    congestion.after_flush sent fresh updated datagram parts opened opening counts_fit state_of pairs joining.joined block_valid scattered
    joined lengths_of cut_by sends_with updates_with checks_with scheduling.updated corrected started following is_astray ahead earliest named
    updating checking signed is_before is_after is_due front back encode bytes_of longer_wait next_clock least_timeout first_due growth
    longer_timeout is_skipped transmission first_number_or starts_at ascending enough enough_to_flush fragment_count segment_count pieces cut_as
    filled numbered numbered_count with_numbered transmitted written bytes_of_segments pack_one packed flushing place sending occurs
    lowest_from lowest_free numbers_fit waiting_fits settled sending_valid receiving_valid valid paired
updates_it = record {
  lent = blank_parts;
  room = record { long = omega arith; many = omega arith };
  gives = Ok (Some 1);
  after = flush_parts_of (sets blank_parts.output 0 datagram) (sets blank_parts.lengths 0 (26 ∷ []));
  promise = record {
    answer = refl;
    number = refl;
    leaves = record {
      stands = record { counts = refl; state = refl };
      send_pool = refl;
      receive_pool = refl;
      table = refl;
      acks = refl;
      output = record { bytes = refl; sizes = refl; number = refl };
    };
  };
  sees = refl;
}

pub checks_it : CheckPromise 8 updated.link updated.parts (Ok 107)
unfolding used_window slow_start raised widened avoidance limited grown after_datagram halved by_skips by_timeout at_least_one fits
    congestion.after_flush updated rested rested_again counts_fit state_of pairs joining.joined block_valid updates_with checks_with
    scheduling.updated corrected started following is_astray ahead earliest named updating checking signed is_before is_after is_due
    least_timeout first_number_or starts_at ascending enough enough_to_flush occurs numbers_fit waiting_fits settled sending_valid receiving_valid
    valid paired
checks_it = record { answer = refl; number = refl }

pub waits : UpdatePromise 106 updated.link updated.parts blank_parts (Ok None) rested.link rested.parts blank_parts
unfolding used_window slow_start raised widened avoidance limited grown after_datagram halved by_skips by_timeout at_least_one fits
    congestion.after_flush updated rested rested_again counts_fit state_of pairs joining.joined block_valid updates_with checks_with
    scheduling.updated corrected started following is_astray ahead earliest named updating checking signed is_before is_after is_due
    least_timeout first_number_or starts_at ascending enough enough_to_flush occurs numbers_fit waiting_fits settled sending_valid receiving_valid
    valid paired
waits =
    record {
      answer = refl;
      number = refl;
      leaves = record { stands = record { counts = refl; state = refl }; parts = refl; flush_parts = refl };
    }

pub waits_again : UpdatePromise 20 rested.link rested.parts blank_parts (Ok None)
    rested_again.link rested_again.parts blank_parts
unfolding used_window slow_start raised widened avoidance limited grown after_datagram halved by_skips by_timeout at_least_one fits
    congestion.after_flush updated rested rested_again counts_fit state_of pairs joining.joined block_valid updates_with checks_with
    scheduling.updated corrected started following is_astray ahead earliest named updating checking signed is_before is_after is_due
    least_timeout first_number_or starts_at ascending enough enough_to_flush occurs numbers_fit waiting_fits settled sending_valid receiving_valid
    valid paired
waits_again =
    record {
      answer = refl;
      number = refl;
      leaves = record { stands = record { counts = refl; state = refl }; parts = refl; flush_parts = refl };
    }

-- ---- since opening

sender_runs : SinceOpening c (Call.send (104 ∷ 105 ∷ []) ∷ Call.update 7 ∷ [])
    (record { call = Call.send (104 ∷ 105 ∷ []); answer = Reply.accepted }
    ∷ record { call = Call.update 7; answer = Reply.wrote (datagram ∷ []) }
    ∷ []) updated
sender_runs = record {
  first = fresh;
  opens = opens_fresh;
  runs = next fresh (Call.send (104 ∷ 105 ∷ [])) Reply.accepted sent sends_it
      (next sent (Call.update 7) (Reply.wrote (datagram ∷ [])) updated updates_it start);
  conv = omega arith;
  fits = (bytes_by (104 ∷ 105 ∷ []) refl, (omega arith, tt));
}

-- the theorem says something of them
pub holds : StaysQuiet 8 107 updated ((Ok None) ∷ (Ok None) ∷ []) rested_again
holds =
    stays_quiet updated 8 107 (fits_since sender_runs) (omega arith) checks_it (106 ∷ 20 ∷ [])
    ((Ok None) ∷ (Ok None) ∷ []) rested_again
    (record { fits = omega arith; before = omega arith }, (record { fits = omega arith; before = omega arith }, tt))
    (quiet.next updated 106 (Ok None) rested blank_parts blank_parts waits
    (quiet.next rested 20 (Ok None) rested_again blank_parts blank_parts waits_again quiet.start))

-- and the named time is less than an interval away, so it is wanted
pub wanted : NoSooner 8 107 updated
wanted = no_sooner updated 8 107 (fits_since sender_runs) (omega arith) checks_it
