-- REQUEST 2026-13: one good round trip is enough. It is stated of what callers hold and see, from the promises of the public calls alone.
--
-- Two ends A and B, opened alike, with equal settings `c`, each lent and changed as demand 3 says (`MadeBy`: an accepted opening, then
-- these calls with these answers, each getting block and parts as the last one left them), have heard only each other's datagrams: the
-- calls of both stand in one list of moves, in the order in which they happen, and what an end takes in the other one had written before
-- (`HeardOnlyEachOther`), lost, late, repeated or shuffled as it may be. Fewer than 2^30 segments each (`FewSegments`: those that the
-- accepted sends made). The receiver B has read until 9 and heard nothing since (`ReadUntil9`). The sender's lowest outstanding segment,
-- numbered snd_una, goes out in a flush or an update that flushes; that flush's datagrams all arrive, the receiver flushes, and all those
-- arrive, with no other call of either end from the first flush to the last arrival (`GoodRoundTrip`).
-- Then snd_una has passed that segment (`Passed`), for any losses before.
--
-- `c` is any settings that an opening takes: both modes of cutting. Windows, timers and the peer's window are not spoken of: what a flush
-- numbers and transmits is as the public calls promise it.
-- Assumes nothing.
use Rattle.std.specs.Prelude.{List}
use Rattle.protocol.specs.declared.Settings.{Settings}
use Rattle.session.specs.Calls.{datagrams_by}
use Rattle.demands.specs.Steps.{Endpoint}
use Rattle.demands.proofs.RunLaws.{taken}
use Rattle.progress.specs.TwoEnds.{
  Move,
  events_of_a,
  events_of_b,
  MadeBy,
  HeardOnlyEachOther,
  FewSegments,
  ReadUntil9,
  GoodRoundTrip,
  Passed,
}
use Rattle.progress.specs.Counting.{few_both, writes_few, fed_made, since_made}
use Rattle.progress.proofs.Moves.{passed_by_pushes}

pub one_good_round_trip : (c : Settings) (moves : List Move) (a b a'' : Endpoint)
    → (of_a : MadeBy c (events_of_a moves) a) → (of_b : MadeBy c (events_of_b moves) b)
    → HeardOnlyEachOther moves
    → FewSegments of_a → FewSegments of_b
    → ReadUntil9 (events_of_b moves)
    → GoodRoundTrip c a b a''
    → Passed a.link.flight.una a''.link.flight.una
one_good_round_trip c moves a b a'' of_a of_b heard few_a few_b read trip =
    let f = trip.there in
    let g = trip.back in
    let made-a = since_made c (events_of_a moves) a of_a few_a in
    let made-b = since_made c (events_of_b moves) b of_b few_b in
    let made-b' =
    fed_made c (taken of_b).range of_b.conv f.arrivals _ b trip.b' f.events f.hears f.fits.1 made-b.made in
    passed_by_pushes c moves a b a'' of_a of_b heard read trip
    (few_both c (datagrams_by (events_of_a moves)) f.writes made-a.few
    (writes_few c (taken of_a).range of_a.conv _ a trip.a' f.call f.writes f.fits.0 f.flushes made-a.made))
    (few_both c (datagrams_by (events_of_b moves)) g.writes made-b.few
    (writes_few c (taken of_b).range of_b.conv _ trip.b' trip.b'' g.call g.writes g.fits.0 g.flushes made-b'))
