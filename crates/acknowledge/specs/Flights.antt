-- The segments in flight, in lent arrays; and what hearing a datagram leaves of them: the same as the
-- definition on the half, whatever is queued. Definitions.
-- Assumes nothing.
use Rattle.std.specs.Prelude.{◌≡◌, List, ℕ, ◌≤◌, length}
use Rattle.protocol.specs.Ranges.{mss}
use Rattle.protocol.specs.declared.Settings.{Settings}
use Rattle.timing.specs.declared.Record.{Record}
use Rattle.datagram.specs.Datagrams.{Segment, parse, segments}
use Rattle.lists.specs.Joining.{joined}
use Rattle.lists.specs.declared.Sent.{Sent}
use Rattle.session.specs.State.{Sending}
use Rattle.session.specs.Input.{all_by_sending, ack_numbers, skipped_by_all}
use Rattle.session.specs.SendOrder.{Numbers}
use Rattle.words.specs.Words.{outstanding_in}
use Rattle.control.specs.Views.{sending_of}
use Rattle.control.specs.declared.Flight.{Flight}

-- the numbers of the sending half, the arrays of words and transmissions of its outstanding segments, and their records
pub record View : Type 0 where
  pub flight : Flight
  pub words : List ℕ
  pub transmissions : List ℕ
  pub records : List Record

abbrev pub view : Flight → List ℕ → List ℕ → List Record → View
view f words transmissions records = record { flight = f; words = words; transmissions = transmissions; records = records }

-- the outstanding segments
abbrev pub sent_in : View → List Sent
sent_in v = joined (outstanding_in v.words v.transmissions v.flight.outstanding) v.records

-- the half, with these words queued
abbrev pub half_with : List ℕ → View → Sending
half_with queued v = sending_of v.flight queued v.words v.transmissions v.records

-- in arrays of 32 the first n segments, with the records at their index, are l
pub record JoinedIn (words transmissions : List ℕ) (n : ℕ) (records : List Record) (l : List Sent) : Type 0 where
  pub whole : length words ≡ 32
  pub wholes : length transmissions ≡ 32
  pub fits : n ≤ 32
  pub list : joined (outstanding_in words transmissions n) records ≡ l

-- what a valid block has: arrays of 32, and numbers that ascend from snd_una, which is the first of them, up to snd_nxt
pub record InOrder (v : View) : Type 0 where
  pub whole : length v.words ≡ 32
  pub wholes : length v.transmissions ≡ 32
  pub fits : v.flight.outstanding ≤ 32
  pub numbers : Numbers v.flight.una v.flight.next (sent_in v)

-- v' is what the change makes of v, whatever is queued
pub record FlightIs (v' v : View) (change : Sending → Sending) : Type 0 where
  pub whole : length v'.words ≡ 32
  pub wholes : length v'.transmissions ≡ 32
  pub fits : v'.flight.outstanding ≤ 32
  pub queue : v'.flight.queued ≡ v.flight.queued
  pub half : (queued : List ℕ) → half_with queued v' ≡ change (half_with queued v)

-- v' is what the segments of the datagram s, and the skips after them, make of v
abbrev pub HearsAll : Settings → ℕ → List ℕ → View → View → Type 0
HearsAll c current s v v' =
    (gs : List Segment) → parse c.conv (mss c) s ≡ segments gs
    → FlightIs v' v (λ x. skipped_by_all (all_by_sending c current x gs) (ack_numbers gs))
