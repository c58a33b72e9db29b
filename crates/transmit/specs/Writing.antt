-- What a flush writes, of a state's parts: the segments that it packs, and what is left of the outstanding ones. Definitions.
-- Assumes nothing.
use Rattle.std.specs.Prelude.{◌≡◌, Bool, List, ◌++◌, map, ℕ, ◌+◌, ◌*◌, ◌≤◌, ◌<◌, length}
use Rattle.protocol.specs.Protocol.{window_ask, window_tell, send_slots}
use Rattle.protocol.specs.Ranges.{mss}
use Rattle.timing.specs.declared.Record.{Record}
use Rattle.retransmission.specs.Transmissions.{is_sent, is_late, is_fast}
use Rattle.retransmission.specs.declared.Transmission.{Transmission}
use Rattle.lists.specs.declared.Held.{Held}
use Rattle.lists.specs.declared.Sent.{Sent}
use Rattle.datagram.specs.Datagrams.{Segment}
use Rattle.session.specs.State.{Ack}
use Rattle.session.specs.Decides.{All}
use Rattle.session.specs.Flushing.{
  Ruled,
  ruling,
  ruled,
  afterwards,
  transmitted,
  some,
  some_dead,
  control,
  ack_segment,
  data_segment,
  wished,
  packed,
}
use Rattle.packing.specs.declared.Writer.{Writer}
use Rattle.packing.specs.Packers.{carried_of, Output, bytes_of_datagrams}
use Rattle.packing.specs.Writers.{AddsTo}
use Rattle.words.specs.Words.{unpack}
use Rattle.numbering.specs.Sents.{sent_in, SentFront}
use Rattle.transmit.specs.declared.Flush.{Flush}
use Rattle.transmit.specs.declared.Told.{Told}
use Rattle.transmit.specs.declared.Written.{Written}

-- ---- the outstanding segments

-- what the flush does with one of them, and with each
abbrev pub rule_of : Flush → Sent → Ruled
rule_of f = ruling f.settings f.timeout f.t

abbrev pub rules_of : Flush → List Sent → List Ruled
rules_of f = ruled f.settings f.timeout f.t

-- all of them afterwards
abbrev pub left_by : Flush → List Sent → List Sent
left_by f l = afterwards (rules_of f l)

-- those that are sent, as they are then
abbrev pub sent_by : Flush → List Sent → List Sent
sent_by f l = transmitted (rules_of f l)

-- one is sent because it was due, or because it was skipped
abbrev pub late_by : Flush → List Sent → Bool
late_by f l = some (λ (r : Ruled). is_late r.rule) (rules_of f l)

abbrev pub fast_by : Flush → List Sent → Bool
fast_by f l = some (λ (r : Ruled). is_fast r.rule) (rules_of f l)

-- one is sent
abbrev pub sends_by : Flush → List Sent → Bool
sends_by f l = some (λ (r : Ruled). is_sent r.rule) (rules_of f l)

-- one of them as a data segment
abbrev pub data_of : Flush → List ℕ → Sent → Segment
data_of f pool = data_segment (carried_of f.carried) (mss f.settings) f.t pool

-- a held segment's length is at most mss, and its slot is one of the send pool
pub record InSlot (m : ℕ) (h : Held) : Type 0 where
  pub len : h.len ≤ m
  pub slot : h.slot < send_slots

abbrev pub AllInSlots : ℕ → List Sent → Type 0
AllInSlots m = All (λ (x : Sent). InSlot m x.held)

-- the segment of this word as its rule leaves it
abbrev pub sent_as : ℕ → Transmission → Sent
sent_as word x = record { held = unpack word; transmissions = x.transmissions; «record» = x.updated }

-- what the checks of a flush have established of n outstanding segments: there are at most 32, each in its slot, and the send pool has 128
-- slots
pub record Sendable (f : Flush) (words transmissions : List ℕ) (records : List Record) (n : ℕ) (pool : List ℕ) : Type 0 where
  pub mtu : 24 ≤ f.settings.mtu
  pub whole : length words ≡ 32
  pub wholes : length transmissions ≡ 32
  pub whole_records : length records ≡ 32
  pub count : n ≤ 32
  pub inside : AllInSlots (mss f.settings) (sent_in words transmissions records n)
  pub slots : 128 * mss f.settings ≤ length pool

-- a writer with the limit of the flush's settings, and what its segments carry
pub record WritesFor (f : Flush) (w : Writer) : Type 0 where
  pub mtu : w.mtu ≡ f.settings.mtu
  pub carried : w.carried ≡ f.carried

-- all n segments of l are handled: those sent are put as data, each is as its rule leaves it, and it is told whether one was sent, and
-- whether one sent was transmitted 20 times, due or skipped
pub record Walks (f : Flush) (l : List Sent) (words : List ℕ) (n : ℕ) (pool : List ℕ) (w : Writer) (r : Told)
    (transmissions' : List ℕ) (records' : List Record) (w' : Writer) : Type 0 where
  pub adds : AddsTo (map (data_of f pool) (sent_by f l)) (32 * f.settings.mtu) 32 w w'
  pub sent : SentFront words transmissions' records' n (left_by f l)
  pub dead : r.dead ≡ some_dead (sent_by f l)
  pub late : r.late ≡ late_by f l
  pub fast : r.fast ≡ fast_by f l
  pub sends : r.sent ≡ sends_by f l

-- ---- all that is written

-- all acks in order, then a window ask and a window tell if wanted (sn and ts 0), then data
abbrev pub segments_of : Flush → List Ack → Bool → Bool → List ℕ → List Sent → List Segment
segments_of f acks ask tell pool sent =
    map (ack_segment (carried_of f.carried)) acks
    ++ (wished ask (control (carried_of f.carried) window_ask 0 0)
    ++ (wished tell (control (carried_of f.carried) window_tell 0 0)
    ++ map (data_of f pool) sent))

-- what the checks of a flush have established besides: at most 256 acks, within the ack list; room for 258 headers and 32 whole datagrams,
-- and for 290 lengths
pub record Writable (f : Flush) (noted : ℕ) (acks words transmissions : List ℕ) (records : List Record) (n : ℕ)
    (pool out lengths : List ℕ) : Type 0 where
  pub sendable : Sendable f words transmissions records n pool
  pub few : noted ≤ 256
  pub pairs : 2 * noted ≤ length acks
  pub bytes : 258 * 24 + 32 * f.settings.mtu ≤ length out
  pub sizes : 290 ≤ length lengths

-- what a flush writes: the output has its datagrams, each outstanding segment of l is as its rule leaves it, and it is told whether one
-- was sent, and whether one sent was transmitted 20 times, due or skipped
pub record Writes (f : Flush) (acks : List Ack) (ask tell : Bool) (l : List Sent) (words : List ℕ) (n : ℕ) (pool out lengths : List ℕ)
    (r : Written) (transmissions' : List ℕ) (records' : List Record) (out' lengths' : List ℕ) : Type 0 where
  pub output : Output (bytes_of_datagrams (packed f.settings.mtu (segments_of f acks ask tell pool (sent_by f l)))) out lengths r.count
      out' lengths'
  pub sent : SentFront words transmissions' records' n (left_by f l)
  pub dead : r.told.dead ≡ some_dead (sent_by f l)
  pub late : r.told.late ≡ late_by f l
  pub fast : r.told.fast ≡ fast_by f l
  pub sends : r.told.sent ≡ sends_by f l
