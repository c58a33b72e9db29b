-- The ledger of document 01: used send slots equal the fragments accepted less the segments acknowledged, over any calls since
-- opening. Acknowledged means: outstanding when an arriving ack named its number or an arriving una came after it and not after
-- snd_nxt (`acknowledges`). Definitions.
-- Assumes nothing.
use Rattle.std.specs.Prelude.{◌≡◌, List, [], ◌∷◌, ℕ, ◌+◌, length}
use Rattle.protocol.specs.Protocol.{send_slots}
use Rattle.protocol.specs.Ranges.{mss, is_stream}
use Rattle.protocol.specs.declared.Settings.{Settings}
use Rattle.datagram.specs.Datagrams.{Segment, Parsed, parse}
use Rattle.lists.specs.Acknowledging.{filter}
use Rattle.session.specs.Slots.{used_below}
use Rattle.session.specs.State.{State, Sending, send_held, slots}
use Rattle.session.specs.Cutting.{segment_count}
use Rattle.session.specs.Sending.{filled}
use Rattle.session.specs.Input.{acknowledges, heard_by_sending}
use Rattle.session.specs.Calls.{Station, Call, Reply, step}

-- ---- used send slots

-- the send slots that an outstanding or a queued segment holds
unfoldable pub used_slots : Sending → ℕ
used_slots s = used_below send_slots (slots (send_held s))

-- ---- fragments accepted

-- the new segments of a send that is not refused: a message's fragments; in stream mode those of what is left after filling
abbrev pub fragments_by : Station → Call → Reply → ℕ
fragments_by s (Call.send m) Reply.accepted =
    let c = s.state.settings in
    let left = (filled (is_stream c) (mss c) s.state.sending.queued s.send_pool m).rest in
    segment_count (is_stream c) (mss c) (length left)
fragments_by s (Call.send m) (Reply.refused r) = 0
fragments_by s (Call.send m) (Reply.wrote ds) = 0
fragments_by s (Call.send m) (Reply.message b) = 0
fragments_by s (Call.send m) Reply.waited = 0
fragments_by s (Call.send m) (Reply.named t) = 0
fragments_by s (Call.take_in d) a = 0
fragments_by s (Call.flush t) a = 0
fragments_by s (Call.update t) a = 0
fragments_by s (Call.check t) a = 0
fragments_by s (Call.read room) a = 0

-- by these calls: each gets the station as the last one left it
unfoldable pub station_accepted : Station → List Call → ℕ
station_accepted s [] = 0
station_accepted s (x ∷ xs) = fragments_by s x (step s x).answer + station_accepted (step s x).station xs

-- ---- segments acknowledged

-- by the segments of a datagram in turn: those that are outstanding when each arrives
unfoldable pub acknowledged_by_each : Settings → ℕ → Sending → List Segment → ℕ
acknowledged_by_each c current s [] = 0
acknowledged_by_each c current s (g ∷ gs) =
    length (filter (acknowledges s.next g.header) s.outstanding)
    + acknowledged_by_each c current (heard_by_sending c current s g.header) gs

abbrev pub acknowledged_by_parsed : State → Parsed → ℕ
acknowledged_by_parsed s (Parsed.refused r) = 0
acknowledged_by_parsed s (Parsed.segments gs) = acknowledged_by_each s.settings s.current s.sending gs

-- by a call with this answer: a datagram that is not refused
abbrev pub acknowledged_by : Station → Call → Reply → ℕ
acknowledged_by s (Call.take_in d) Reply.accepted =
    acknowledged_by_parsed s.state (parse s.state.settings.conv (mss s.state.settings) d)
acknowledged_by s (Call.take_in d) (Reply.refused r) = 0
acknowledged_by s (Call.take_in d) (Reply.wrote ds) = 0
acknowledged_by s (Call.take_in d) (Reply.message b) = 0
acknowledged_by s (Call.take_in d) Reply.waited = 0
acknowledged_by s (Call.take_in d) (Reply.named t) = 0
acknowledged_by s (Call.send m) a = 0
acknowledged_by s (Call.flush t) a = 0
acknowledged_by s (Call.update t) a = 0
acknowledged_by s (Call.check t) a = 0
acknowledged_by s (Call.read room) a = 0

-- by these calls: each gets the station as the last one left it
unfoldable pub station_acknowledged : Station → List Call → ℕ
station_acknowledged s [] = 0
station_acknowledged s (x ∷ xs) = acknowledged_by s x (step s x).answer + station_acknowledged (step s x).station xs

-- ---- the ledger

-- used send slots and the segments acknowledged are the fragments accepted: a sum, so that neither can exceed them
abbrev pub Ledger : Sending → ℕ → ℕ → Type 0
Ledger s accepted acknowledged = used_slots s + acknowledged ≡ accepted
