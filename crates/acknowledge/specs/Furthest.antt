-- The furthest ack number of a datagram, found segment by segment. Definitions.
-- Assumes nothing.
use Rattle.std.specs.Prelude.{cond, List, [], ◌∷◌, ℕ, eqb, Option, None, Some}
use Rattle.protocol.specs.Protocol.{ack}
use Rattle.protocol.specs.Serial.{is_after}
use Rattle.wire.specs.declared.Header.{Header}
use Rattle.datagram.specs.Datagrams.{Segment}
use Rattle.session.specs.State.{Sending}
use Rattle.session.specs.Input.{skipped}

-- no ack has come
abbrev pub none_yet : Option ℕ
none_yet = None

-- one more ack: the first number, replaced by each later one that is after it
unfoldable pub further : Option ℕ → ℕ → Option ℕ
further None sn = Some sn
further (Some n) sn = Some (cond (is_after sn n) sn n)

-- one more segment
unfoldable pub further_by : Option ℕ → Header → Option ℕ
further_by f h = cond (eqb h.cmd ack) (further f h.sn) f

-- the segments of a datagram
unfoldable pub further_by_all : Option ℕ → List Segment → Option ℕ
further_by_all f [] = f
further_by_all f (g ∷ gs) = further_by_all (further_by f g.header) gs

-- the skips after the datagram, if acks came
unfoldable pub skipped_by : Option ℕ → Sending → Sending
skipped_by None s = s
skipped_by (Some n) s = skipped s n
