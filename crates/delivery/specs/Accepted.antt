-- What a sender has numbered, by what it wrote, and demand 3's accepted list in both modes. Definitions.
-- Assumes nothing.
use Rattle.std.specs.Prelude.{Bool, cond, ◌&&◌, List, [], ◌∷◌, ◌++◌, ℕ, ◌%◌, ◌^◌, eqb, length}
use Rattle.protocol.specs.Protocol.{push}
use Rattle.protocol.specs.Ranges.{mss, is_stream}
use Rattle.protocol.specs.declared.Settings.{Settings}
use Rattle.datagram.specs.Datagrams.{Segment, Parsed, parse}
use Rattle.session.specs.Calls.{Event, accepted_list, datagrams_by}

-- A segment is written in the flush that numbers it, so a push whose number is the next one (modulo 2^32) is a segment as finally
-- numbered: its payload comes behind those numbered before. Every other push is a repeat.
abbrev pub is_next : List (List ℕ) → Segment → Bool
is_next l g = eqb g.header.cmd push && eqb g.header.sn (length l % 2 ^ 32)

abbrev pub with_push : List (List ℕ) → Segment → List (List ℕ)
with_push l g = cond (is_next l g) (l ++ (g.payload ∷ [])) l

unfoldable pub numbered_in : List (List ℕ) → List Segment → List (List ℕ)
numbered_in l [] = l
numbered_in l (g ∷ gs) = numbered_in (with_push l g) gs

abbrev pub numbered_in_parsed : List (List ℕ) → Parsed → List (List ℕ)
numbered_in_parsed l (Parsed.refused r) = l
numbered_in_parsed l (Parsed.segments gs) = numbered_in l gs

-- datagram by datagram
unfoldable pub numbered_in_all : Settings → List (List ℕ) → List (List ℕ) → List (List ℕ)
numbered_in_all c l [] = l
numbered_in_all c l (d ∷ ds) = numbered_in_all c (numbered_in_parsed l (parse c.conv (mss c) d)) ds

-- the payloads numbered since opening, in order
unfoldable pub numbered_by : Settings → List Event → List (List ℕ)
numbered_by c events = numbered_in_all c [] (datagrams_by events)

-- demand 3's accepted list: the messages accepted; in stream mode each segment as finally numbered is taken for a message
unfoldable pub accepted_for : Settings → List Event → List (List ℕ)
accepted_for c events = cond (is_stream c) (numbered_by c events) (accepted_list events)
