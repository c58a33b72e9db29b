-- What an accepted datagram does to both halves, whatever the block: numbers that are acknowledged, and pushes that are new. Definitions.
-- Assumes nothing.
use Rattle.std.specs.Prelude.{Bool, cond, ◌&&◌, List, [], ◌∷◌, map, ℕ, ◌+◌, eqb, length}
use Rattle.protocol.specs.Protocol.{push}
use Rattle.datagram.specs.Datagrams.{Segment}
use Rattle.lists.specs.declared.Sent.{Sent}
use Rattle.session.specs.State.{Sending, Receiving, receive_held}
use Rattle.session.specs.Input.{Receiver, in_window, is_new, heard_by_receiving}

-- the numbers that are outstanding
abbrev pub outstanding_numbers : Sending → List ℕ
outstanding_numbers s = map (λ (x : Sent). x.record.number) s.outstanding

-- how many segments are held, ready or waiting
abbrev pub held_count : Receiving → ℕ
held_count r = length (receive_held r)

-- a push before rcv_nxt + 128 that is new
abbrev pub is_kept : Receiving → Segment → Bool
is_kept r g = eqb g.header.cmd push && (in_window r g.header.sn && is_new r g.header.sn)

-- how many of a datagram's segments are kept, each in its turn
unfoldable pub kept_of : ℕ → Receiver → List Segment → ℕ
kept_of m x [] = 0
kept_of m x (g ∷ gs) = cond (is_kept x.half g) 1 0 + kept_of m (heard_by_receiving m x g) gs
