-- The pieces that a sender's calls number, from its state and send pool. A proof layer: no contract cites it. Definitions.
-- Assumes nothing.
use Rattle.std.specs.Prelude.{List, [], ◌∷◌, ◌++◌, map, ℕ, take}
use Rattle.protocol.specs.Ranges.{mss}
use Rattle.session.specs.Flushing.{window_of, numbered_count}
use Rattle.session.specs.Calls.{Station, Call, Reply, own}
use Rattle.delivery.specs.Pieces.{Piece}
use Rattle.delivery.specs.SendPool.{piece_in}

-- by a call with this answer: a flush, and an update that flushes, numbers the first queued segments
abbrev pub numbered_now : Station → Reply → List Piece
numbered_now s (Reply.wrote ds) =
    map (piece_in (mss s.state.settings) s.send_pool)
    (take (numbered_count (window_of s.state) s.state.sending) s.state.sending.queued)
numbered_now s Reply.accepted = []
numbered_now s (Reply.refused r) = []
numbered_now s (Reply.message b) = []
numbered_now s Reply.waited = []
numbered_now s (Reply.named t) = []

-- by calls that pass the checks
unfoldable pub pieces_numbered : Station → List Call → List Piece
pieces_numbered s [] = []
pieces_numbered s (x ∷ xs) = numbered_now s (own s x).answer ++ pieces_numbered (own s x).station xs

abbrev pub payloads : List Piece → List (List ℕ)
payloads l = map (λ (q : Piece). q.payload) l
