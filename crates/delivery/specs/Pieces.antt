-- The segments of the accepted list, numbered from 0 in order, and the pushes that are of them.
-- Assumes nothing.
use Rattle.std.specs.Prelude.{◌≡◌, Bool, false, cond, List, [], ◌∷◌, ◌++◌, ℕ, ◌^◌, ◌<◌, eqb, length}
use Rattle.std.proofs.Math.Option.{some}
use Rattle.std.proofs.Math.ListN.{get_elem?}
use Rattle.protocol.specs.Protocol.{push}
use Rattle.datagram.specs.Datagrams.{Segment, Parsed, parse}
use Rattle.protocol.specs.Ranges.{mss}
use Rattle.protocol.specs.declared.Settings.{Settings}
use Rattle.session.specs.Cutting.{cut}
use Rattle.session.specs.Decides.{All}

-- a segment of a message: its fragment number and payload
pub record Piece : Type 0 where
  pub fragment : ℕ
  pub payload : List ℕ

-- the segments of payloads: fragment numbers fall to 0, and in stream mode all are 0
unfoldable pub fragmented : Bool → List (List ℕ) → List Piece
fragmented stream [] = []
fragmented stream (p ∷ ps) = record { fragment = cond stream 0 (length ps); payload = p } ∷ fragmented stream ps

-- those of a message
abbrev pub falling : List (List ℕ) → List Piece
falling ps = fragmented false ps

-- the segments of messages, in order
unfoldable pub pieces_of : ℕ → List (List ℕ) → List Piece
pieces_of m [] = []
pieces_of m (x ∷ xs) = falling (cut m x) ++ pieces_of m xs

-- the piece that a push carries
abbrev pub piece_of : Segment → Piece
piece_of g = record { fragment = g.header.frg; payload = g.payload }

-- a push that is the accepted segment of its number, which is below 2^30
pub record Genuine (pieces : List Piece) (g : Segment) : Type 0 where
  pub its_piece : get_elem? pieces g.header.sn ≡ some (piece_of g)
  pub small : g.header.sn < 2 ^ 30

-- the pushes among segments
unfoldable pub pushes : List Segment → List Segment
pushes [] = []
pushes (g ∷ gs) = cond (eqb g.header.cmd push) (g ∷ pushes gs) (pushes gs)

-- a datagram that a link of these settings takes in whole, all of its pushes genuine
pub record GenuineDatagram (c : Settings) (pieces : List Piece) (d : List ℕ) : Type 0 where
  pub its_segments : List Segment
  pub parses : parse c.conv (mss c) d ≡ Parsed.segments its_segments
  pub genuine : All (Genuine pieces) (pushes its_segments)
