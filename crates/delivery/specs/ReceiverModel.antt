-- A receiver with payloads in place of slots: a proof layer between the receiving half with its pool and the plain receiver.
-- No contract cites it. Definitions.
-- Assumes nothing.
use Rattle.std.specs.Prelude.{cond, not, ◌&&◌, List, [], ◌∷◌, ◌++◌, ℕ, ◌+◌, leb, ltb, eqb, length, take, drop}
use Rattle.protocol.specs.Protocol.{receive_window}
use Rattle.protocol.specs.Serial.{plus, minus, is_before}
use Rattle.datagram.specs.Datagrams.{Segment}
use Rattle.lists.specs.Orders.{insert}
use Rattle.delivery.specs.PlainReceiver.{Found}
use Rattle.delivery.specs.Pieces.{Piece, piece_of}

-- a segment that waits, with its number
pub record Numbered : Type 0 where
  pub number : ℕ
  pub piece : Piece

-- the receiving half's number and lists, with payloads
pub record Listed : Type 0 where
  pub next : ℕ
  pub ready : List Piece
  pub waiting : List Numbered

abbrev pub numbered_offset : ℕ → Numbered → ℕ
numbered_offset base w = minus w.number base

-- the segment numbered next becomes ready, repeatedly, while fewer than 128 are ready
unfoldable pub list_advance : ℕ → List Piece → List Numbered → Listed
list_advance next ready [] = record { next = next; ready = ready; waiting = [] }
list_advance next ready (w ∷ l) =
    cond (eqb (minus w.number next) 0 && ltb (length ready) receive_window)
    (list_advance (plus next 1) (ready ++ (w.piece ∷ [])) l)
    (record { next = next; ready = ready; waiting = w ∷ l })

-- a push in the window is put among the waiting segments; one that is held already stays
abbrev pub list_kept : Listed → ℕ → Piece → List Numbered
list_kept r sn q =
    cond (is_before sn (plus r.next receive_window) && not (is_before sn r.next))
    (insert (numbered_offset r.next) (record { number = sn; piece = q }) r.waiting)
    r.waiting

abbrev pub list_push : Listed → ℕ → Piece → Listed
list_push r sn q = list_advance r.next r.ready (list_kept r sn q)

-- each of these pushes in turn
unfoldable pub list_pushes : Listed → List Segment → Listed
list_pushes r [] = r
list_pushes r (g ∷ gs) = list_pushes (list_push r g.header.sn (piece_of g)) gs

-- payloads joined
unfoldable pub joined : List Piece → List ℕ
joined [] = []
joined (q ∷ l) = q.payload ++ joined l

-- what a read finds where these are ready
abbrev pub list_answer : List Piece → ℕ → Found
list_answer [] room = Found.nothing
list_answer (q ∷ l) room =
    cond (leb (q.fragment + 1) (length (q ∷ l)))
    (cond (ltb room (length (joined (take (q.fragment + 1) (q ∷ l))))) Found.short
    (Found.message (joined (take (q.fragment + 1) (q ∷ l)))))
    Found.nothing

-- what is ready behind the message at the front
abbrev pub list_rest : List Piece → List Piece
list_rest [] = []
list_rest (q ∷ l) = drop (q.fragment + 1) (q ∷ l)

abbrev pub list_leave : Listed → Found → Listed
list_leave r Found.nothing = r
list_leave r Found.short = r
list_leave r (Found.message m) = list_advance r.next (list_rest r.ready) r.waiting
