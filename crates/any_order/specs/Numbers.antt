-- The una and ack numbers of segments and datagrams, and what is claimed of the outstanding segments. Definitions.
-- Assumes nothing.
use Rattle.std.specs.Prelude.{cond, List, [], ◌∷◌, ◌++◌, map, eqb}
use Rattle.protocol.specs.Protocol.{ack}
use Rattle.wire.specs.declared.Header.{Header}
use Rattle.datagram.specs.Datagrams.{Segment}
use Rattle.lists.specs.declared.Sent.{Sent}
use Rattle.lists.specs.declared.Acknowledges.{Acknowledges}
use Rattle.lists.specs.declared.Acknowledges.TheVariants as by
use Rattle.session.specs.State.{Sending}
use Rattle.session.specs.Input.{Took, applied}
use Rattle.any_order.specs.Removing.{InFlight}

-- ---- the numbers, as they are taken

-- of a segment: its una, then its sn where it is an ack
abbrev pub numbers_of : Header → List Acknowledges
numbers_of h = by.Una h.una ∷ cond (eqb h.cmd ack) (by.Ack h.sn ∷ []) []

-- of all members of a list
unfoldable pub of_all : {A : Type 0} → (A → List Acknowledges) → List A → List Acknowledges
of_all numbers [] = []
of_all numbers (x ∷ l) = numbers x ++ of_all numbers l

-- of the segments of a datagram
abbrev pub numbers_in : List Segment → List Acknowledges
numbers_in = of_all (λ (g : Segment). numbers_of g.header)

-- of datagrams, each given by its segments
abbrev pub numbers_in_all : List (List Segment) → List Acknowledges
numbers_in_all = of_all numbers_in

-- datagrams taken in one after the other, with no other call between
unfoldable pub applied_all : Took → List (List Segment) → Took
applied_all x [] = x
applied_all x (gs ∷ l) = applied_all (applied x.state x.pool gs) l

-- ---- what is claimed of a sending half: snd_una, snd_nxt, and what is seen of each outstanding segment

abbrev pub seen_by : (Sent → Sent) → Sending → InFlight
seen_by see s = record { una = s.una; next = s.next; outstanding = map see s.outstanding }

-- all of a segment but its skip count: number, slot, length, fragment number, transmissions, due time and timeout
abbrev pub unskipped : Sent → Sent
unskipped x =
    record {
      held = x.held;
      transmissions = x.transmissions;
      «record» = record { number = x.record.number; due = x.record.due; timeout = x.record.timeout; skips = 0 };
    }

-- number, slot, length and fragment number alone: what a segment keeps from its numbering on
abbrev pub untimed : Sent → Sent
untimed x =
    record { held = x.held; transmissions = 0; «record» = record { number = x.record.number; due = 0; timeout = 0; skips = 0 } }
