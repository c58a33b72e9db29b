-- The furthest number found segment by segment is that of the list of the acks' numbers.
-- Assumes nothing.
use Rattle.std.specs.Prelude.{◌≡◌, refl, Bool, true, false, cond, List, [], ◌∷◌, ℕ, eqb, Option, Some}
use Rattle.protocol.specs.Protocol.{ack}
use Rattle.protocol.specs.Serial.{is_after}
use Rattle.datagram.specs.Datagrams.{Segment}
use Rattle.session.specs.State.{Sending}
use Rattle.session.specs.Input.{ack_numbers, furthest, skipped_by_all}
use Rattle.acknowledge.specs.Furthest.{none_yet, further, further_by, further_by_all, skipped_by}

-- number by number
onward : Option ℕ → List ℕ → Option ℕ
onward f [] = f
onward f (n ∷ l) = onward (further f n) l

by_numbers : (gs : List Segment) (f : Option ℕ) → further_by_all f gs ≡ onward f (ack_numbers gs)
unfolding further_by_all further_by ack_numbers onward
by_numbers [] f = refl
by_numbers (g ∷ gs) f = go (eqb g.header.cmd ack) (by_numbers gs (further_by f g.header))
  where
    go : (t : Bool) → further_by_all (cond t (further f g.header.sn) f) gs ≡ onward (cond t (further f g.header.sn) f) (ack_numbers gs)
        → further_by_all (cond t (further f g.header.sn) f) gs ≡ onward f (cond t (g.header.sn ∷ ack_numbers gs) (ack_numbers gs))
    go true ih = ih
    go false ih = ih

-- once one has come
from_first : (n : ℕ) (l : List ℕ) → onward (Some n) l ≡ Some (furthest n l)
unfolding further furthest onward
from_first n [] = refl
from_first n (k ∷ l) = from_first (cond (is_after k n) k n) l

skipped_numbers : (s : Sending) (l : List ℕ) → skipped_by (onward none_yet l) s ≡ skipped_by_all s l
unfolding skipped_by further onward
skipped_numbers s [] = refl
skipped_numbers s (n ∷ l) = rw (from_first n l)

pub skipped_all : (s : Sending) (gs : List Segment) → skipped_by (further_by_all none_yet gs) s ≡ skipped_by_all s (ack_numbers gs)
skipped_all s gs = rw (by_numbers gs none_yet) (skipped_numbers s (ack_numbers gs))
