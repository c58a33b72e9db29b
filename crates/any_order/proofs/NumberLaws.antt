-- What is taken in by datagrams in whatever order.
-- Assumes nothing.
use Rattle.std.specs.Prelude.{◌≡◌}
use Rattle.std.proofs.Math.Path.{refl, sym, ap}
use Rattle.std.proofs.Common.{◌∙◌}
use mathlib.Core.List.{List, [], ◌∷◌}
use Rattle.datagram.specs.Datagrams.{Segment}
use Rattle.session.specs.Input.{Took, applied}
use Rattle.any_order.specs.Removing.{InFlight, unless_ahead, takes, SameMembers}
use Rattle.any_order.specs.RemovingLaws.{takes_same, takes_joined}
use Rattle.any_order.specs.Numbers.{of_all, numbers_in, numbers_in_all, applied_all, seen_by, unskipped, untimed}
use Rattle.any_order.specs.NumberLaws.{Sees, sees_unskipped, applied_takes}

-- what is seen so is seen of the segment but its skip count
pub sees_untimed : Sees untimed
sees_untimed = record { number = λ x. refl; skips = λ n x. ap untimed (sees_unskipped.skips n x) }

-- ---- datagrams in whatever order

applied_all_takes : (l : List (List Segment)) (x : Took)
    → seen_by unskipped (applied_all x l).state.sending ≡ takes unless_ahead (seen_by unskipped x.state.sending) (numbers_in_all l)
unfolding applied_all of_all takes
applied_all_takes [] x = refl
applied_all_takes (gs ∷ l) x =
    applied_all_takes l (applied x.state x.pool gs)
    ∙ ap (λ (y : InFlight). takes unless_ahead y (numbers_in_all l)) (applied_takes unskipped sees_unskipped x.state x.pool gs)
    ∙ takes_joined unless_ahead (seen_by unskipped x.state.sending) (numbers_in gs) (numbers_in_all l)

-- two lists of datagrams with the same una and ack numbers, taken in from the same state, leave the same outstanding segments, each in all
-- but its skip count, and the same snd_una
pub same_in_any_order : (x : Took) (ds es : List (List Segment)) → SameMembers (numbers_in_all ds) (numbers_in_all es)
    → seen_by unskipped (applied_all x ds).state.sending ≡ seen_by unskipped (applied_all x es).state.sending
same_in_any_order x ds es i =
    applied_all_takes ds x
    ∙ takes_same unless_ahead (seen_by unskipped x.state.sending) (numbers_in_all ds) (numbers_in_all es) i
    ∙ sym (applied_all_takes es x)
