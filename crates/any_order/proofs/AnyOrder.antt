-- Acks in whatever order (request 2026-09): of any link whose calls keep their promises, in what its caller holds, the block and the lent
-- parts. Only what `SameInFlight` names is claimed: not skip counts, the link's round trip and timeout, the peer's window, the receiving
-- half, or any other field of a block.
-- Assumes nothing.
use Rattle.std.specs.Prelude.{◌≡◌, refl, Bool, true, false, cond, ℕ}
use Rattle.std.proofs.Math.Path.{sym, ap}
use Rattle.std.proofs.Common.{◌∙◌}
use mathlib.Core.List.{List, [], ◌∷◌, ◌++◌, map, Memᴰ}
use Rattle.lists.specs.declared.Sent.{Sent}
use Rattle.lists.specs.declared.Acknowledges.{Acknowledges}
use Rattle.lists.specs.Acknowledging.{select, filter, first_number_or}
use Rattle.session.specs.MapLaws.{map_unchanged}
use Rattle.control.specs.Views.{state_of}
use Rattle.control.specs.declared.Link.{Link}
use Rattle.promises.specs.Parts.{Parts}
use Rattle.any_order.specs.Removing.{unless_ahead, passes_all, SameMembers}
use Rattle.any_order.specs.Numbers.{unskipped, untimed}
use Rattle.any_order.specs.NumberLaws.{same_of_all, Sees, sees_unskipped}
use Rattle.any_order.proofs.NumberLaws.{sees_untimed}
use Rattle.any_order.specs.Hearing.{Heard, numbers_one, numbers_heard, NoCall, NextFixed, Hears}
use Rattle.any_order.specs.Hearing.{SameInFlight, outstanding_in, outstanding_numbers}
use Rattle.any_order.specs.OtherCallLaws.{next_fixed_leaves}
use Rattle.any_order.specs.HearingLaws.{hears_same, hears_outstanding, hears_una, hears_joined}

abbrev number : Sent → ℕ
number x = x.record.number

select_numbers : (test : ℕ → Bool) (l : List Sent) → map number (filter test l) ≡ select test (map number l)
unfolding select
select_numbers test [] = refl
select_numbers test (x ∷ l) = go (test (number x)) (select_numbers test l)
  where
    go : (b : Bool) → map number (filter test l) ≡ select test (map number l)
        → map number (cond b (x ∷ filter test l) (filter test l))
        ≡ cond b (number x ∷ select test (map number l)) (select test (map number l))
    go true e = ap (λ (r : List ℕ). number x ∷ r) e
    go false e = e

module _ (l : Link) (p : Parts) (xs ys : List Heard) (l₁ : Link) (p₁ : Parts) (l₂ : Link) (p₂ : Parts) where
  -- no other call between: a block that heard xs and one that heard ys, with the same una and ack numbers, have the same snd_una and the
  -- same outstanding segments, each in all but its skip count
  pub any_order : Hears NoCall l p xs l₁ p₁ → Hears NoCall l p ys l₂ p₂
      → SameMembers (numbers_heard l.settings xs) (numbers_heard l.settings ys) → SameInFlight unskipped l₁ p₁ l₂ p₂
  any_order = hears_same unskipped sees_unskipped NoCall (λ l p l' p' e. absurd e) l p xs ys l₁ p₁ l₂ p₂

  -- any other calls between, as long as they leave snd_nxt: the same snd_una, and the same outstanding segments by number, slot, length and
  -- fragment number
  pub any_order_between : Hears NextFixed l p xs l₁ p₁ → Hears NextFixed l p ys l₂ p₂
      → SameMembers (numbers_heard l.settings xs) (numbers_heard l.settings ys) → SameInFlight untimed l₁ p₁ l₂ p₂
  any_order_between = hears_same untimed sees_untimed NextFixed next_fixed_leaves l p xs ys l₁ p₁ l₂ p₂

  -- the same datagrams in another order, or some of them twice, have the same numbers
  pub same_datagrams : SameMembers xs ys → SameMembers (numbers_heard l.settings xs) (numbers_heard l.settings ys)
  same_datagrams = same_of_all (numbers_one l.settings) xs ys

-- what is outstanding in the end: the numbers that were, but for those that a number heard acknowledges
module _ (l : Link) (p : Parts) (xs : List Heard) (l₁ : Link) (p₁ : Parts) where
  pub outstanding_after : Hears NextFixed l p xs l₁ p₁
      → outstanding_numbers l₁ p₁ ≡ select (passes_all unless_ahead l.flight.next (numbers_heard l.settings xs)) (outstanding_numbers l p)
  unfolding state_of
  outstanding_after h =
      let test = passes_all unless_ahead l.flight.next (numbers_heard l.settings xs) in
      let e = hears_outstanding untimed sees_untimed NextFixed next_fixed_leaves h in
      sym (map_unchanged number untimed sees_untimed.number (outstanding_in l₁ p₁))
      ∙ ap (map number) e
      ∙ select_numbers test (map untimed (outstanding_in l p))
      ∙ ap (select test) (map_unchanged number untimed sees_untimed.number (outstanding_in l p))

  -- if any number was heard, snd_una is the first of them, else snd_nxt
  pub una_after : (a : Acknowledges) → Memᴰ a (numbers_heard l.settings xs) → Hears NextFixed l p xs l₁ p₁
      → l₁.flight.una ≡ first_number_or (outstanding_in l₁ p₁) l.flight.next
  una_after = hears_una untimed sees_untimed NextFixed next_fixed_leaves

-- two lists taken in one after the other, and their joined list
module _ (l : Link) (p : Parts) (xs ys : List Heard) (l₁ : Link) (p₁ : Parts) (l₂ : Link) (p₂ : Parts) (l₃ : Link) (p₃ : Parts) where
  pub two_lists : Hears NoCall l p xs l₁ p₁ → Hears NoCall l₁ p₁ ys l₂ p₂ → Hears NoCall l p (xs ++ ys) l₃ p₃
      → SameInFlight unskipped l₂ p₂ l₃ p₃
  two_lists h₁ h₂ h₃ = any_order l p (xs ++ ys) (xs ++ ys) l₂ p₂ l₃ p₃ (hears_joined ys h₁ h₂) h₃ (λ a. (λ m. m, λ m. m))

  pub two_lists_between : Hears NextFixed l p xs l₁ p₁ → Hears NextFixed l₁ p₁ ys l₂ p₂ → Hears NextFixed l p (xs ++ ys) l₃ p₃
      → SameInFlight untimed l₂ p₂ l₃ p₃
  two_lists_between h₁ h₂ h₃ =
      any_order_between l p (xs ++ ys) (xs ++ ys) l₂ p₂ l₃ p₃ (hears_joined ys h₁ h₂) h₃ (λ a. (λ m. m, λ m. m))

-- so the outstanding numbers are the same
pub numbers_same : (see : Sent → Sent) → Sees see → (l₁ : Link) (p₁ : Parts) (l₂ : Link) (p₂ : Parts) → SameInFlight see l₁ p₁ l₂ p₂
    → outstanding_numbers l₁ p₁ ≡ outstanding_numbers l₂ p₂
numbers_same see sees l₁ p₁ l₂ p₂ h =
    sym (map_unchanged number see sees.number (outstanding_in l₁ p₁))
    ∙ ap (map number) h.outstanding
    ∙ map_unchanged number see sees.number (outstanding_in l₂ p₂)
