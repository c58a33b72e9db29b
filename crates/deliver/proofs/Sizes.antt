-- The size of the message at the front, and whether there is room for it, as the definitions tell it.
-- Assumes nothing.
use mathlib.Core.Path.{◌≡◌, refl, sym, ◌∙◌}
use mathlib.Core.Bool.{Bool, true, false, cond}
use mathlib.Core.List.{List}
use Prim.Native.Nat.{ℕ, ◌≤◌, ◌<◌}
use native.Mathlib.Omega.{arith}
use borrow.Author.Tests.{le-leb, lt-leb, leb-true}
use lib.Dec.{leb}
use Rattle.protocol.specs.declared.Refusal.{Refusal}
use Rattle.protocol.specs.declared.Refusal.TheVariants.{ShortPart, NoMessage}
use Rattle.lists.specs.declared.Held.{Held}
use Rattle.session.specs.State.{Outcome, refused, done}
use Rattle.session.specs.Reading.{readable, length_of}
use Rattle.promises.specs.Answers.{size_of}
use Rattle.deliver.specs.Messages.{front_of, fitting_of, FitsIn}

module _ (l : List Held) (b : Bool) (e : b ≡ readable l) where
  pub front_readable : (n : ℕ) → b ≡ true → n ≡ length_of (front_of l) → done n ≡ size_of l
  unfolding size_of
  front_readable n t q = rw (sym e ∙ t, q)

  pub front_none : b ≡ false → refused NoMessage ≡ size_of l
  unfolding size_of
  front_none f = rw (sym e ∙ f)

-- a message that long in a buffer of so much room
abbrev fitted_in : ℕ → Outcome ℕ → Outcome ℕ
fitted_in room (refused r) = refused r
fitted_in room (done n) = cond (leb n room) (done n) (refused ShortPart)

by_size : (l : List Held) (room : ℕ) → fitting_of l room ≡ fitted_in room (size_of l)
unfolding fitting_of size_of
by_size l room = go (readable l)
  where
    go : (a : Bool) → cond a (cond (leb (length_of (front_of l)) room) (done (length_of (front_of l))) (refused ShortPart)) (refused NoMessage)
        ≡ fitted_in room (cond a (done (length_of (front_of l))) (refused NoMessage))
    go true = refl
    go false = refl

module _ (l : List Held) (room : ℕ) where
  pub fits : (n : ℕ) → done n ≡ size_of l → n ≤ room → done n ≡ fitting_of l room
  fits n e h = rw (by_size l room, ← e, le-leb n room h)

  pub too_long : (n : ℕ) → done n ≡ size_of l → room < n → refused ShortPart ≡ fitting_of l room
  too_long n e h = rw (by_size l room, ← e, lt-leb n room h)

  pub none : (r : Refusal) → refused r ≡ size_of l → refused r ≡ fitting_of l room
  none r e = rw (by_size l room, ← e)

-- where the size is found, the message can be read, is that long, and fits
pub fitting_fits : (l : List Held) (room n : ℕ) → done n ≡ fitting_of l room → FitsIn l room × (n ≡ length_of (front_of l))
unfolding fitting_of
fitting_fits l room n = go (readable l) (leb (length_of (front_of l)) room) refl refl
  where
    go : (a b : Bool) → readable l ≡ a → leb (length_of (front_of l)) room ≡ b
        → done n ≡ cond a (cond b (done (length_of (front_of l))) (refused ShortPart)) (refused NoMessage)
        → FitsIn l room × (n ≡ length_of (front_of l))
    go true true s t e = (record { complete = s; within = leb-true _ _ t }, cc)
    go true false s t e = absurd (let z : ◌≡◌ {A = ℕ} 0 1 = cc in omega arith)
    go false b s t e = absurd (let z : ◌≡◌ {A = ℕ} 0 1 = cc in omega arith)
