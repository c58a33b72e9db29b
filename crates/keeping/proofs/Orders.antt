-- Where a push goes: to those that are ready if it is the one expected next, else among those that wait.
-- Assumes nothing.
use mathlib.Core.Path.{◌≡◌, refl, sym, ◌∙◌}
use mathlib.Core.Bool.{Bool, true, false, cond, ◌&&◌, false≢true, true≢false}
use mathlib.Core.List.{List, [], ◌∷◌, ◌++◌}
use Prim.Native.Nat.{ℕ, ◌+◌, ◌<◌, ◌^◌}
use native.Mathlib.Omega.{arith}
use borrow.Author.Tests.{le-leb, lt-leb, lt-ltb, eqb-false}
use lib.Dec.{ltb, eqb}
use lib.ListN.{length}
use Rattle.protocol.specs.Serial.{plus, minus, is_before}
use Rattle.protocol.specs.SerialLaws.{before_test}
use Rattle.lists.specs.Orders.{waiting_offset, is_held, insert, ascending}
use Rattle.lists.specs.OrderLaws.{ascending_first, ascending_held}
use Rattle.lists.specs.Receiving.{is_next, starts_at, advance}
use Rattle.lists.specs.declared.Held.{Held}
use Rattle.lists.specs.declared.Waiting.{Waiting}
use Rattle.keeping.specs.Pushing.{is_in_window, is_new_in}

-- nothing waits that could be ready
abbrev pub Settled : ℕ → List Held → List Waiting → Type 0
Settled next ready waiting = (starts_at next waiting && ltb (length ready) 128) ≡ false

-- then none becomes ready
pub advance_none : (next : ℕ) (ready : List Held) (waiting : List Waiting) → Settled next ready waiting
    → advance next ready waiting ≡ record { next = next; ready = ready; waiting = waiting }
unfolding advance starts_at
advance_none next ready [] e = refl
advance_none next ready (w ∷ l) e = rw e

-- it stays so where one is inserted that could not be ready itself
pub settled_insert : (next : ℕ) (a : Waiting) (b : Bool) (l : List Waiting) → (is_next next a && b) ≡ false → (starts_at next l && b) ≡ false
    → (starts_at next (insert (waiting_offset next) a l) && b) ≡ false
unfolding starts_at insert
settled_insert next a b [] e f = e
settled_insert next a b (x ∷ l) e f =
    go (eqb (waiting_offset next x) (waiting_offset next a)) (ltb (waiting_offset next a) (waiting_offset next x))
  where
    go : (t u : Bool) → (starts_at next (cond t (x ∷ l) (cond u (a ∷ x ∷ l) (x ∷ insert (waiting_offset next) a l))) && b) ≡ false
    go true u = f
    go false true = e
    go false false = f

-- ---- the one expected next

pub both : (a b : Bool) → a && b ≡ true → (a ≡ true) × (b ≡ true)
both true b t = (refl, t)
both false b t = absurd (false≢true t)

not_first : (a b : Bool) → a && b ≡ false → b ≡ true → a ≡ false
not_first true b e t = absurd (true≢false (sym t ∙ e))
not_first false b e t = refl

-- it is not held
lacks_next : (next : ℕ) (l : List Waiting) → starts_at next l ≡ false → ascending (waiting_offset next) 0 128 l ≡ true
    → is_held (waiting_offset next) 0 l ≡ false
unfolding starts_at is_held
lacks_next next [] e a = refl
lacks_next next (x ∷ l) e a = rw e (go (is_held (waiting_offset next) 0 l) refl)
  where
    go : (t : Bool) → is_held (waiting_offset next) 0 l ≡ t → t ≡ false
    go true q = absurd (omega (
      arith,
      (ascending_held (waiting_offset next) 0 (waiting_offset next x + 1) 128 l (ascending_first (waiting_offset next) 0 128 x l a).later q
          ).0,
    ))
    go false q = refl

-- it goes in front of those that wait
in_front_lem : (next : ℕ) (a : Waiting) (l : List Waiting) → minus a.number next ≡ 0 → starts_at next l ≡ false
    → insert (waiting_offset next) a l ≡ a ∷ l
unfolding starts_at insert
in_front_lem next a [] z e = refl
in_front_lem next a (x ∷ l) z e =
    let more : 0 < waiting_offset next x = go in
    rw (z, e, lt-ltb 0 (waiting_offset next x) more)
  where
    go : 0 < waiting_offset next x
    go = let n = eqb-false (minus x.number next) 0 e in omega arith

module _ (next sn : ℕ) (ready : List Held) (waiting : List Waiting) (next_low : next < 2 ^ 32) (sn_low : sn < 2 ^ 32)
    (z : minus sn next ≡ 0) (few : length ready < 128)
    (settled : Settled next ready waiting) (ascends : ascending (waiting_offset next) 0 128 waiting ≡ true) where
  starts_not : starts_at next waiting ≡ false
  starts_not = not_first _ _ settled (lt-ltb _ _ few)

  -- it is kept
  pub next_new : is_in_window next sn && is_new_in next waiting sn ≡ true
  next_new =
      let inside : is_before sn (plus next 128) ≡ true =
      before_test sn (plus next 128) ∙ le-leb (2 ^ 31) (minus sn (plus next 128)) (omega arith) in
      let behind : is_before sn next ≡ false = before_test sn next ∙ lt-leb (2 ^ 31) (minus sn next) (omega arith) in
      rw (inside, behind, z, lacks_next next waiting starts_not ascends)

  -- it becomes ready, and then those that wait for it
  pub next_raised : (held : Held)
      → advance next ready (insert (waiting_offset next) (record { number = sn; held = held }) waiting) ≡ advance (plus next 1)
      (ready ++ (held ∷ [])) waiting
  unfolding advance
  next_raised held = rw (in_front_lem next (record { number = sn; held = held }) waiting z starts_not, z, lt-ltb _ _ few)
