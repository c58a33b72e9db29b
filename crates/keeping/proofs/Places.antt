-- A push that is new and in the window: how far it is from rcv_nxt, that a slot is free, that there is room among those that wait.
-- Assumes nothing.
use mathlib.Core.Path.{◌≡◌, refl, sym, ◌∙◌}
use mathlib.Core.Bool.{Bool, true, false, not, ◌&&◌, false≢true}
use mathlib.Core.List.{List}
use Prim.Native.Nat.{ℕ, ◌≤◌, ◌<◌, ◌^◌}
use native.Mathlib.Omega.{arith}
use borrow.Author.Tests.{leb-true, leb-false}
use lib.ListN.{length, length-map, length-append, length-take}
use Rattle.protocol.specs.Serial.{plus, minus, is_before}
use Rattle.protocol.specs.SerialLaws.{before_test}
use Rattle.lists.specs.Views.{waiting_of}
use Rattle.lists.specs.Orders.{waiting_offset, is_held, insert, ascending}
use Rattle.lists.specs.OrderLaws.{ascending_room, insert_fits}
use Rattle.lists.specs.declared.Held.{Held}
use Rattle.lists.specs.declared.Listed.{Listed}
use Rattle.lists.specs.declared.Waiting.{Waiting}
use Rattle.keeping.specs.Pushing.{is_in_window, is_new_in, used_by}

-- ---- the offset

near : (next sn : ℕ) → next < 2 ^ 32 → sn < 2 ^ 32 → is_in_window next sn ≡ true → is_before sn next ≡ false → minus sn next < 128
near next sn a b w e =
    let high = leb-true (2 ^ 31) (minus sn (plus next 128)) (sym (before_test sn (plus next 128)) ∙ w) in
    let low = leb-false (2 ^ 31) (minus sn next) (sym (before_test sn next) ∙ e) in
    omega arith

record New (a b h : Bool) : Type 0 where
  pub inside : a ≡ true
  pub behind : b ≡ false
  pub lacks : h ≡ false

new_parts : (a b h : Bool) → a && (not b && not h) ≡ true → New a b h
new_parts true false false e = record { inside = refl; behind = refl; lacks = refl }
new_parts true false true e = absurd (false≢true e)
new_parts true true h e = absurd (false≢true e)
new_parts false b h e = absurd (false≢true e)

-- the tests in turn
module _ (next sn : ℕ) (waiting : List Waiting) (a b : Bool) (e : a ≡ is_in_window next sn) (f : b ≡ is_before sn next) where
  pub searched : (h : Bool) → h ≡ is_held (waiting_offset next) (minus sn next) waiting → a && not b ≡ true
      → not h ≡ (is_in_window next sn && is_new_in next waiting sn)
  searched h g t = rw (← e, ← f, ← g) (go a b t)
    where
      go : (a b : Bool) → a && not b ≡ true → not h ≡ (a && (not b && not h))
      go true false t = refl
      go true true t = absurd (false≢true t)
      go false b t = absurd (false≢true t)

-- ---- a push that is kept

module _ (next sn : ℕ) (ready : Listed Held 128) (waiting : Listed Waiting 128) (next_low : next < 2 ^ 32) (sn_low : sn < 2 ^ 32)
    (few : ready.count ≤ 128)
    (ascends : ascending (waiting_offset next) 0 128 (waiting_of waiting) ≡ true)
    (new : is_in_window next sn && is_new_in next (waiting_of waiting) sn ≡ true) where
  parts : New (is_in_window next sn) (is_before sn next) (is_held (waiting_offset next) (minus sn next) (waiting_of waiting))
  parts = new_parts _ _ _ new

  pub new_offset : minus sn next < 128
  new_offset = near next sn next_low sn_low parts.inside parts.behind

  -- a slot is free
  pub new_free : length (used_by ready waiting) < 256
  new_free =
      let room = ascending_room (waiting_offset next) (minus sn next) 0 128 (waiting_of waiting) (omega arith) new_offset ascends
      parts.lacks in
      rw (length-map, length-append, length-map) (omega (arith, length-take ready.count ready.at))

  -- the entry fits among those that wait
  pub new_fits : (held : Held) → length (insert (waiting_offset next) (record { number = sn; held = held }) (waiting_of waiting)) ≤ 128
  new_fits held = insert_fits (waiting_offset next) (record { number = sn; held = held }) 128 (waiting_of waiting) new_offset ascends
