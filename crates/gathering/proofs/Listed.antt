-- The record that is read for a word.
-- Assumes nothing.
use mathlib.Core.Path.{◌≡◌, refl, sym, ◌∙◌}
use mathlib.Core.Bool.{Bool, true, false}
use mathlib.Core.List.{List}
use Prim.Native.Nat.{ℕ, ◌≤◌, ◌<◌, ◌%◌, ◌^◌}
use native.Mathlib.Omega.{arith}
use borrow.Author.Tests.{ltb-true, ltb-false}
use lib.Dec.{ltb}
use lib.ListN.{length, get_or, take, length-take, get_or-eq_default}
use lib.Seq.{get_or-take}
use Rattle.protocol.specs.Protocol.{send_slots}
use Rattle.timing.specs.declared.Record.{Record}
use Rattle.records.specs.Tables.{blank}
use Rattle.gathering.specs.Reach.{reach}

-- what is read for a word is the record at its slot among the first 128
pub reached : (table : List Record) (word k : ℕ) (r : Record) → length table < 2 ^ 64 → k ≡ reach word → r ≡ get_or table k blank
    → r ≡ get_or (take send_slots table) (word % 256) blank
reached table word k r room e f = f ∙ go (ltb (word % 256) send_slots) refl
  where
    go : (b : Bool) → ltb (word % 256) send_slots ≡ b → get_or table k blank ≡ get_or (take send_slots table) (word % 256) blank
    go true h = rw (e, h) (sym (get_or-take send_slots table (word % 256) blank (ltb-true _ _ h)))
    go false h =
        let past : send_slots ≤ word % 256 = ltb-false _ _ h in
        rw (e, h) (get_or-eq_default table blank (omega arith) ∙ sym
        (get_or-eq_default (take send_slots table) blank (omega (arith, past, length-take send_slots table))))
