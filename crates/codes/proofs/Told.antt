-- A number told for an answer.
use mathlib.Core.Path.{◌≡◌}
use Prim.Native.Nat.{◌<◌}
use lib.IntN.{ℤ}
use lib.Signed.{mag}
use mir.Syntax.{w32}
use mir.Val.{to_z, of_z}
use mir.ValLaws.{to_z-of_z}
use Rattle.codes.specs.Gives.{Gives}

pub told : {A : Type 0} (code : A → ℤ) (P : A → Type 0) (a : A) {r : ℤ} → r ≡ code a → P a → Gives code P r
told code P a number promised = record { answer = a; number = number; promise = promised }

-- a number returned by its 32 bits
pub returned : {r : ℤ} → mag r < 2147483648 → to_z w32 (of_z w32 r) ≡ r
returned {r = r} small = to_z-of_z w32 r (record { sfits = small })
