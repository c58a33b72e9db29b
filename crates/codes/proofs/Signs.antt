-- Small numbers read as signed, and their negatives.
use mathlib.Core.Path.{◌≡◌, ◌∙◌}
use Prim.Native.Nat.{ℕ, zero, suc, ◌<◌, ◌^◌}
use native.Mathlib.Omega.{arith}
use lib.IntN.{ℤ}
use borrow.Author.Tests.{lt-ltb}
use mir.Syntax.{w32}
use mir.Val.{SFits, to_z, of_z}
use mir.ValLaws.{to_z-of_z}
use Rattle.codes.specs.Codes.{number_code}

-- the negative of a byte fits 32 bits
pub negative_fits : (n : ℕ) → n < 2 ^ 8 → SFits w32 (number_code n)
negative_fits zero h = record { sfits = omega arith }
negative_fits (suc n) h = record { sfits = rw (lt-ltb 0 (suc n) (omega arith)) (omega arith) }

-- a code that a function gave is the code that it is passed on as
pub passed : {y : ℤ} (z : ℤ) → SFits w32 y → z ≡ y → to_z w32 (of_z w32 z) ≡ y
passed z fits e = to_z-of_z w32 z (rw e fits) ∙ e
