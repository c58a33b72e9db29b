-- `galois::double` meets its contract: what leaves the byte is taken back by the polynomial, less its highest term.
use mathlib.Core.Path.{◌≡◌, sym, ap, ◌∙◌}
use Prim.Native.Nat.{ℕ, ◌*◌, ◌-◌}
use native.Mathlib.Omega.{arith}
use borrow.Author.Rules.{rules}
use Rattle.galois.specs.Field.{plus}
use Rattle.galois.specs.FieldLaws.{double_small, double_large}
use Rattle.galois.proofs.double.Goals as goal

-- twice what is left of a large byte
twice : (a : ℕ) → (a - 128) * 2 ≡ 2 * a - 256
twice a = omega arith

pub returns-then-a-lt128 : goal.returns-then-a-lt128
returns-then-a-lt128 c = omega (arith, double_small c.args.a (search rules))

pub returns-else-a-lt128 : goal.returns-else-a-lt128
returns-else-a-lt128 c = c.add.ensures ∙ ap (λ (x : ℕ). plus x 29) (twice c.args.a) ∙ sym
    (double_large c.args.a (search rules) (search rules))
