-- `galois::power` meets its contract: the table's rule at `n % 255`, and 255 doublings change nothing.
use mathlib.Core.Path.{◌∙◌}
use Prim.Native.Nat.{◌%◌}
use native.Mathlib.Omega.{arith}
use Rattle.galois.specs.FieldLaws.{power_mod}
use Rattle.galois.specs.Tables.{powers}
use Rattle.galois.proofs.TableLaws.{power_entry}
use Rattle.galois.proofs.power.Goals as goal

pub returns : goal.returns
unfolding powers
returns c = power_entry (c.args.n % 255) (omega arith) ∙ power_mod c.args.n
