-- `bench::poke::poke` meets its contract, field by field.
use Rattle.std.proofs.Common.{refl}
use Rattle.bench.proofs.poke.poke.Goals as goal

pub returns-in-2 : goal.returns-in-2
returns-in-2 c h = record { fields = rw c.in-2.is; counts = refl; lists = refl }

pub returns-in-4 : goal.returns-in-4
returns-in-4 c h = record { fields = rw c.in-4.is; counts = refl; lists = refl }

pub returns-in-19 : goal.returns-in-19
returns-in-19 c h = record { fields = rw c.in-19.is; counts = refl; lists = refl }

pub returns-in-20 : goal.returns-in-20
returns-in-20 c h = record { fields = rw c.in-20.is; counts = refl; lists = refl }
