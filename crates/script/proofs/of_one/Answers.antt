-- `script::of_one` meets its contract, name by name.
use Rattle.std.proofs.Common.{◌∙◌}
use Rattle.script.specs.declared.names.Name.TheVariants.{Flush, Update, Check, Read}
use Rattle.script.specs.Commands.{letters, of_one}
use Rattle.script.specs.NameLaws.{other, some_if}
use Rattle.script.proofs.of_one.Goals as goal

pub returns-in-Flush : goal.returns-in-Flush
unfolding of_one letters
returns-in-Flush c = rw (c.in-Flush.is)

pub returns-in-Update : goal.returns-in-Update
unfolding of_one letters
returns-in-Update c = rw (c.in-Update.is)

pub returns-in-Check : goal.returns-in-Check
unfolding of_one letters
returns-in-Check c = rw (c.in-Check.is)

pub returns-in-Read : goal.returns-in-Read
unfolding of_one letters
returns-in-Read c = rw c.in-Read.is (c.then_some.ensures ∙ some_if _ _)

pub returns-in_default : goal.returns-in_default
unfolding of_one
returns-in_default c =
    let x = c.in_default in
    rw (other _ Flush x.not-Flush, other _ Update x.not-Update, other _ Check x.not-Check, other _ Read x.not-Read)
