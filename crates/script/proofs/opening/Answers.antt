-- `script::opening` meets its contract, by the name.
use Rattle.script.specs.declared.names.Name.TheVariants.{Open}
use Rattle.script.specs.Commands.{letters, of_seven}
use Rattle.script.specs.NameLaws.{other}
use Rattle.script.proofs.opening.Goals as goal

pub returns-in-Open : goal.returns-in-Open
unfolding of_seven letters
returns-in-Open c = rw (c.in-Open.is)

pub returns-in_default : goal.returns-in_default
unfolding of_seven
returns-in_default c = rw (other _ Open c.in_default.not-Open)
