-- `script::of_none` meets its contract, name by name.
use Rattle.script.specs.declared.names.Name.TheVariants.{Size, Show, State, Held}
use Rattle.script.specs.Commands.{letters, of_none}
use Rattle.script.specs.NameLaws.{other}
use Rattle.script.proofs.of_none.Goals as goal

pub returns-in-Size : goal.returns-in-Size
unfolding of_none letters
returns-in-Size c = rw (c.in-Size.is)

pub returns-in-Show : goal.returns-in-Show
unfolding of_none letters
returns-in-Show c = rw (c.in-Show.is)

pub returns-in-State : goal.returns-in-State
unfolding of_none letters
returns-in-State c = rw (c.in-State.is)

pub returns-in-Held : goal.returns-in-Held
unfolding of_none letters
returns-in-Held c = rw (c.in-Held.is)

pub returns-in_default : goal.returns-in_default
unfolding of_none
returns-in_default c =
    let x = c.in_default in
    rw (other _ Size x.not-Size, other _ Show x.not-Show, other _ State x.not-State, other _ Held x.not-Held)
