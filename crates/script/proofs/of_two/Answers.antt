-- `script::of_two` meets its contract, name by name.
use Rattle.std.proofs.Common.{◌≡◌, sym, ◌∙◌, ◌&&◌, leb}
use Rattle.script.specs.declared.names.Name.TheVariants.{Jump, Lend, Poke}
use Rattle.script.specs.Commands.{letters, is_field, field_most, of_two}
use Rattle.script.specs.NameLaws.{other, some_if}
use Rattle.script.proofs.of_two.Goals as goal
use Rattle.script.proofs.of_two.Goals.{then-is_field, else-is_field}

pub returns-in-Jump : goal.returns-in-Jump
unfolding of_two letters
returns-in-Jump c = rw (c.in-Jump.is)

pub returns-in-Lend : goal.returns-in-Lend
unfolding of_two letters
returns-in-Lend c = rw c.in-Lend.is (c.then_some.ensures ∙ some_if _ _)

pub returns-after-is_field : goal.returns-after-is_field
unfolding of_two letters
returns-after-is_field c =
    let test : c.if-is_field.then_some ≡ is_field c.args.a && leb c.args.b (field_most c.args.a) =
    elim c.if-is_field.branch [
      | then-is_field w ↦ rw (sym c.is_field.ensures ∙ w.if-is_field.true, ← w.field_most.ensures) w.then_some-is
      | else-is_field w ↦ rw (sym c.is_field.ensures ∙ w.if-is_field.false) (w.then_some-is ∙ w.if-is_field.false)
    ] in
    rw (c.in-Poke.is, ← test) (c.then_some-in-Poke.ensures ∙ some_if _ _)

pub returns-in_default : goal.returns-in_default
unfolding of_two
returns-in_default c =
    let x = c.in_default in
    rw (other _ Jump x.not-Jump, other _ Lend x.not-Lend, other _ Poke x.not-Poke)
