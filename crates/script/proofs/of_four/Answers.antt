-- `script::of_four` meets its contract: the name, the field and the value are tested.
use Rattle.std.proofs.Common.{◌≡◌, sym, ◌∙◌, ◌&&◌, leb}
use Rattle.script.specs.declared.names.Name.TheVariants.{Hold}
use Rattle.script.specs.Commands.{letters, has_field, held_most, of_four}
use Rattle.script.specs.NameLaws.{other, some_if}
use Rattle.script.proofs.of_four.Goals as goal
use Rattle.script.proofs.of_four.Goals.{then-has_field, else-has_field}

pub returns-after-has_field : goal.returns-after-has_field
unfolding of_four letters
returns-after-has_field c =
    let test : c.if-has_field.then_some ≡ has_field c.args.list c.args.field && leb c.args.value (held_most c.args.list c.args.field) =
    elim c.if-has_field.branch [
      | then-has_field w ↦ rw (sym c.has_field.ensures ∙ w.if-has_field.true, ← w.held_most.ensures) w.then_some-is
      | else-has_field w ↦ rw (sym c.has_field.ensures ∙ w.if-has_field.false) (w.then_some-is ∙ w.if-has_field.false)
    ] in
    rw (c.in-Hold.is, ← test) (c.then_some.ensures ∙ some_if _ _)

pub returns-in_default : goal.returns-in_default
unfolding of_four
returns-in_default c = rw (other _ Hold c.in_default.not-Hold)
