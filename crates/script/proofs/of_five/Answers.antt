-- `script::of_five` meets its contract, name by name.
use Rattle.std.proofs.Common.{◌≡◌, ◌∙◌, ◌&&◌, leb, ltb, lt-ltb, le-ltb}
use Rattle.script.specs.declared.names.Name.TheVariants.{Rec}
use Rattle.script.specs.Commands.{letters, of_five, of_seven}
use Rattle.script.specs.NameLaws.{other, some_if}
use Rattle.script.proofs.of_five.Goals as goal
use Rattle.script.proofs.of_five.Goals.{then-a-lt128, else-a-lt128}

pub returns-after-a-lt128 : goal.returns-after-a-lt128
unfolding of_five letters
returns-after-a-lt128 c =
    let test : c.if-a-lt128.then_some ≡ ltb c.args.a 128 && leb c.args.e 65535 =
    elim c.if-a-lt128.branch [
      | then-a-lt128 w ↦ rw (lt-ltb _ _ w.if-a-lt128.true) w.then_some-is
      | else-a-lt128 w ↦ rw (le-ltb _ _ w.if-a-lt128.false) (w.then_some-is ∙ le-ltb _ _ w.if-a-lt128.false)
    ] in
    rw (c.in-Rec.is, ← test) (c.then_some.ensures ∙ some_if _ _)

pub returns-in_default : goal.returns-in_default
unfolding of_five of_seven
returns-in_default c = rw (other _ Rec c.in_default.not-Rec) c.opening.ensures
