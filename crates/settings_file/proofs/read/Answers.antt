-- `settings_file::read` meets its contract: the tests decide in turn.
use Rattle.std.proofs.Common.{sym, ◌∙◌, arith}
use Rattle.settings_file.specs.FileLaws.{short_file, no_magic, other_version, of_first, of_second}
use Rattle.settings_file.proofs.read.Goals as goal
use Rattle.settings_file.proofs.read.Goals.{
  then-file-lt-FRONT-via-then-file-lt-FRONT,
  then-file-lt-FRONT-via-else-file-lt-FRONT+then-not-has_magic,
}

pub returns-then-file-lt-FRONT : goal.returns-then-file-lt-FRONT
returns-then-file-lt-FRONT c =
    elim c.then-file-lt-FRONT.branch [
      | then-file-lt-FRONT-via-then-file-lt-FRONT w ↦ short_file _ (omega arith)
      | then-file-lt-FRONT-via-else-file-lt-FRONT+then-not-has_magic w ↦ no_magic _ (cc)
    ]

pub returns-in-1 : goal.returns-in-1
returns-in-1 c = c.read_first.ensures ∙ of_first _ (omega arith) (cc) (sym c.read.ensures ∙ c.in-1.is)

pub returns-in-2 : goal.returns-in-2
returns-in-2 c = c.read_second.ensures ∙ of_second _ (omega arith) (cc) (sym c.read.ensures ∙ c.in-2.is)

pub returns-in_default : goal.returns-in_default
returns-in_default c = other_version _ (omega arith) (cc) (λ e. omega (arith, e)) (λ e. omega (arith, e))
