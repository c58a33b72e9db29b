-- `script::bytes_behind` meets its contract, by whether there is a byte.
use Rattle.std.proofs.Common.{◌≡◌, List, [], ◌∷◌, ℕ, Option, None, refl, length, arith}
use Rattle.script.specs.Reading.{ReadBehind}
use Rattle.script.proofs.bytes_behind.Goals as goal

read_none : (l was : List ℕ) (r : Option ℕ) → length l ≡ 0 → r ≡ None → ReadBehind l was r was
read_none [] was r h e = record { answer = e; bytes = refl }
read_none (c ∷ l) was r h e = absurd (omega arith)

pub returns-in_err-word : goal.returns-in_err-word
returns-in_err-word c =
    let none : length c.args.behind.now ≡ 0 = c.in_err-word.ensures.cases in
    read_none _ _ _ none c.from_residual.ensures

pub returns : goal.returns
returns c =
    rw c.in_ok-word.ensures.cases.0 c.bytes.ensures
