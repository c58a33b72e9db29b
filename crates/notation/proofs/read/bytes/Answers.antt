-- `notation::read::bytes` meets its contract: the dash, digits that fit, or neither.
use Rattle.std.proofs.Common.{sym, ◌∙◌, arith}
use Rattle.std.proofs.lemmas.Bool.Decides.{nat_tests}
use Rattle.notation.specs.HexLaws.{read_dash, read_hex, read_none}
use Rattle.notation.proofs.read.bytes.Goals as goal
use Rattle.notation.proofs.read.bytes.Goals.{else-n-gt0-via-then-n-gt0+then-n-out+else-is_hex, else-n-gt0-via-then-n-gt0+else-n-out, else-n-gt0-via-else-n-gt0}

pub returns-then-is_dash : goal.returns-then-is_dash
returns-then-is_dash c = read_dash _ _ (sym c.is_dash.ensures ∙ c.if-is_dash.true)

pub returns-then-is_hex : goal.returns-then-is_hex
returns-then-is_hex c =
    read_hex _ _ _ (sym c.is_dash.ensures ∙ c.if-is_dash.false) (grind (arith, nat_tests)) c.decode.ensures

pub returns : goal.returns
returns c =
    let dash = sym c.is_dash.ensures ∙ c.if-is_dash.false in
    elim c.else-n-gt0.branch [
      | else-n-gt0-via-then-n-gt0+then-n-out+else-is_hex w ↦ read_none _ _ dash (grind (arith, nat_tests))
      | else-n-gt0-via-then-n-gt0+else-n-out w ↦ read_none _ _ dash (grind (arith, nat_tests))
      | else-n-gt0-via-else-n-gt0 w ↦ read_none _ _ dash (grind (arith, nat_tests))
    ]
