-- `script::parse` meets its contract: the first word is the name, and what is behind it is bytes or numbers.
use Rattle.std.proofs.Common.{◌∙◌, sym, arith}
use Rattle.script.specs.declared.Command.TheVariants as command
use Rattle.script.specs.Commands.{word}
use Rattle.script.specs.ParsedLaws.{mapped, parsed_long, parsed_unnamed, parsed_numbers, parsed_send, parsed_input}
use Rattle.script.specs.NameLaws.{unnamed, bytes_each, bytes_front}
use Rattle.script.proofs.parse.Goals as goal

pub returns-then-line-gt-LINE_MOST : goal.returns-then-line-gt-LINE_MOST
returns-then-line-gt-LINE_MOST c = parsed_long _ _ c.if-line-gt-LINE_MOST.true

pub returns-in_err-name : goal.returns-in_err-name
returns-in_err-name c =
    let line = c.args.line.now in
    let bytes = bytes_front 32 line (bytes_each line (λ i. omega (arith, c.type_inv.line i))) in
    let none = unnamed (word line) bytes (rw c.split_before.ensures.0 at c.in_err-name.ensures) in
    rw c.from_residual.ensures (parsed_unnamed _ _ c.if-line-gt-LINE_MOST.false none)

pub returns-in-Send : goal.returns-in-Send
returns-in-Send c =
    let word = sym c.split_before.ensures.0 ∙ c.in_ok-name.ensures in
    let read = parsed_send _ _ c.if-line-gt-LINE_MOST.false _ _ (rw c.in-Send.is at word)
    (rw c.split_before.ensures.1 at c.bytes_behind.ensures) in
    rw (mapped command.Send c.bytes_behind.result c.map.result c.map.ensures.cases) read

pub returns-in-Input : goal.returns-in-Input
returns-in-Input c =
    let word = sym c.split_before.ensures.0 ∙ c.in_ok-name.ensures in
    let read = parsed_input _ _ c.if-line-gt-LINE_MOST.false _ _ (rw c.in-Input.is at word)
    (rw c.split_before.ensures.1 at c.bytes_behind-in-Input.ensures) in
    rw (mapped command.Input c.bytes_behind-in-Input.result c.map-in-Input.result c.map-in-Input.ensures.cases) read

pub returns-in_default : goal.returns-in_default
returns-in_default c =
    let word = sym c.split_before.ensures.0 ∙ c.in_ok-name.ensures in
    parsed_numbers _ _ c.if-line-gt-LINE_MOST.false _ _ word c.in_default.not-Send c.in_default.not-Input
    (rw c.split_before.ensures.1 at c.with_numbers.ensures)
