-- `replay::line_end` meets its contract: the first line of what is left.
use Rattle.std.proofs.Common.{◌≡◌, ◌∙◌, ap, ℕ, ◌+◌, ◌-◌, length, take, drop, take_all, length-drop, arith}
use Rattle.script.specs.Commands.{first_line}
use Rattle.script.specs.CommandLaws.{up_to_short}
use Rattle.replay.proofs.line_end.Goals as goal

pub returns : goal.returns
returns c =
    let s = c.args.script.now in
    let from = c.args.from in
    let rest : take (length s - from) (drop from s) ≡ drop from s =
    take_all (length s - from) (drop from s) (omega (arith, length-drop from s)) in
    let line = ap length (c.split_before.ensures.0 ∙ ap first_line rest) in
    (ap (λ (k : ℕ). from + k) line, omega arith, omega (arith, line, up_to_short 10 (drop from s), length-drop from s))
