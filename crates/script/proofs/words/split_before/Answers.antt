-- `script::words::split_before` meets its contract.
use Rattle.std.proofs.Common.{◌≡◌, ◌∙◌, length, eqb, rules, tests}
use Rattle.std.proofs.lemmas.Iterator.{YieldsList-from_slice}
use Rattle.std.proofs.lemmas.Iterator.Search.{position_from_yields_List}
use Rattle.script.specs.Commands.{up_to}
use Rattle.script.specs.CommandLaws.{up_to_found, up_to_front}
use Rattle.script.proofs.words.split_before.Goals as goal

pub returns : goal.returns
returns c =
    let s = c.args.s.now in
    let stop = c.args.stop in
    let found = position_from_yields_List (λ x. eqb x stop) _ _ c.position.result c.position.ensures.ran
    (YieldsList-from_slice s cc) (λ x b q k. search (rules, tests)) in
    let end : c.unwrap_or-end.result ≡ length (up_to stop s) = c.unwrap_or-end.ensures ∙ up_to_found stop s _ found in
    (c.split_at.ensures.front ∙ rw end (up_to_front stop s), c.split_at.ensures.back ∙ rw end)
