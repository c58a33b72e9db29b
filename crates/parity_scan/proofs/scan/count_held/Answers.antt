-- `parity_scan::scan::count_held` meets its contract.
use Rattle.std.proofs.Common.{◌≡◌, ◌∙◌, take, rules}
use Rattle.std.specs.Option.{is_some}
use Rattle.std.specs.List.{count_by}
use Rattle.parity_scan.specs.HeldLaws.{count_is}
use Rattle.parity_scan.proofs.scan.count_held.Goals as goal

pub returns : goal.returns
returns c =
    let e : c.count.result ≡ count_by is_some (take c.args.n c.args.held.now) = search rules in
    e ∙ count_is c.args.held.now c.args.n (search rules)
