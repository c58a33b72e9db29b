-- `read_message`: the message is taken where there is room for it.
use Rattle.deliver.proofs.Sizes.{fitting_fits}
use Rattle.read_core.proofs.read_message.Goals as goal

pub take-requires : goal.take-requires
take-requires c =
    let p = c.requires in
    (p.0, p.1, p.2, (fitting_fits _ _ _ c.in_ok-size.ensures).0)
