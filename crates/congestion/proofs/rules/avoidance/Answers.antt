-- `congestion::rules::avoidance` meets its contract.
use Rattle.congestion.specs.CongestionLaws.{raised_fits}
use Rattle.congestion.proofs.rules.avoidance.Goals as goal

pub widened-requires : goal.widened-requires
widened-requires c = (
  c.requires.window,
  rw c.raised-allowance.ensures (raised_fits c.args.c.allowance c.args.mss c.requires.allowance
      c.requires.most),
  c.requires.least,
  c.requires.most,
)
