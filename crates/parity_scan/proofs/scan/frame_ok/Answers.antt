-- `parity_scan::scan::frame_ok` meets its contract.
use Rattle.std.proofs.Common.{◌∙◌}
use Rattle.parity_scan.specs.ScanLaws.{frame_right, frame_short}
use Rattle.parity_scan.proofs.scan.frame_ok.Goals as goal

pub returns-then-n-lt32 : goal.returns-then-n-lt32
returns-then-n-lt32 c = frame_short _ _ _ _ c.if-n-lt32.true

pub returns : goal.returns
returns c = frame_right _ _ _ _ _ _ _ _ _ c.if-n-lt32.false c.place_in-place.ensures.0 c.group_in.ensures c.read.ensures
    c.type_at.ensures (c.from-len.ensures ∙ c.read-2.ensures)
