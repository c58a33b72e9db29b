-- `parity_scan::scan::scan` meets its contract: the first frame's group.
use Rattle.std.proofs.Common.{refl, arith, rules, ◌≤◌, length, length-take-le}
use Rattle.parity_scan.specs.ScanLaws.{first_none, first_is, first_within, first_short}
use Rattle.parity_scan.proofs.scan.scan.Goals as goal

pub returns-in_default : goal.returns-in_default
returns-in_default c = rw (first_none _ _ _ c.in_default.ensures.value) c.scan_from.ensures

pub returns-then-size-lt32 : goal.returns-then-size-lt32
returns-then-size-lt32 c =
    (first_short _ _ _ _ _ _ _ c.args.frames.whole c.in-Some.ensures.value c.from-size.ensures c.if-size-lt32.true, refl)

pub slice_bounds-group_in-end : goal.slice_bounds-group_in-end
slice_bounds-group_in-end c =
    let w = first_within _ _ _ _ c.args.frames.whole c.in-Some.ensures.value c.from-size.ensures in
    search rules

pub group_in-requires : goal.group_in-requires
group_in-requires c =
    let w : c.from-size.result ≤ length c.args.frames.bytes.now =
    first_within _ _ _ _ c.args.frames.whole c.in-Some.ensures.value c.from-size.ensures in
    (rw length-take-le (omega arith), c.args.shape.few)

pub returns : goal.returns
returns c = rw (first_is _ _ _ _ _ _ c.in-Some.ensures.value c.from-size.ensures c.group_in.ensures) c.scan_from-2.ensures
