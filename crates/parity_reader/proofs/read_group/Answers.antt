-- `parity_reader::read_group` meets its contract: its tests in turn.
use Rattle.std.proofs.Common.{◌∙◌}
use Rattle.std.proofs.lemmas.Result.{err_from_is_err_and}
use Rattle.frames.specs.OutcomeLaws.{refusing_on}
use Rattle.parity_reader.specs.CallLaws.{read_7, read_12, read_21, read_rest, found_own, roomy, slotted, carried}
use Rattle.parity_reader.proofs.read_group.Goals as goal

pub returns-in_err-frames : goal.returns-in_err-frames
returns-in_err-frames c =
    let e = c.in_err-frames.ensures in
    let p = err_from_is_err_and c.from_residual.result c.from_residual.ensures.1 in
    refusing_on _ _ _ _ _ _ (read_7 _ _ _ _ _ _ e.0) (p.2 ∙ e.1) p.1

pub returns-in_err-shape : goal.returns-in_err-shape
returns-in_err-shape c =
    let e = c.in_err-shape.ensures in
    let p = err_from_is_err_and c.from_residual-in_err-shape.result c.from_residual-in_err-shape.ensures.1 in
    refusing_on _ _ _ _ _ _ (read_12 _ _ _ _ _ _ c.in_ok-frames.ensures.0 e.0) (p.2 ∙ e.1) p.1

pub returns-in_err-scanned : goal.returns-in_err-scanned
returns-in_err-scanned c =
    let d = c.in_ok-frames.ensures in
    let s = c.in_ok-shape.ensures in
    let e = c.in_err-scanned.ensures in
    let p = err_from_is_err_and c.from_residual-in_err-scanned.result c.from_residual-in_err-scanned.ensures.1 in
    refusing_on _ _ _ _ _ _ (read_21 _ _ _ _ _ _ d.0 s.0 (rw (d.1, d.2, s.1, s.2) at e.0)) (p.2 ∙ e.1) p.1

pub read_held-requires : goal.read_held-requires
read_held-requires c =
    let d = c.in_ok-frames.ensures in
    let s = c.in_ok-shape.ensures in
    (found_own _ _ _ _ _ _ c.in_ok-scanned.ensures, rw s.2 (roomy c.args.k _ _ _ _ _ d.0), slotted c.args.k _ _ _ _ _ d.0)

pub returns : goal.returns
returns c =
    let d = c.in_ok-frames.ensures in
    let s = c.in_ok-shape.ensures in
    carried _ _ _ _ _ _ _ (read_rest _ _ _ _ _ _ d.0 s.0 _ (rw (d.1, d.2, s.1, s.2) at c.in_ok-scanned.ensures))
    (rw (d.1, d.2, s.1, s.2) at c.read_held.ensures)
