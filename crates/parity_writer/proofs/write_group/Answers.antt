-- `parity_writer::write_group` meets its contract: its tests in turn, and the group.
use Rattle.std.proofs.Common.{ℕ, ◌+◌, ap, ◌∙◌}
use Rattle.std.proofs.lemmas.Result.{err_from_is_err_and}
use Rattle.frames.specs.OutcomeLaws.{refusing, refusing_on, writing}
use Rattle.parity_writer.specs.CallLaws.{right, wrong_count, wrong_lengths, write_7, write_12, write_21, write_23, write_all, group_count, fits_all}
use Rattle.parity_writer.proofs.write_group.Goals.{then-lengths-shape-via-then-lengths-shape, then-lengths-shape-via-else-lengths-shape+then-not-lengths_ok}
use Rattle.parity_writer.proofs.write_group.Goals as goal

pub returns-in_err-datagrams : goal.returns-in_err-datagrams
returns-in_err-datagrams c =
    let e = c.in_err-datagrams.ensures in
    let p = err_from_is_err_and c.from_residual.result c.from_residual.ensures.1 in
    refusing_on _ _ _ _ _ _ (write_7 _ _ _ _ _ _ _ e.0) (p.2 ∙ e.1) p.1

pub returns-in_err-shape : goal.returns-in_err-shape
returns-in_err-shape c =
    let e = c.in_err-shape.ensures in
    let p = err_from_is_err_and c.from_residual-in_err-shape.result c.from_residual-in_err-shape.ensures.1 in
    refusing_on _ _ _ _ _ _ (write_12 _ _ _ _ _ _ _ c.in_ok-datagrams.ensures.0 e.0) (p.2 ∙ e.1) p.1

pub returns-then-lengths-shape : goal.returns-then-lengths-shape
returns-then-lengths-shape c =
    let s = c.in_ok-shape.ensures in
    refusing _ _ _ _ (write_21 _ _ _ _ _ _ _ c.in_ok-datagrams.ensures.0 s.0 (elim c.then-lengths-shape.branch [
      | then-lengths-shape-via-then-lengths-shape w ↦ wrong_count _ _ _ _ _ s.1 s.2 w.if-lengths-shape.true
      | then-lengths-shape-via-else-lengths-shape+then-not-lengths_ok w ↦
          wrong_lengths _ _ _ _ _ s.1 s.2 w.if-lengths-shape.false w.if-not-lengths_ok.ensures
    ]))

pub returns-then-start-ge-GROUPS_END : goal.returns-then-start-ge-GROUPS_END
returns-then-start-ge-GROUPS_END c =
    let s = c.in_ok-shape.ensures in
    let r = right _ _ _ _ _ s.1 s.2 c.if-lengths-shape.false c.if-not-lengths_ok.ensures in
    refusing _ _ _ _ (write_23 _ _ _ _ _ _ _ c.in_ok-datagrams.ensures.0 s.0 r (rw (← c.from.ensures, ← c.from-2.ensures) c.if-start-ge-GROUPS_END.true))

pub put_group-requires : goal.put_group-requires
put_group-requires c =
    let s = c.in_ok-shape.ensures in
    let d = c.in_ok-datagrams.ensures in
    let r = right _ _ _ _ _ s.1 s.2 c.if-lengths-shape.false c.if-not-lengths_ok.ensures in
    rw (d.1, d.2) (fits_all c.args.group _ _ _ _ _ _ _ c.if-start-ge-GROUPS_END.false d.0 s.0 r)

pub returns : goal.returns
returns c =
    let s = c.in_ok-shape.ensures in
    let d = c.in_ok-datagrams.ensures in
    let r = right _ _ _ _ _ s.1 s.2 c.if-lengths-shape.false c.if-not-lengths_ok.ensures in
    writing _ _ _ _ _ _ _
    (write_all _ _ _ _ _ _ _ d.0 s.0 r (rw (← c.from.ensures, ← c.from-2.ensures) c.if-start-ge-GROUPS_END.false))
    (ap (λ (n : ℕ). n + 2) s.1 ∙ group_count _ _ _ _ _ 0 0 r)
    (rw (d.1, d.2, c.from.ensures, c.from-2.ensures) at c.put_group.ensures.bytes)
    (rw (d.1, d.2, c.from.ensures, c.from-2.ensures) at c.put_group.ensures.lengths)
