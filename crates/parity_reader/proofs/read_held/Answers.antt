-- `parity_reader::read_held` meets its contract: its tests in turn.
use Rattle.std.proofs.Common.{◌+◌, ◌≤◌, refl, sym, ◌∙◌, length, length-take-le, arith}
use Rattle.frames.specs.OutcomeLaws.{refusing, writing}
use Rattle.parity_restore.specs.RestoreLaws.{place_lost}
use Rattle.parity_found.specs.FoundLaws.{length_found}
use Rattle.parity_reader.specs.CallLaws.{within, ready, after_22, after_21, after_all}
use Rattle.parity_reader.proofs.read_held.Goals.{then-not-lens_ok-via-then-not-lens_ok, then-not-lens_ok-via-else-not-lens_ok+then-not-all_held}
use Rattle.parity_reader.proofs.read_held.Goals as goal

pub returns-then-count_held-k : goal.returns-then-count_held-k
returns-then-count_held-k c =
    let f = c.requires.0 in
    refusing _ _ _ _ (after_22 _ _ _ _ _ _ f.right f.held _ c.count_held.ensures c.if-count_held-k.true)

pub restore-requires : goal.restore-requires
restore-requires c =
    let f = c.requires.0 in
    let m = c.args.shape.small in
    let la : c.args.shape.mtu + 2 ≤ length c.blank-a.result = omega (arith, c.blank-a.ensures, m) in
    let lb : c.args.shape.mtu + 2 ≤ length c.blank-b.result = omega (arith, c.blank-b.ensures, m) in
    let za = length-take-le (c.args.shape.mtu + 2) c.blank-a.result la in
    let zb = length-take-le (c.args.shape.mtu + 2) c.blank-b.result lb in (
      c.args.shape.few,
      f.held.inside,
      within _ _ _ _ _ _ f.right f.held _ za,
      zb ∙ sym za,
      c.other_lost-first.ensures,
      c.other_lost-second.ensures,
    )

pub lens_ok-requires : goal.lens_ok-requires
lens_ok-requires c =
    let la : c.args.shape.mtu + 2 ≤ length c.blank-a.result = omega (arith, c.blank-a.ensures, c.args.shape.small) in
    ready _ c.args.scanned.group c.count_held.result _ _ _ _ _ c.requires.0 c.count_held.ensures c.if-count_held-k.false
    (place_lost _ _ c.other_lost-first.ensures) (place_lost _ _ c.other_lost-second.ensures)
    (length-take-le (c.args.shape.mtu + 2) c.blank-a.result la) c.restore.ensures refl refl

pub all_held-requires : goal.all_held-requires
all_held-requires c =
    let la : c.args.shape.mtu + 2 ≤ length c.blank-a.result = omega (arith, c.blank-a.ensures, c.args.shape.small) in (
      ready _ c.args.scanned.group c.count_held.result _ _ _ _ _ c.requires.0 c.count_held.ensures c.if-count_held-k.false
          (place_lost _ _ c.other_lost-first.ensures) (place_lost _ _ c.other_lost-second.ensures)
          (length-take-le (c.args.shape.mtu + 2) c.blank-a.result la) c.restore.ensures refl refl,
      sym c.if-not-lens_ok.ensures,
      c.requires.0.right,
    )

pub put_found-requires : goal.put_found-requires
put_found-requires c =
    let la : c.args.shape.mtu + 2 ≤ length c.blank-a.result = omega (arith, c.blank-a.ensures, c.args.shape.small) in (
      ready _ c.args.scanned.group c.count_held.result _ _ _ _ _ c.requires.0 c.count_held.ensures c.if-count_held-k.false
          (place_lost _ _ c.other_lost-first.ensures) (place_lost _ _ c.other_lost-second.ensures)
          (length-take-le (c.args.shape.mtu + 2) c.blank-a.result la) c.restore.ensures refl refl,
      sym c.if-not-lens_ok.ensures,
      c.requires.1,
      c.requires.2,
    )

pub returns-then-not-lens_ok : goal.returns-then-not-lens_ok
returns-then-not-lens_ok c =
    let f = c.requires.0 in
    refusing _ _ _ _ (after_21 _ _ _ _ _ _ f.right f.held _ c.count_held.ensures c.if-count_held-k.false
    (elim c.then-not-lens_ok.branch [
      | then-not-lens_ok-via-then-not-lens_ok w ↦ rw (← w.if-not-lens_ok.ensures) refl
      | then-not-lens_ok-via-else-not-lens_ok+then-not-all_held w ↦ rw (← w.if-not-lens_ok.ensures, ← w.if-not-all_held.ensures) refl
    ]))

pub returns : goal.returns
returns c =
    let f = c.requires.0 in
    writing _ _ _ _ _ _ _ (after_all _ _ _ _ _ _ f.right f.held _ c.count_held.ensures c.if-count_held-k.false
    (rw (← c.if-not-lens_ok.ensures, ← c.if-not-all_held.ensures) refl))
    (sym (length_found _ _)) c.put_found.ensures.bytes c.put_found.ensures.lengths
