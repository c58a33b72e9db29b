-- `parity_restore::restore` meets its contract: none lost, one, or two.
use Rattle.std.proofs.Common.{◌<◌, ℕ, sym, ap, ◌∙◌, subst}
use Rattle.parity_restore.specs.Restored.{place}
use Rattle.parity_restore.specs.RestoreLaws.{lost_some, other_lt, other_apart}
use Rattle.parity_restore.proofs.restore.Goals as goal

pub solve_two-requires : goal.solve_two-requires
solve_two-requires c =
    let r = c.requires in
    let i = lost_some _ _ (sym c.in-Some-Some.is-0 ∙ r.4) in
    let j = lost_some _ _ (sym c.in-Some-Some.is-1 ∙ r.5) in (
      r.0,
      r.1,
      r.2,
      r.3,
      subst (λ (n : ℕ). n < 10) (sym i.0) (other_lt _ _ _ r.0 i.1),
      subst (λ (n : ℕ). n < 10) (sym j.0) (other_lt _ _ _ r.0 j.1),
      λ q. other_apart _ _ _ j.1 (sym j.0 ∙ sym q ∙ sym (ap place c.in-Some-Some.is-0)),
    )
