-- `congestion::rules::by_skips` meets its contract.
use Prim.Native.Nat.{◌+◌}
use native.Mathlib.Omega.{arith}
use Rattle.congestion.specs.CongestionLaws.{halved_most, product_fits}
use Rattle.congestion.proofs.rules.by_skips.Goals as goal

pub overflow_add-window : goal.overflow_add-window
overflow_add-window c = record { fits = omega (arith, halved_most _ c.requires.inflight) }

pub overflow_mul-result : goal.overflow_mul-result
overflow_mul-result c =
    record {
      fits =
          omega (
            arith,
            product_fits
                (c.halved-threshold.result + c.from.result)
                c.args.mss
                (omega (arith, c.halved-threshold.ensures, halved_most _ c.requires.inflight))
                c.requires.most,
          );
    }
