-- Worked examples of the congestion window, computed.
-- Assumes nothing.
use Rattle.std.specs.Prelude.{◌≡◌, refl, Bool, true, false, List, [], ◌∷◌, map, ℕ, ◌*◌}
use Rattle.congestion.specs.Congestions.{
  initial,
  used_window,
  slow_start,
  raised,
  widened,
  avoidance,
  limited,
  grown,
  halved,
  by_skips,
  by_timeout,
  at_least_one,
  after_flush,
}
use Rattle.congestion.specs.declared.Congestion.{Congestion}
use Rattle.congestion.specs.declared.Losses.{Losses}

abbrev of : ℕ → ℕ → ℕ → Congestion
of window threshold allowance = record { window = window; threshold = threshold; allowance = allowance }

-- a flush that ends with so many in flight and used this window, where 2 skips make a fast retransmission
abbrev losing : Bool → Bool → ℕ → ℕ → Losses
losing fast late inflight used = record { fast = fast; late = late; skips = 2; inflight = inflight; used = used }

pub record Case : Type 0 where
  pub is : Congestion
  pub wanted : Congestion

-- mss is 26 but in the largest values
unfoldable pub cases : List Case
cases =
    -- the first flush leaves window 1
    record { is = after_flush initial 26 (losing false false 0 0); wanted = of 1 2 26 }
    -- below the threshold one segment more; from there by the allowance
    ∷ record { is = grown (of 1 2 26) 26 128; wanted = of 2 2 52 }
    ∷ record { is = grown (of 2 2 52) 26 128; wanted = of 2 2 66 }
    ∷ record { is = grown (of 2 2 66) 26 128; wanted = of 2 2 77 }
    -- the division form: 4 segments, where an increment gives 3
    ∷ record { is = grown (of 2 2 77) 26 128; wanted = of 4 2 86 }
    -- no more than the peer's window; none where that is reached or has shrunk below
    ∷ record { is = grown (of 2 2 77) 26 3; wanted = of 3 2 78 }
    ∷ record { is = grown (of 2 2 77) 26 2; wanted = of 2 2 77 }
    ∷ record { is = grown (of 2 2 77) 26 0; wanted = of 2 2 77 }
    -- an allowance under mss counts as mss
    ∷ record { is = grown (of 2 2 0) 26 128; wanted = of 2 2 53 }
    -- the largest values
    ∷ record { is = grown (of 65534 16 (65535 * 1376)) 1376 65535; wanted = of 65535 16 (65535 * 1376) }
    -- loss by skips: half of what is in flight, 2 at least, and 2 more
    ∷ record { is = after_flush (of 20 2 520) 26 (losing true false 10 20); wanted = of 7 5 182 }
    ∷ record { is = after_flush (of 20 2 520) 26 (losing true false 3 20); wanted = of 4 2 104 }
    -- by timeout: half of the window used; where both come, the timeout's values are left
    ∷ record { is = after_flush (of 20 2 520) 26 (losing false true 10 32); wanted = of 1 16 26 }
    ∷ record { is = after_flush (of 20 2 520) 26 (losing true true 10 3); wanted = of 1 2 26 }
    -- no loss
    ∷ record { is = after_flush (of 20 2 520) 26 (losing false false 10 20); wanted = of 20 2 520 }
    ∷ []

pub cases_hold : map (λ (c : Case). c.is) cases ≡ map (λ (c : Case). c.wanted) cases
unfolding cases slow_start raised widened avoidance limited grown halved by_skips by_timeout at_least_one after_flush
cases_hold = refl

-- the window used: with the setting off; on at the first flush; the peer's; this one; 32
pub used_hold : (used_window false 128 0 ∷ used_window true 128 0 ∷ used_window true 5 9 ∷ used_window true 128 7 ∷ used_window true 128 40 ∷ [])
    ≡ (32 ∷ 0 ∷ 5 ∷ 7 ∷ 32 ∷ [])
unfolding used_window
used_hold = refl
