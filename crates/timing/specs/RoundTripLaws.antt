-- Laws of `RoundTrips`: what a sample leaves is in range.
-- Assumes nothing.
use Rattle.std.specs.Prelude.{ℕ, ◌^◌, ◌≤◌, ◌<◌, eqb}
use Rattle.std.proofs.Common.{arith}
use Rattle.protocol.specs.Protocol.{timeout_most, timeout_first}
use Rattle.protocol.specs.declared.Settings.{Settings}
use Rattle.timing.specs.Choices.{either_way}
use Rattle.timing.specs.RoundTrips.{next_smoothed, next_variation, least_timeout, timeout_of, sampled}
use Rattle.timing.specs.TimeRanges.{TimeoutInRange, RoundTripInRange, RoundTripFits}
use Rattle.timing.specs.declared.RoundTrip.{RoundTrip}

-- below any limit that is above 1: at 2^31 for a control block, at 2^32 for 32 bits
pub smoothed_below : (n smoothed r : ℕ) → 1 < n → smoothed < n → r < n → next_smoothed smoothed r < n
unfolding next_smoothed
smoothed_below n smoothed r one h k = either_way (λ x. x < n) (eqb smoothed 0) k (omega arith)

pub variation_below : (n smoothed variation r : ℕ) → smoothed < n → variation < n → r < n → next_variation smoothed variation r < n
unfolding next_variation
variation_below n smoothed variation r h v k = either_way (λ x. x < n) (eqb smoothed 0) (omega arith) (omega arith)

-- every mode's least timeout is at most the longest
pub least_most : (mode : ℕ) → least_timeout mode ≤ timeout_most
unfolding least_timeout
least_most mode = either_way (λ x. x ≤ timeout_most) (eqb mode 0) (omega arith) (omega arith)

-- the timeout at opening is in range in every mode
pub first_timeout_in_range : (mode : ℕ) → TimeoutInRange mode timeout_first
unfolding least_timeout
first_timeout_in_range mode = record {
  least = either_way (λ x. x ≤ timeout_first) (eqb mode 0) (omega arith) (omega arith);
  most = omega arith;
}

pub timeout_in_range : (s : Settings) (smoothed variation : ℕ) → TimeoutInRange s.mode (timeout_of s smoothed variation)
unfolding timeout_of
timeout_in_range s smoothed variation = record { least = omega (arith, least_most s.mode); most = omega arith }

pub sampled_in_range : (p : RoundTrip) (s : Settings) (r : ℕ) → p.smoothed < 2 ^ 31 → p.variation < 2 ^ 31 → r < 2 ^ 31
    → RoundTripInRange s.mode (sampled p s r)
unfolding sampled
sampled_in_range p s r h v k = record {
  smoothed = smoothed_below (2 ^ 31) p.smoothed r (omega arith) h k;
  variation = variation_below (2 ^ 31) p.smoothed p.variation r h v k;
  timeout = timeout_in_range s _ _;
}

pub sampled_fits : (p : RoundTrip) (s : Settings) (r : ℕ) → RoundTripFits p → r < 2 ^ 32 → RoundTripFits (sampled p s r)
unfolding sampled
sampled_fits p s r f k = record {
  smoothed = smoothed_below (2 ^ 32) p.smoothed r (omega arith) f.smoothed k;
  variation = variation_below (2 ^ 32) p.smoothed p.variation r f.smoothed f.variation k;
  timeout = omega (arith, (timeout_in_range s (next_smoothed p.smoothed r) (next_variation p.smoothed p.variation r)).most);
}
