-- What a sample of the round trip does to the smoothed time, the variation and the timeout. Definitions.
-- Divisions round down.
-- Assumes nothing.
use Rattle.std.specs.Prelude.{cond, ℕ, ◌+◌, ◌-◌, ◌*◌, ◌/◌, min, max, eqb}
use Rattle.protocol.specs.Protocol.{timeout_most, timeout_least, timeout_least_fast}
use Rattle.protocol.specs.declared.Settings.{Settings}
use Rattle.timing.specs.declared.RoundTrip.{RoundTrip}

-- |a - b|
abbrev pub distance : ℕ → ℕ → ℕ
distance a b = (a - b) + (b - a)

-- a sample r with smoothed time 0 sets smoothed r; otherwise smoothed = (7 smoothed + r)/8, at least 1
unfoldable pub next_smoothed : ℕ → ℕ → ℕ
next_smoothed smoothed r = cond (eqb smoothed 0) r (max 1 ((7 * smoothed + r) / 8))

-- a sample r with smoothed time 0 sets variation r/2; otherwise variation = (3 variation + |r - smoothed|)/4, by the old smoothed time
unfoldable pub next_variation : ℕ → ℕ → ℕ → ℕ
next_variation smoothed variation r = cond (eqb smoothed 0) (r / 2) ((3 * variation + distance r smoothed) / 4)

-- the least timeout: 100 (mode 0) or 30 (modes 1, 2)
unfoldable pub least_timeout : ℕ → ℕ
least_timeout mode = cond (eqb mode 0) timeout_least timeout_least_fast

-- timeout = smoothed + max(interval, 4 variation), held between the mode's least and 60,000
unfoldable pub timeout_of : Settings → ℕ → ℕ → ℕ
timeout_of s smoothed variation = min timeout_most (max (least_timeout s.mode) (smoothed + max s.interval (4 * variation)))

-- the round trip p after the sample r; the timeout is by the new smoothed time and variation
unfoldable pub sampled : RoundTrip → Settings → ℕ → RoundTrip
sampled p s r =
    let smoothed = next_smoothed p.smoothed r in
    let variation = next_variation p.smoothed p.variation r in
    record { smoothed = smoothed; variation = variation; timeout = timeout_of s smoothed variation }
