-- The ranges of times: what a control block is held to, and that each number has 32 bits. Definitions.
-- Assumes nothing.
use Rattle.std.specs.Prelude.{◌⊎◌, ◌≡◌, ℕ, ◌^◌, ◌≤◌, ◌<◌}
use Rattle.protocol.specs.Protocol.{timeout_most, probe_wait_least, probe_wait_most, skips_most}
use Rattle.timing.specs.RoundTrips.{least_timeout}
use Rattle.timing.specs.declared.ProbeClock.{ProbeClock}
use Rattle.timing.specs.declared.Record.{Record}
use Rattle.timing.specs.declared.RoundTrip.{RoundTrip}

-- a timeout from the mode's least to 60,000
pub record TimeoutInRange (mode timeout : ℕ) : Type 0 where
  pub least : least_timeout mode ≤ timeout
  pub most : timeout ≤ timeout_most

-- smoothed time and variation 0 to 2^31 - 1, and the link's timeout in range
pub record RoundTripInRange (mode : ℕ) (p : RoundTrip) : Type 0 where
  pub smoothed : p.smoothed < 2 ^ 31
  pub variation : p.variation < 2 ^ 31
  pub timeout : TimeoutInRange mode p.timeout

-- probe wait 0 or 7,000 to 120,000
abbrev pub WaitInRange : ℕ → Type 0
WaitInRange wait = (wait ≡ 0) ⊎ ((probe_wait_least ≤ wait) × (wait ≤ probe_wait_most))

-- an outstanding segment's record: timeout in range, skip count at most 255
pub record RecordInRange (mode : ℕ) (r : Record) : Type 0 where
  pub timeout : TimeoutInRange mode r.timeout
  pub skips : r.skips ≤ skips_most

-- each field has 32 bits
pub record RoundTripFits (p : RoundTrip) : Type 0 where
  pub smoothed : p.smoothed < 2 ^ 32
  pub variation : p.variation < 2 ^ 32
  pub timeout : p.timeout < 2 ^ 32

pub record ClockFits (c : ProbeClock) : Type 0 where
  pub wait : c.wait < 2 ^ 32
  pub due : c.due < 2 ^ 32

pub record RecordFits (r : Record) : Type 0 where
  pub number : r.number < 2 ^ 32
  pub due : r.due < 2 ^ 32
  pub timeout : r.timeout < 2 ^ 32
  pub skips : r.skips < 2 ^ 32
