-- A segment as the sending half hears it: which numbers stay outstanding, the round trip, and a skip of a record. Definitions.
-- Assumes nothing.
use Rattle.std.specs.Prelude.{◌≡◌, Bool, true, false, cond, not, ℕ, ◌^◌, ◌≤◌, ◌<◌, eqb}
use Rattle.protocol.specs.Protocol.{ack, send_window}
use Rattle.protocol.specs.Serial.{minus, is_before, is_due}
use Rattle.protocol.specs.declared.Settings.{Settings}
use Rattle.wire.specs.declared.Header.{Header}
use Rattle.timing.specs.RoundTrips.{sampled}
use Rattle.timing.specs.declared.Record.{Record}
use Rattle.timing.specs.declared.RoundTrip.{RoundTrip}
use Rattle.retransmission.specs.Transmissions.{skipped}
use Rattle.session.specs.Input.{acknowledges}

-- the segment does not acknowledge the number
abbrev pub stays_by : ℕ → Header → ℕ → Bool
stays_by next h n = not (acknowledges next h n)

-- r is false only where a segment acknowledges no number from una on that is before next, these two at most 32 apart
pub record Concerns (h : Header) (una next : ℕ) (r : Bool) : Type 0 where
  pub none : r ≡ false → minus next una ≤ send_window → (n : ℕ) → n < 2 ^ 32 → minus n una < minus next una → stays_by next h n ≡ true

-- an ack brings a sample if current - ts is 0 or more
unfoldable pub timed_by : Settings → ℕ → Header → RoundTrip → RoundTrip
timed_by c current h rtt = cond (eqb h.cmd ack) (cond (is_due current h.ts) (sampled rtt c (minus current h.ts)) rtt) rtt

-- the record of a segment before n gets one skip
unfoldable pub skip_record : ℕ → Record → Record
skip_record n r = cond (is_before r.number n) (skipped r) r
