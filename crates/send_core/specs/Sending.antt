-- What the checks of 7 and 13 have established for sending, and what sending leaves alone. Definitions.
-- Assumes nothing.
use Rattle.std.specs.Prelude.{◌≡◌, true, List, ℕ, ◌*◌, ◌≤◌, length}
use Rattle.protocol.specs.Protocol.{send_slots}
use Rattle.protocol.specs.Ranges.{mss}
use Rattle.timing.specs.declared.Record.{Record}
use Rattle.control.specs.declared.Link.{Link}
use Rattle.checking.specs.Verdicts.{Checked}

-- with these records the block is one that this link makes, the marks tell its free send slots, and the pool has all of them
pub record Sendable (l : Link) (records : List Record) (marks pool : List ℕ) : Type 0 where
  pub checked : (receive : List ℕ) × Checked l records marks receive true
  pub whole : length records ≡ 32
  pub slots : send_slots * mss l.settings ≤ length pool

-- what sending does not touch, past the counts too: all but the sending half's numbers and the queued words
pub record SendKeeps (l l' : Link) : Type 0 where
  pub settings : l'.settings ≡ l.settings
  pub arrival : l'.arrival ≡ l.arrival
  pub clock : l'.clock ≡ l.clock
  pub outstanding : l'.outstanding ≡ l.outstanding
  pub transmissions : l'.transmissions ≡ l.transmissions
  pub ready : l'.ready ≡ l.ready
  pub waiting : l'.waiting ≡ l.waiting
  pub waiting_numbers : l'.waiting_numbers ≡ l.waiting_numbers
