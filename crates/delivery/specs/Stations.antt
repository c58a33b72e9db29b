-- Stations that demand 3 speaks of: opened, and observed after calls. Definitions.
-- Assumes nothing.
use Rattle.std.specs.Prelude.{◌≡◌, true, List}
use Rattle.protocol.specs.Ranges.{mss}
use Rattle.protocol.specs.declared.Settings.{Settings}
use Rattle.sizes.specs.Sizes.{enough_to_flush}
use Rattle.session.specs.Opening.{opened}
use Rattle.session.specs.Calls.{Station, Call, lengths_of, step, history, after}
use Rattle.delivery.specs.Claims.{Observed}

-- a station after an accepted opening: its parts are as long as document 01 states and hold any bytes
pub record Opened (c : Settings) (s : Station) : Type 0 where
  pub state : s.state ≡ opened c
  pub long : enough_to_flush (mss c) (lengths_of s) s.lent.output s.lent.lengths ≡ true

-- a station after these calls
abbrev pub observed : Station → List Call → Observed
observed s calls =
    record {
      calls = calls;
      events = history s calls;
      NextRead = λ room a. (step (after s calls) (Call.read room)).answer ≡ a;
      expected = (after s calls).state.receiving.next;
    }
