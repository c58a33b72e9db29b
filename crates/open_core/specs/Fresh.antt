-- The block of a link just opened, and what opening leaves alone. Definitions.
-- Assumes nothing.
use Rattle.std.specs.Prelude.{◌≡◌, true, List, ℕ}
use Rattle.protocol.specs.declared.Settings.{Settings}
use Rattle.timing.specs.declared.Record.{Record}
use Rattle.session.specs.Opening.{opened}
use Rattle.control.specs.declared.Link.{Link}
use Rattle.control.specs.Views.{arrays_of, state_of, counts_fit}

-- the counts are within the arrays, and the state is that of a link just opened, whatever the arrays and the lent parts hold
pub record IsFresh (c : Settings) (l : Link) : Type 0 where
  pub counts : counts_fit l ≡ true
  pub state : (records : List Record) (acks : List ℕ) → state_of l records acks ≡ opened c

-- what opening does not touch: the arrays, past their counts too
pub record OpenKeeps (l l' : Link) : Type 0 where
  pub arrays : arrays_of l' ≡ arrays_of l
