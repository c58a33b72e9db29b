-- From now until just before the time that a check names, with no call but such updates, no update flushes and no segment falls due; and
-- that time is no sooner than it need be. From the promises of the public calls alone.
-- Definitions; the theorems are in proofs/.
-- Assumes nothing.
use Rattle.std.specs.Prelude.{◌^◌, ◌<◌}
use Rattle.lists.specs.declared.Sent.{Sent}
use Rattle.session.specs.State.{State}
use Rattle.session.specs.Decides.{All}

-- the next flush time and the due times have 32 bits
pub record Fits (s : State) : Type 0 where
  pub next : s.schedule.next < 2 ^ 32
  pub dues : All (λ (x : Sent). x.record.due < 2 ^ 32) s.sending.outstanding
