-- `parity_restore::other_lost` meets its contract: the places passed, from the last on, are held, or are i.
use Rattle.std.proofs.Common.{◌≡◌}
use Rattle.frames.specs.Lists.{other}
use Rattle.parity_scan.specs.Held.{sized}
use Rattle.parity_restore.specs.Restored.{place}
use Rattle.parity_restore.proofs.other_lost.Given as goal

abbrev pub invariant-loop-p : goal.invariant-loop-p
invariant-loop-p l = other (sized l.held) (place l.i) l.k ≡ other (sized l.held) (place l.i) l.p
