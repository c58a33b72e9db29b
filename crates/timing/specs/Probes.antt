-- The probe clock, moved on by each flush before it writes. Definitions.
-- Assumes nothing.
use Rattle.std.specs.Prelude.{true, false, cond, ℕ, ◌+◌, ◌/◌, min, eqb, ltb}
use Rattle.protocol.specs.Protocol.{probe_wait_least, probe_wait_most}
use Rattle.protocol.specs.Serial.{plus, is_due}
use Rattle.timing.specs.declared.ProbeClock.{ProbeClock}
use Rattle.timing.specs.declared.Probed.{Probed}

-- wait and due become 0
abbrev pub stopped : ProbeClock
stopped = record { wait = 0; due = 0 }

-- wait 7,000, due t + 7,000
abbrev pub started : ℕ → ProbeClock
started t = record { wait = probe_wait_least; due = plus t probe_wait_least }

-- the wait grows by half, rounded down, to 120,000 at most
unfoldable pub longer_wait : ℕ → ℕ
longer_wait wait = min probe_wait_most (wait + wait / 2)

-- due t + wait
abbrev pub grown : ℕ → ℕ → ProbeClock
grown wait t = record { wait = longer_wait wait; due = plus t (longer_wait wait) }

-- the clock c after a flush at t that finds this window of the peer, and whether an ask is wanted.
-- Peer window above 0: stopped. Peer window 0 and wait 0: started. Later, if due: grown, and an ask is wanted.
unfoldable pub next_clock : ProbeClock → ℕ → ℕ → Probed
next_clock c t window =
    cond (ltb 0 window)
    (record { clock = stopped; ask = false })
    (cond (eqb c.wait 0)
    (record { clock = started t; ask = false })
    (cond (is_due t c.due)
    (record { clock = grown c.wait t; ask = true })
    (record { clock = c; ask = false })))
