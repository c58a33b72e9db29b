-- What a flush at t does with an outstanding segment. Definitions.
-- `own` is the segment's timeout, `link` the link's.
-- Assumes nothing.
use Rattle.std.specs.Prelude.{Bool, Option, None, Some, is_some, true, false, cond, ◌&&◌, ℕ, ◌+◌, ◌/◌, min, max, eqb, ltb, leb}
use Rattle.protocol.specs.Protocol.{timeout_most, dead_after, fast_most, skips_most}
use Rattle.protocol.specs.Serial.{plus, is_due}
use Rattle.protocol.specs.declared.Settings.{Settings}
use Rattle.timing.specs.declared.Record.{Record}
use Rattle.retransmission.specs.declared.Cause.{Cause}
use Rattle.retransmission.specs.declared.Cause.TheVariants.{First, Late, Fast}
use Rattle.retransmission.specs.declared.Transmission.{Transmission}

-- due = t + timeout, plus an eighth of it rounded down in mode 0
unfoldable pub first_due : ℕ → ℕ → ℕ → ℕ
first_due mode link t = cond (eqb mode 0) (plus (plus t link) (link / 8)) (plus t link)

-- never sent: timeout = link timeout
abbrev pub first_transmission : ℕ → ℕ → ℕ → Record → Record
first_transmission mode link t r = record { number = r.number; due = first_due mode link t; timeout = link; skips = r.skips }

-- mode 0 adds the larger of its own and the link timeout, mode 1 half its own, mode 2 half the link's, rounded down
-- (a mode above 2 is refused with the settings; here it counts as 2)
unfoldable pub growth : ℕ → ℕ → ℕ → ℕ
growth mode own link = cond (eqb mode 0) (max own link) (cond (eqb mode 1) (own / 2) (link / 2))

-- ending at 60,000 at most
unfoldable pub longer_timeout : ℕ → ℕ → ℕ → ℕ
longer_timeout mode own link = min timeout_most (own + growth mode own link)

-- due: the longer timeout; due = t + timeout
abbrev pub timed_out : ℕ → ℕ → ℕ → Record → Record
timed_out mode link t r =
    let timeout = longer_timeout mode r.timeout link in
    record { number = r.number; due = plus t timeout; timeout = timeout; skips = r.skips }

-- threshold above 0, skip count at least the threshold, sent at most 5 times
unfoldable pub is_skipped : ℕ → ℕ → ℕ → Bool
is_skipped threshold transmissions skips = ltb 0 threshold && leb threshold skips && leb transmissions fast_most

-- skip count 0, due = t + timeout
abbrev pub fast_transmission : ℕ → Record → Record
fast_transmission t r = record { number = r.number; due = plus t r.timeout; timeout = r.timeout; skips = 0 }

-- each sending adds one transmission, staying at 20
abbrev pub counted : ℕ → ℕ
counted transmissions = min dead_after (transmissions + 1)

-- a sending, with the record that it leaves: late where it was due, fast where it was skipped
abbrev pub sending_by : Cause → ℕ → Record → Transmission
sending_by why transmissions r = record { cause = Some why; transmissions = counted transmissions; updated = r }

-- for the first time
abbrev pub sending : ℕ → Record → Transmission
sending = sending_by First

-- whether it is sent, whether because it was due (late), and whether because it was skipped (fast)
abbrev pub is_sent : Transmission → Bool
is_sent x = is_some x.cause

abbrev pub is_by : Cause → Option Cause → Bool
is_by why None = false
is_by Late (Some Late) = true
is_by Fast (Some Fast) = true
is_by First (Some First) = true
is_by why (Some other) = false

abbrev pub is_late : Transmission → Bool
is_late x = is_by Late x.cause

abbrev pub is_fast : Transmission → Bool
is_fast x = is_by Fast x.cause

-- nothing is sent, and all stays
abbrev pub not_sent : ℕ → Record → Transmission
not_sent transmissions r = record { cause = None; transmissions = transmissions; updated = r }

-- the first that holds is used: never sent, due, skipped
unfoldable pub transmission : Settings → ℕ → ℕ → ℕ → Record → Transmission
transmission s link t transmissions r =
    cond (eqb transmissions 0)
    (sending transmissions (first_transmission s.mode link t r))
    (cond (is_due t r.due)
    (sending_by Late transmissions (timed_out s.mode link t r))
    (cond (is_skipped s.threshold transmissions r.skips)
    (sending_by Fast transmissions (fast_transmission t r))
    (not_sent transmissions r)))

-- one skip, staying at 255
abbrev pub skipped : Record → Record
skipped r = record { number = r.number; due = r.due; timeout = r.timeout; skips = min skips_most (r.skips + 1) }
