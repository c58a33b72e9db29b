-- The schedule of flushes, moved on by each update and asked by each check. Definitions.
-- Assumes nothing.
use Rattle.std.specs.Prelude.{Bool, true, false, cond, ◌||◌, List, [], ◌∷◌, map, ℕ, min, pos, neg_ℤ}
use Rattle.std.specs.Int.Signed.{lt_z, le_z}
use Rattle.protocol.specs.Protocol.{clock_jump}
use Rattle.protocol.specs.Serial.{plus, minus, signed, is_due}
use Rattle.timing.specs.declared.Record.{Record}
use Rattle.schedule.specs.declared.Schedule.{Schedule}
use Rattle.schedule.specs.declared.Updated.{Updated}

-- now minus the next flush time is 10,000 or more, or less than -10,000
unfoldable pub is_astray : ℕ → ℕ → Bool
is_astray now next = le_z (pos clock_jump) (signed (minus now next)) || lt_z (signed (minus now next)) (neg_ℤ (pos clock_jump))

-- then it is set to now
unfoldable pub corrected : ℕ → ℕ → ℕ
corrected now next = cond (is_astray now next) now next

-- ---- an update

-- the first update sets the next flush time to now
unfoldable pub started : Schedule → ℕ → ℕ
started s now = cond s.made s.next now

-- the interval is added, or, where now has still reached it, the next time becomes now plus interval
unfoldable pub following : ℕ → ℕ → ℕ → ℕ
following now next interval = cond (is_due now (plus next interval)) (plus now interval) (plus next interval)

-- an update at now: if the difference is then 0 or more, the next time moves on, and the flush runs
unfoldable pub updated : Schedule → ℕ → ℕ → Updated
updated s now interval =
    let next = corrected now (started s now) in
    cond (is_due now next)
    (record { schedule = record { next = following now next interval; made = true }; flushes = true })
    (record { schedule = record { next = next; made = true }; flushes = false })

-- ---- a check

-- how far ahead of now a time is, counting forward: 0 if it is due
unfoldable pub ahead : ℕ → ℕ → ℕ
ahead now time = cond (is_due now time) 0 (minus time now)

-- when segments with these records are due
abbrev pub dues_of : List Record → List ℕ
dues_of = map (λ (r : Record). r.due)

-- how far ahead the first of these times is, at most so far
unfoldable pub earliest : ℕ → ℕ → List ℕ → ℕ
earliest now most [] = most
earliest now most (d ∷ l) = earliest now (min most (ahead now d)) l

-- a check at now names the earlier of the next flush, by the same 10,000 rule, and the first due time, at most one interval away, and
-- now itself if one is due; before the first update now
unfoldable pub named : Schedule → ℕ → ℕ → List ℕ → ℕ
named s now interval dues = cond s.made (plus now (earliest now (min interval (ahead now (corrected now s.next))) dues)) now
