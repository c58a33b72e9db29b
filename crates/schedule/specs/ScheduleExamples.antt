-- Worked examples of updates and checks, a table of each, proved by computing both sides.
-- Assumes nothing.
use Rattle.std.specs.Prelude.{◌≡◌, refl, true, false, List, [], ◌∷◌, map, ℕ, ◌+◌, ◌-◌, ◌^◌}
use Rattle.protocol.specs.Serial.{signed, is_due}
use Rattle.schedule.specs.Schedules.{is_astray, corrected, started, following, updated, ahead, earliest, named}
use Rattle.schedule.specs.declared.Schedule.{Schedule}
use Rattle.schedule.specs.declared.Updated.{Updated}

abbrev unmade : Schedule
unmade = record { next = 0; made = false }

abbrev at : ℕ → Schedule
at next = record { next = next; made = true }

abbrev flushes : ℕ → Updated
flushes next = record { schedule = at next; flushes = true }

abbrev waits : ℕ → Updated
waits next = record { schedule = at next; flushes = false }

-- an update, and what it gives
pub record UpdateCase : Type 0 where
  pub is : Updated
  pub wanted : Updated

unfoldable pub updates : List UpdateCase
updates =
    -- the first sets the next time to now, and flushes
    record { is = updated unmade 1000 100; wanted = flushes 1100 }
    -- before the next time it waits; there it flushes
    ∷ record { is = updated (at 1100) 1099 100; wanted = waits 1100 }
    ∷ record { is = updated (at 1100) 1100 100; wanted = flushes 1200 }
    -- late by less than an interval: the interval is added
    ∷ record { is = updated (at 1100) 1199 100; wanted = flushes 1200 }
    -- where now has still reached it, now plus interval
    ∷ record { is = updated (at 1100) 1200 100; wanted = flushes 1300 }
    ∷ record { is = updated (at 1200) 1450 100; wanted = flushes 1550 }
    -- a clock that goes back: -1,500 and -10,000 wait, -10,001 starts anew
    ∷ record { is = updated (at 1550) 50 100; wanted = waits 1550 }
    ∷ record { is = updated (at 1550) (2 ^ 32 - 8450) 100; wanted = waits 1550 }
    ∷ record { is = updated (at 1550) (2 ^ 32 - 8451) 100; wanted = flushes (2 ^ 32 - 8351) }
    -- 9,999 and 10,000 past it
    ∷ record { is = updated (at 1550) 11549 5000; wanted = flushes 16549 }
    ∷ record { is = updated (at 1550) 11550 5000; wanted = flushes 16550 }
    -- times wrap
    ∷ record { is = updated (at (2 ^ 32 - 6)) 3 10; wanted = flushes 4 }
    ∷ record { is = updated (at (2 ^ 32 - 6)) 5 10; wanted = flushes 15 }
    ∷ []

pub updates_hold : map (λ (c : UpdateCase). c.is) updates ≡ map (λ (c : UpdateCase). c.wanted) updates
unfolding updates updated corrected started following is_astray is_due signed
updates_hold = refl

-- a check, and the time that it names
pub record CheckCase : Type 0 where
  pub is : ℕ
  pub wanted : ℕ

unfoldable pub checks : List CheckCase
checks =
    -- before the first update now, whatever is outstanding
    record { is = named unmade 5 100 (7 ∷ []); wanted = 5 }
    -- the next flush; at most one interval away
    ∷ record { is = named (at 1100) 1040 100 []; wanted = 1100 }
    ∷ record { is = named (at 1550) 1000 100 []; wanted = 1100 }
    -- the first due time
    ∷ record { is = named (at 1100) 1040 100 (1090 ∷ 1060 ∷ 1070 ∷ []); wanted = 1060 }
    -- now itself if one is due
    ∷ record { is = named (at 1100) 1100 100 []; wanted = 1100 }
    ∷ record { is = named (at 1100) 1040 100 (1090 ∷ 1040 ∷ []); wanted = 1040 }
    ∷ record { is = named (at 1100) 1040 100 (0 ∷ []); wanted = 1040 }
    -- a due time 2^31 ahead is not due, one that is 1 further is
    ∷ record { is = named (at 1100) 1040 100 ((1040 + 2 ^ 31) ∷ []); wanted = 1100 }
    ∷ record { is = named (at 1100) 1040 100 ((1041 + 2 ^ 31) ∷ []); wanted = 1040 }
    -- the 10,000 rule: the next flush 10,000 ahead stays, 10,001 ahead is now
    ∷ record { is = named (at 11000) 1000 5000 []; wanted = 6000 }
    ∷ record { is = named (at 11001) 1000 5000 []; wanted = 1000 }
    -- times wrap
    ∷ record { is = named (at 4) (2 ^ 32 - 6) 100 (2 ∷ []); wanted = 2 }
    ∷ []

pub checks_hold : map (λ (c : CheckCase). c.is) checks ≡ map (λ (c : CheckCase). c.wanted) checks
unfolding checks named earliest ahead corrected is_astray is_due signed
checks_hold = refl
