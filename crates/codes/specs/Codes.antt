-- What C gives and gets as plain numbers: an answer is 0 or a count, or the refusal's number below zero.
-- Assumes nothing.
use Rattle.std.specs.Prelude.{ℤ, pos, ◌-ℤ◌, ℕ, min, Err, None, Ok, Some}
use Rattle.protocol.specs.Refusals.{number_of}
use Rattle.protocol.specs.declared.Refusal.{Refusal}
use Rattle.protocol.specs.declared.Settings.{Settings}
use Rattle.answers.specs.Answers.{Answer, Count, Update, Time}

-- 0 less a refusal's number
abbrev pub number_code : ℕ → ℤ
number_code n = pos 0 -ℤ pos n

abbrev pub refusal_code : Refusal → ℤ
refusal_code r = number_code (number_of r)

-- 0 where the call is accepted
abbrev pub answer_code : Answer → ℤ
answer_code (Ok tt) = pos 0
answer_code (Err r) = refusal_code r

-- a count is told up to 2^31 - 1, which no count of a call reaches: C gets it as it is (crate `counts`)
abbrev pub size_code : ℕ → ℤ
size_code n = pos (min n 2147483647)

abbrev pub count_code : Count → ℤ
count_code (Ok n) = size_code n
count_code (Err r) = refusal_code r

-- an update that did not flush: no count, and no refusal's, whose number is a byte (crate `counts`)
abbrev pub not_yet : ℤ
not_yet = number_code 256

abbrev pub update_code : Update → ℤ
update_code (Ok None) = not_yet
update_code (Ok (Some n)) = size_code n
update_code (Err r) = refusal_code r

-- 0 where a check names a time, which is stored
abbrev pub time_code : Time → ℤ
time_code (Ok t) = pos 0
time_code (Err r) = refusal_code r

-- what is stored then; refused, what was there stays
abbrev pub time_stored : Time → ℕ → ℕ
time_stored (Ok t) was = t
time_stored (Err r) was = was

-- settings from plain numbers: one that is beyond its width becomes the largest of that width, which is out of range too
abbrev pub settings_of : ℕ → ℕ → ℕ → ℕ → ℕ → ℕ → ℕ → Settings
settings_of conv mtu mode interval threshold stream congestion =
    record {
      conv = conv;
      mtu = min mtu 65535;
      interval = min interval 65535;
      mode = min mode 255;
      threshold = min threshold 255;
      stream = min stream 255;
      congestion = min congestion 255;
    }
