-- What calls answer: that they are done, with a count or a time where they have one, or why they are refused. Definitions.
-- Assumes nothing.
use Rattle.std.specs.Prelude.{ℕ, Result, Option}
use Rattle.protocol.specs.declared.Refusal.{Refusal}

-- of opening, sending and taking in
abbrev pub Answer : Type 0
Answer = Result Unit Refusal

-- of a flush (datagrams written), of reading and of telling the size (bytes of the message)
abbrev pub Count : Type 0
Count = Result ℕ Refusal

-- of an update: `None` where it does not flush, else the datagrams that its flush wrote, which may be none
abbrev pub Update : Type 0
Update = Result (Option ℕ) Refusal

-- of a check: the time at which the next update is wanted
abbrev pub Time : Type 0
Time = Result ℕ Refusal
