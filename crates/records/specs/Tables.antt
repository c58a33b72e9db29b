-- The lent table of records: what is gathered from it, and what is put back. Definitions.
-- Assumes nothing.
use Rattle.std.specs.Prelude.{List, [], ◌∷◌, ◌++◌, map, ℕ, ◌-◌, ◌%◌, min, length, get_or, set, take, replicate}
use Rattle.timing.specs.declared.Record.{Record}
use Rattle.lists.specs.declared.Outstanding.{Outstanding}

-- the record of a slot that the table does not have
abbrev pub blank : Record
blank = record { number = 0; due = 0; timeout = 0; skips = 0 }

-- the send slots of outstanding segments
abbrev pub slots_of : List Outstanding → List ℕ
slots_of = map (λ o. o.held.slot)

-- the slots of the first n words of an array of 32
abbrev pub slots_in : List ℕ → ℕ → List ℕ
slots_in words n = map (λ w. w % 256) (take (min n 32) words)

-- the records at these slots, in their order
abbrev pub gathered : List Record → List ℕ → List Record
gathered table = map (λ s. get_or table s blank)

-- a list of records, and blank ones up to 32
abbrev pub padded : List Record → List Record
padded l = l ++ replicate (32 - length l) blank

-- the table with each record stored at its slot, one after the other
unfoldable pub scattered : List Record → List ℕ → List Record → List Record
scattered table [] records = table
scattered table (s ∷ slots) [] = table
scattered table (s ∷ slots) (r ∷ records) = scattered (set table s r) slots records
