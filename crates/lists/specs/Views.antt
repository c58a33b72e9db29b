-- What the lists of the control block hold. Definitions.
-- Assumes nothing.
use Rattle.std.specs.Prelude.{◌≡◌, List, ℕ, ◌≤◌, ◌/◌, ◌%◌, take}
use Rattle.lists.specs.declared.Held.{Held}
use Rattle.lists.specs.declared.Waiting.{Waiting}
use Rattle.lists.specs.declared.Outstanding.{Outstanding}
use Rattle.lists.specs.declared.Sent.{Sent}
use Rattle.lists.specs.declared.Listed.{Listed}

-- a held segment as one word of 32 bits: slot and fragment number of 8 bits, length of 16 bits
abbrev pub unpack : ℕ → Held
unpack w = record { slot = w % 256; len = w / 65536; fragment = w / 256 % 256 }

-- the front of an array, up to a count: what stands past it is not state
abbrev pub list_of : {A : Type 0} → List A → ℕ → List A
list_of at count = take count at

abbrev pub held_of : Listed Held 128 → List Held
held_of s = list_of s.at s.count

abbrev pub waiting_of : Listed Waiting 128 → List Waiting
waiting_of s = list_of s.at s.count

abbrev pub outstanding_of : Listed Outstanding 32 → List Outstanding
outstanding_of s = list_of s.at s.count

-- the segment as its slot holds it
abbrev pub waiting_part : Waiting → Held
waiting_part w = w.held

abbrev pub outstanding_part : Outstanding → Held
outstanding_part o = o.held

abbrev pub sent_part : Sent → Held
sent_part s = s.held

-- the count is within the array's size, and the list is l
pub record Holds {A : Type 0} (size : ℕ) (at : List A) (count : ℕ) (l : List A) : Type 0 where
  pub fits : count ≤ size
  pub list : list_of at count ≡ l

abbrev pub HeldIs : Listed Held 128 → List Held → Type 0
HeldIs s = Holds 128 s.at s.count

abbrev pub WaitingIs : Listed Waiting 128 → List Waiting → Type 0
WaitingIs s = Holds 128 s.at s.count

abbrev pub OutstandingIs : Listed Outstanding 32 → List Outstanding → Type 0
OutstandingIs s = Holds 32 s.at s.count
