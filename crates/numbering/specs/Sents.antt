-- The outstanding segments of a block's arrays, with their records. Definitions.
-- Assumes nothing.
use Rattle.std.specs.Prelude.{◌≡◌, List, ℕ, ◌≤◌, length}
use Rattle.timing.specs.declared.Record.{Record}
use Rattle.lists.specs.declared.Sent.{Sent}
use Rattle.lists.specs.Joining.{joined}
use Rattle.words.specs.Words.{outstanding_in}

-- those of the first n words and transmissions, each with the record at its index
abbrev pub sent_in : List ℕ → List ℕ → List Record → ℕ → List Sent
sent_in words transmissions records n = joined (outstanding_in words transmissions n) records

-- arrays of 32, and one of 32 records, whose first segments, up to the count and with their records, are l
pub record SentFront (words transmissions : List ℕ) (records : List Record) (count : ℕ) (l : List Sent) : Type 0 where
  pub whole : length words ≡ 32
  pub wholes : length transmissions ≡ 32
  pub whole_records : length records ≡ 32
  pub fits : count ≤ 32
  pub list : sent_in words transmissions records count ≡ l
