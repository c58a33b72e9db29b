-- Outstanding segments with their records, and apart from them. Definitions.
-- Assumes nothing.
use Rattle.std.specs.Prelude.{◌≡◌, List, [], ◌∷◌, ◌≤◌}
use Rattle.lists.specs.declared.Outstanding.{Outstanding}
use Rattle.lists.specs.declared.Sent.{Sent}
use Rattle.timing.specs.declared.Record.{Record}
use Rattle.lists.specs.declared.Listed.{Listed}
use Rattle.lists.specs.Views.{outstanding_of}

abbrev pub with_record : Outstanding → Record → Sent
with_record o r = record { held = o.held; transmissions = o.transmissions; «record» = r }

-- each segment with the record at its index
unfoldable pub joined : List Outstanding → List Record → List Sent
joined [] rs = []
joined (o ∷ l) [] = []
joined (o ∷ l) (r ∷ rs) = with_record o r ∷ joined l rs

abbrev pub without_record : Sent → Outstanding
without_record s = record { held = s.held; transmissions = s.transmissions }

abbrev pub record_of : Sent → Record
record_of s = s.record

-- there are at most 32, and each with the record at its index they are l
pub record JoinedIs (o : Listed Outstanding 32) (records : List Record) (l : List Sent) : Type 0 where
  pub fits : o.count ≤ 32
  pub list : joined (outstanding_of o) records ≡ l
