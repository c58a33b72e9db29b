-- What owning an array of records tells of the numbers of outstanding segments.
-- Assumes nothing.
use mathlib.Core.List.{List, [], ◌∷◌}
use Prim.Native.Nat.{ℕ, suc, ◌^◌, ◌<◌}
use native.Mathlib.Omega.{arith}
use lib.ListN.{length, get_or}
use Rattle.timing.specs.declared.Record.{Record}
use Rattle.records.specs.Tables.{blank}
use Rattle.lists.specs.Joining.{joined}
use Rattle.lists.specs.declared.Outstanding.{Outstanding}
use Rattle.session.specs.Decides.{All}
use Rattle.session.specs.SendOrder.{NumberFits}

-- what holds at each index holds of all
all_at : (l : List Record) → ((k : ℕ) → k < length l → (get_or l k blank).number < 2 ^ 32) → All (λ (r : Record). r.number < 2 ^ 32) l
all_at [] h = tt
all_at (r ∷ l) h = (h 0 (omega arith), all_at l (λ k i. h (suc k) (omega (arith, i))))

all_joined : (os : List Outstanding) (rs : List Record) → All (λ (r : Record). r.number < 2 ^ 32) rs → All NumberFits (joined os rs)
unfolding joined
all_joined [] rs a = tt
all_joined (o ∷ os) [] a = tt
all_joined (o ∷ os) (r ∷ rs) a = (a.0, all_joined os rs a.1)

pub sent_owned : (os : List Outstanding) (rs : List Record) → ((k : ℕ) → k < length rs → (get_or rs k blank).number < 2 ^ 32)
    → All NumberFits (joined os rs)
sent_owned os rs h = all_joined os rs (all_at rs h)
