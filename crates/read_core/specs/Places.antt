-- Where the part that is shown lies in the receive pool. Definitions.
-- Assumes nothing.
use Rattle.std.specs.Prelude.{◌≡◌, cond, List, ℕ, ◌+◌, ◌≤◌}
use Rattle.protocol.specs.declared.Refusal.TheVariants.{NoMessage}
use Rattle.lists.specs.declared.Held.{Held}
use Rattle.session.specs.State.{Outcome, refused, done}
use Rattle.session.specs.Reading.{Part, readable, front_part}
use Rattle.read_core.specs.declared.Place.{Place}

-- showing, of the ready segments: checks 9
unfoldable pub front_outcome : ℕ → List Held → Outcome Part
front_outcome m ready = cond (readable ready) (done (front_part m ready)) (refused NoMessage)

-- the numbers of this part, which ends within so many bytes
pub record PlaceIs (p : Part) (size : ℕ) (r : Place) : Type 0 where
  pub start : r.start ≡ p.start
  pub count : r.count ≡ p.count
  pub within : r.start + r.count ≤ size
