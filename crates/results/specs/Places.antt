-- Where the part that is shown lies, as C gets it. Definition.
-- Assumes nothing.
use Rattle.std.specs.Prelude.{◌≡◌, ℕ, length}
use Rattle.control.specs.declared.Link.{Link}
use Rattle.promises.specs.Parts.{Parts}
use Rattle.promises.specs.Outcomes.{shows}
use Rattle.read_core.specs.declared.Place.{Place}
use Rattle.promises.specs.Promises.{place_of}
use Rattle.read_core.specs.Places.{PlaceIs}
use Rattle.results.specs.PlaceCodes.{place_start}

-- showing changes nothing; it tells where in the receive pool the front segment's payload lies, 0 and 0 where it is refused, and stores the
-- start
pub record PlacePromise (l : Link) (p : Parts) (a : Place) (stored : ℕ) : Type 0 where
  pub place : PlaceIs (place_of (shows l p)) (length p.receive_pool) a
  pub start : stored ≡ place_start a
