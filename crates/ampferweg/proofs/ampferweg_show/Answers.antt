-- The number is that of the place, which is the one that is promised.
use Rattle.std.proofs.Common.{◌∙◌}
use Rattle.codes.proofs.Told.{told, returned}
use Rattle.results.specs.PlaceCodes.{place_code}
use Rattle.ampferweg.proofs.ampferweg_show.Goals as goal

pub returns : goal.returns
returns c =
    told place_code _ c.locate-place.result (returned c.tell_place.type_inv ∙ c.tell_place.ensures.0)
    (record { place = c.locate-place.ensures; start = c.tell_place.ensures.1 })
