-- The number is that of the answer, which keeps the promise.
use Rattle.std.proofs.Common.{◌∙◌}
use Rattle.codes.specs.Codes.{time_code}
use Rattle.codes.proofs.Told.{told, returned}
use Rattle.ampferweg.proofs.ampferweg_check.Goals as goal

pub returns : goal.returns
returns c =
    told time_code _ c.check-time.result (returned c.tell_time.type_inv ∙ c.tell_time.ensures.0)
    (record { time = c.check-time.ensures; when = c.tell_time.ensures.1 })
