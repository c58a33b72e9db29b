-- The number is that of the answer, which keeps the promise.
use Rattle.std.proofs.Common.{◌∙◌}
use Rattle.codes.specs.Codes.{count_code}
use Rattle.codes.proofs.Told.{told, returned}
use Rattle.ampferweg.proofs.ampferweg_read.Goals as goal

pub returns : goal.returns
returns c = told count_code _ c.read.result (returned c.count_code.type_inv ∙ c.count_code.ensures) c.read.ensures.promise
