-- The number is that of the answer, which keeps the promise.
use Rattle.std.proofs.Common.{◌∙◌}
use Rattle.codes.specs.Codes.{update_code}
use Rattle.codes.proofs.Told.{told, returned}
use Rattle.ampferweg.proofs.ampferweg_update.Goals as goal

pub returns : goal.returns
returns c = told update_code _ c.update-written.result (returned c.update_code.type_inv ∙ c.update_code.ensures)
    c.update-written.ensures.promise
