-- The number is that of the answer, which keeps the promise.
use Rattle.std.proofs.Common.{◌∙◌}
use Rattle.codes.specs.Codes.{answer_code}
use Rattle.codes.proofs.Told.{told, returned}
use Rattle.ampferweg.proofs.ampferweg_send.Goals as goal

pub returns : goal.returns
returns c = told answer_code _ c.send.result (returned c.answer_code.type_inv ∙ c.answer_code.ensures) c.send.ensures.promise
