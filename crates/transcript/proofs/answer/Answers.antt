-- `transcript::answer` meets its contract, case by case.
use Rattle.transcript.specs.Lines.{answer_line}
use Rattle.transcript.proofs.answer.Goals as goal

pub returns-in-Ok : goal.returns-in-Ok
unfolding answer_line
returns-in-Ok c = rw c.in-Ok.is c.bytes.ensures

pub returns-in-Err : goal.returns-in-Err
unfolding answer_line
returns-in-Err c = rw c.in-Err.is c.refused.ensures
