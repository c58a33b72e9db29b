-- `transcript::count` meets its contract, case by case.
use Rattle.transcript.specs.Lines.{count_line}
use Rattle.transcript.proofs.count.Goals as goal

pub returns-in-Ok : goal.returns-in-Ok
unfolding count_line
returns-in-Ok c = rw c.in-Ok.is c.number_line.ensures

pub returns-in-Err : goal.returns-in-Err
unfolding count_line
returns-in-Err c = rw c.in-Err.is c.refused.ensures
