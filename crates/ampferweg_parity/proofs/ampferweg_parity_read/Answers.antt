-- `ampferweg_parity::ampferweg_parity_read` meets its contract: the answer, told by its code.
use Rattle.codes.proofs.Signs.{passed}
use Rattle.ampferweg_parity.specs.ToldLaws.{answer_fits, read_few, told}
use Rattle.ampferweg_parity.proofs.ampferweg_parity_read.Goals as goal

pub returns : goal.returns
returns c = told _ _ _ c.read_group.result _ _ _ (read_few _ _ _ _ _ _) (passed _ (answer_fits c.read_group.result) c.answer_code.ensures) c.read_group.ensures
