-- `ampferweg_parity::ampferweg_parity_write` meets its contract: the answer, told by its code.
use Rattle.codes.proofs.Signs.{passed}
use Rattle.ampferweg_parity.specs.ToldLaws.{answer_fits, write_few, told}
use Rattle.ampferweg_parity.proofs.ampferweg_parity_write.Goals as goal

pub returns : goal.returns
returns c =
    told _ _ _ c.write_group.result _ _ _ (write_few _ _ _ _ _ _ _)
    (passed _ (answer_fits c.write_group.result) c.answer_code.ensures) c.write_group.ensures
