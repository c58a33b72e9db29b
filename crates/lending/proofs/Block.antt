-- The control block, as a type of the logic.
use denote.RattleType.{RattleType}
use Rattle.control.specs.contracts.Link as B

abbrev pub L : RattleType
L = B.the_row
