-- `ampferweg_tags::ampferweg_tag_write` meets its contract: what was written, told by its length.
use mathlib.Core.Path.{sym, ◌∙◌}
use native.Mathlib.Omega.{arith}
use mir.Syntax.{w32}
use mir.ValLaws.{to_z_pos}
use Rattle.ampferweg_tags.proofs.Told.{tells_writing, written_short}
use Rattle.ampferweg_tags.proofs.ampferweg_tag_write.Goals as goal

pub overflow_cast-result : goal.overflow_cast-result
overflow_cast-result c = omega (arith, written_short _ _ _ _ (sym c.in-Ok.is ∙ c.write.ensures.answer))

pub returns-in-Ok : goal.returns-in-Ok
returns-in-Ok c =
    tells_writing _ _ _ c.write.result _ c.write.ensures
    (rw c.in-Ok.is (to_z_pos w32 c.in-Ok.len
    (omega (arith, written_short _ _ _ _ (sym c.in-Ok.is ∙ c.write.ensures.answer)))))
