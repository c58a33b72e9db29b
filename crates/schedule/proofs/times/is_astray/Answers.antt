-- `schedule::times::is_astray` meets its contract.
use mir.Syntax.{w64}
use mir.ValLaws.{to_z-of_z}
use Rattle.schedule.specs.Schedules.{is_astray}
use Rattle.schedule.proofs.times.is_astray.Goals as goal

pub returns : goal.returns
unfolding is_astray
returns c =
    rw (
      to_z-of_z w64 c.read_signed-apart.result (record { sfits = c.read_signed-apart.type_inv }),
      c.read_signed-apart.ensures,
      c.difference.ensures,
    )
