-- `put_wished`: the segment is put if it is wanted, and not otherwise.
use Rattle.transmit.proofs.ControlLaws.{control_adds, wished_put}
use Rattle.transmit.proofs.controls.put_wished.Goals as goal

pub returns-then-wish-clause-adds : goal.returns-then-wish-clause-adds
returns-then-wish-clause-adds c =
    wished_put _ c.if-wish.true (control_adds _ _ _ _ _ _ _ _ _ _ _ c.requires.1 c.requires.0.fills c.put_control.ensures.puts)
