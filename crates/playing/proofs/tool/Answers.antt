-- `playing::tool` meets its contract, command by command.
use Rattle.playing.proofs.Arms.{no_tool}
use Rattle.playing.proofs.tool.Goals as goal

pub returns-in-State : goal.returns-in-State
returns-in-State c = rw c.in-State.is c.state.ensures

pub returns-in-Held : goal.returns-in-Held
returns-in-Held c = rw c.in-Held.is c.held.ensures

pub returns-in-Jump : goal.returns-in-Jump
returns-in-Jump c = rw c.in-Jump.is c.jump.ensures

pub returns-in-Lend : goal.returns-in-Lend
returns-in-Lend c = rw c.in-Lend.is c.lend.ensures

pub returns-in-Poke : goal.returns-in-Poke
returns-in-Poke c = rw c.in-Poke.is c.poke.ensures

pub returns-in-Hold : goal.returns-in-Hold
returns-in-Hold c = rw c.in-Hold.is c.hold.ensures

pub returns-in-Rec : goal.returns-in-Rec
returns-in-Rec c = rw c.in-Rec.is c.rec.ensures

pub returns-in_default : goal.returns-in_default
returns-in_default c =
    let n = c.in_default in
    no_tool c.args.command _ _ _ _
    (record {
      state = n.not-State;
      held = n.not-Held;
      jump = n.not-Jump;
      lend = n.not-Lend;
      poke = n.not-Poke;
      hold = n.not-Hold;
      rec = n.not-Rec;
    })
    c.malformed.ensures
