-- `playing::on_link` meets its contract, command by command.
use Rattle.playing.proofs.Arms.{untouched, no_call}
use Rattle.playing.proofs.on_link.Goals as goal

pub returns-in_default : goal.returns-in_default
returns-in_default c =
    let a = c.args in
    let n = c.in_default in
    no_call a.command a.bench a.send_pool.now a.receive_pool.now a.acks.now a.bytes.now a.text.now c.tool.result _ _ _ c.tool.new.text
    (record {
      send = n.not-Send;
      input = n.not-Input;
      flush = n.not-Flush;
      update = n.not-Update;
      check = n.not-Check;
      read = n.not-Read;
      size = n.not-Size;
      show = n.not-Show;
    })
    (untouched _ _ _) c.tool.ensures
