-- `tag_message::write` meets its contract: what is stored is the message.
use Rattle.std.proofs.Common.{arith}
use Rattle.tag_message.specs.MessageLaws.{written, message_stored}
use Rattle.tag_message.proofs.write.Goals as goal

pub returns : goal.returns
returns c = written _ _ _ (omega arith) (cc) (message_stored _ _ _ c.put_counted.ensures c.put_counted-2.ensures)
