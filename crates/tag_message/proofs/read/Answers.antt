-- `tag_message::read` meets its contract: the tests decide in turn.
use Rattle.std.proofs.Common.{arith}
use Rattle.tag_message.specs.MessageLaws.{no_message, message}
use Rattle.tag_message.proofs.read.Goals as goal
use Rattle.tag_message.proofs.read.Goals.{
  else-message-middle-via-then-message-middle+then-value-le-VALUE_MOST+else-is_name,
  else-message-middle-via-then-message-middle+else-value-le-VALUE_MOST,
  else-message-middle-via-else-message-middle,
}

pub returns-then-is_name : goal.returns-then-is_name
returns-then-is_name c =
    message _ _ _ c.byte_at-name.ensures.value c.byte_at-value.ensures.value (omega arith) (omega arith) (cc)

pub returns-else-message-middle : goal.returns-else-message-middle
returns-else-message-middle c =
    no_message _ _ _ c.byte_at-name.ensures.value c.byte_at-value.ensures.value
    (λ a b. elim c.else-message-middle.branch [
      | else-message-middle-via-then-message-middle+then-value-le-VALUE_MOST+else-is_name w ↦ cc
      | else-message-middle-via-then-message-middle+else-value-le-VALUE_MOST w ↦ absurd (omega arith)
      | else-message-middle-via-else-message-middle w ↦ absurd (w.if-message-middle.false a)
    ])
