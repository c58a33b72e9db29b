-- `tag_table::take` meets its contract: the tag of a message is set.
use Rattle.std.proofs.Common.{◌≡◌, ℕ, ◌+◌, List, length, sym, ◌∙◌, arith}
use Rattle.tag_message.specs.MessageLaws as message
use Rattle.tag_table.specs.ChangeLaws as change
use Rattle.tag_table.proofs.take.Goals as goal

-- the message ends behind its value
whole : (m : List ℕ) (n v : ℕ) → message.Read m n v → length m ≡ 1 + n + 1 + v
whole m n v r = omega (arith, r.named, r.valued, (message.passed _ r.message).whole)

pub returns-in-Ok : goal.returns-in-Ok
returns-in-Ok c = change.taken _ _ _ _ _ _ (message.tag_read _ _ (sym c.read.ensures ∙ c.in-Ok.is)) c.set.ensures

pub returns-in-Err : goal.returns-in-Err
returns-in-Err c = change.not_taken _ _ _ _ (message.none_read _ _ (sym c.read.ensures ∙ c.in-Err.is)) c.set-in-Err.ensures

pub overflow_add-middle : goal.overflow_add-middle
overflow_add-middle c = omega (arith, whole _ _ _ (message.tag_read _ _ (sym c.read.ensures ∙ c.in-Ok.is)))

pub overflow_add-start : goal.overflow_add-start
overflow_add-start c = omega (arith, whole _ _ _ (message.tag_read _ _ (sym c.read.ensures ∙ c.in-Ok.is)))

pub slice_bounds-set-end : goal.slice_bounds-set-end
slice_bounds-set-end c = omega (arith, whole _ _ _ (message.tag_read _ _ (sym c.read.ensures ∙ c.in-Ok.is)))

pub overflow_add-start-in-Ok : goal.overflow_add-start-in-Ok
overflow_add-start-in-Ok c = omega (arith, whole _ _ _ (message.tag_read _ _ (sym c.read.ensures ∙ c.in-Ok.is)))

pub slice_bounds-set-end-in-Ok : goal.slice_bounds-set-end-in-Ok
slice_bounds-set-end-in-Ok c = omega (arith, whole _ _ _ (message.tag_read _ _ (sym c.read.ensures ∙ c.in-Ok.is)))
