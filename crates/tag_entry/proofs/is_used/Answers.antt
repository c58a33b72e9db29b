-- `tag_entry::is_used` meets its contract: the tests decide in turn.
use Rattle.tag_entry.specs.EntryLaws.{too_long, used}
use Rattle.tag_entry.proofs.is_used.Goals as goal

pub returns-then-name-gt-NAME_MOST : goal.returns-then-name-gt-NAME_MOST
returns-then-name-gt-NAME_MOST c = too_long _ _ _ c.from-name.ensures c.from-value.ensures c.then-name-gt-NAME_MOST.either

pub returns : goal.returns
returns c =
    used _ _ _ c.from-name.ensures c.from-value.ensures c.if-name-gt-NAME_MOST.false c.if-value-gt-VALUE_MOST.false
    c.is_name.ensures c.all_zero.ensures c.all_zero-2.ensures
