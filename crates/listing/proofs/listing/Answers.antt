-- `listing::listing` meets its contract: the column line, and behind it the lines for what the datagram is.
use mathlib.Core.Path.{sym, ◌∙◌}
use Rattle.listing.specs.Lines.{column_line}
use Rattle.listing.specs.ListingLaws.{wrote_then, wrote_all, wrote_refused}
use Rattle.listing.proofs.listing.Goals as goal

pub returns-in-Err : goal.returns-in-Err
unfolding column_line
returns-in-Err c =
    wrote_all _ _ _ _ c.if-out-lt-ROOM_LEAST.false
    (wrote_then _ _ _ _ _ _ _ _ c.put_text-at.ensures
    (wrote_refused _ _ _ _ _ _ _ (sym c.judge.ensures ∙ c.in-Err.is) c.refusal_line.ensures
    c.put_line.ensures))

pub returns-in-Ok : goal.returns-in-Ok
unfolding column_line
returns-in-Ok c =
    wrote_all _ _ _ _ c.if-out-lt-ROOM_LEAST.false
    (wrote_then _ _ _ _ _ _ _ _ c.put_text-at.ensures c.put_segments.ensures)
