-- `listing::text::last_line` meets its contract: the words and a field of at most 21 bytes are within a line.
use Rattle.std.proofs.Common.{List, ℕ, ◌++◌, ◌^◌, ◌≤◌, ◌<◌, length, arith, rules, length-append}
use Rattle.notation.specs.PutLaws.{put_then}
use Rattle.listing.specs.Lines.{newline, field}
use Rattle.listing.specs.LineLaws.{length_field, holds_put}
use Rattle.listing.proofs.text.last_line.Goals as goal

short : (words : List ℕ) (n end : ℕ) → length words ≤ 50 → n < 2 ^ 64 → length (words ++ field n end) ≤ 80
short words n end l h = omega (arith, length-append words (field n end), length_field 20 n end (omega arith) (omega arith))

pub returns : goal.returns
returns c =
    holds_put _ _ _ _ (search rules) (short c.args.words.now c.args.n newline (search rules) (search rules))
    (put_then _ _ _ _ _ _ _ _ c.bytes-behind.ensures c.field-len.ensures)
