-- `listing::text::header_line` meets its contract: seven fields with a space behind each, and the last.
use Rattle.std.proofs.Common.{◌≡◌, replicate, rules}
use Rattle.wire.specs.Headers.{FieldsFit}
use Rattle.notation.specs.PutLaws.{put_then}
use Rattle.listing.specs.Lines.{segment_line}
use Rattle.listing.specs.LineLaws.{holds_put, segment_parts, length_segment}
use Rattle.listing.proofs.text.header_line.Goals as goal

pub returns : goal.returns
returns c =
    let h = c.args.h in
    let fits : FieldsFit h = search rules in
    let all = put_then _ _ _ _ _ _ _ _ c.spaced-behind.ensures c.field-len.ensures in
    let whole : segment_line h ≡ _ = segment_parts h in
    let put = rw (
      c.from.ensures,
      c.from-2.ensures,
      c.from-3.ensures,
      c.from-4.ensures,
      c.from-5.ensures,
      c.from-6.ensures,
      c.from-7.ensures,
      c.from-8.ensures,
    ) at all in
    holds_put (replicate 80 0) _ _ _ (search rules) (length_segment h fits) (rw whole put)
