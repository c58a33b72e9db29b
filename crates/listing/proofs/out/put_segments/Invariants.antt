-- `listing::out::put_segments` meets its contract: at the loop the lines of the segments that remain, and the count's, are left to be put.
use mathlib.Core.Path.{◌≡◌}
use mathlib.Core.List.{List, ◌++◌}
use Prim.Native.Nat.{◌+◌, ◌*◌, ◌-◌, ◌≤◌}
use lib.ListN.{length}
use Rattle.wire.specs.LittleEndian.{number_at}
use Rattle.datagram.specs.Datagrams.{Segment}
use Rattle.datagram.specs.StepLaws.{Remaining}
use Rattle.listing.specs.Lines.{count_line}
use Rattle.listing.specs.Listings.{listed, segment_lines, body}
use Rattle.listing.specs.ListingLaws.{Left}
use Rattle.listing.proofs.out.put_segments.Given as goal

abbrev pub invariant-loop-segment : goal.invariant-loop-segment
invariant-loop-segment l =
    (length l.s ≤ 65536)
    × (24 * l.here ≤ 24 * l.at + 80 * l.from)
    × (length l.out ≡ length l.initial.out)
    × ((gs : List Segment) × Remaining (number_at 4 l.s 0) 488 l.s l.from gs × Left l.initial.out l.at (body (listed l.s)) l.out l.here
    (segment_lines gs ++ count_line l.n))

abbrev pub decreases-loop-segment : goal.decreases-loop-segment
decreases-loop-segment l = length l.s - l.from
