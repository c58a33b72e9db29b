-- `listing::judge` meets its contract: the tests that led to each `return` pick the case of `listed`.
use Rattle.std.specs.Prelude.{◌≡◌, Some, None, Err}
use mathlib.Core.Path.{sym, ◌∙◌}
use mathlib.Core.List.{List}
use Prim.Native.Nat.{ℕ, ◌≤◌, ◌<◌}
use borrow.Author.Rules.{rules}
use lib.ListN.{length}
use Rattle.wire.specs.Headers.{header_at, decode}
use Rattle.wire.specs.declared.Header.{Header}
use Rattle.protocol.specs.declared.Refusal.TheVariants.{ShortDatagram, ShortPart}
use Rattle.datagram.specs.Datagrams.{Checked, parse, counted}
use Rattle.datagram.specs.FoundLaws.{found_whole, found_short}
use Rattle.datagram.specs.WalkLaws.{parse_short}
use Rattle.listing.specs.Listings.{judged}
use Rattle.listing.specs.ListingLaws.{listed_long, listed_parse}
use Rattle.listing.proofs.judge.Goals as goal

module _ (s : List ℕ) where
  long : 65536 < length s → Err ShortPart ≡ judged s
  long h = rw (listed_long s h)

  short : length s ≤ 65536 → header_at s 0 ≡ None → Err ShortDatagram ≡ judged s
  short h f = rw (listed_parse s h, parse_short _ _ s (found_short s 0 f))

  walked : length s ≤ 65536 → (h : Header) → header_at s 0 ≡ Some h → (r : Checked) → r ≡ counted 0 (parse h.conv 488 s) → r ≡ judged s
  unfolding decode
  walked p h f r e = rw (e, listed_parse s p, (found_whole s 0 h f).header)

pub returns-then-s-gt-DATAGRAM_MOST : goal.returns-then-s-gt-DATAGRAM_MOST
returns-then-s-gt-DATAGRAM_MOST c = long _ (search rules)

pub returns-in_default : goal.returns-in_default
returns-in_default c = short _ (search rules) (sym c.find_header.ensures ∙ c.in_default.is)

pub returns : goal.returns
returns c = walked _ (search rules) _ (sym c.find_header.ensures ∙ c.in-Some.is) _ c.check.ensures
