-- `tag_entry::all_zero` meets its contract: each byte passed was tested.
use Rattle.std.proofs.Common.{◌≡◌, take}
use Rattle.std.specs.List.{list_all}
use Rattle.tag_entry.specs.Entries.{is_zero}
use Rattle.tag_entry.proofs.all_zero.Given as goal

abbrev pub invariant-loop-b : goal.invariant-loop-b
invariant-loop-b l = l.all ≡ list_all is_zero (take l.b-index l.s)
