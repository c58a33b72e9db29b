-- `tag_message::all_printable` meets its contract: each byte passed was tested.
use Rattle.std.proofs.Common.{◌≡◌, take}
use Rattle.std.specs.List.{list_all}
use Rattle.tag_message.specs.Tags.{is_printable}
use Rattle.tag_message.proofs.all_printable.Given as goal

abbrev pub invariant-loop-b : goal.invariant-loop-b
invariant-loop-b l = l.all ≡ list_all is_printable (take l.b-index l.s)
