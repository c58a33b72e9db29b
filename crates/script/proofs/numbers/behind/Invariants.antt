-- `script::numbers::behind` meets its contract: the numbers read so far, and those of the words left, are all the numbers.
use Rattle.std.proofs.Common.{◌≡◌, ◌≤◌, length, take}
use Rattle.script.specs.Commands.{arguments, numbers_of}
use Rattle.script.specs.CommandLaws.{prepend}
use Rattle.script.proofs.numbers.behind.Given as goal

abbrev pub invariant-loop-words : goal.invariant-loop-words
invariant-loop-words l = record {
  room : length l.room ≡ length l.fn.room;
  small : l.count ≤ length l.room;
  read : numbers_of (arguments l.line) ≡ prepend (take l.count l.room) (numbers_of (arguments l.rest));
}

abbrev pub decreases-loop-words : goal.decreases-loop-words
decreases-loop-words l = length l.rest
