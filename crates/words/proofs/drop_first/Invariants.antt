-- `drop_first` moves the words from k on to the front.
use Rattle.std.proofs.Common.{◌≡◌, drop}
use lib.Seq.{paste}
use Rattle.words.proofs.drop_first.Given as goal

abbrev pub invariant-loop-i : goal.invariant-loop-i
invariant-loop-i g l = l.list ≡ paste l.initial.list 0 (drop l.k l.initial.list) l.i
