-- `run`: the numbers before index i are next, next + 1 and so on, and `expected` is the number after them.
use mathlib.Core.Path.{◌≡◌}
use mathlib.Core.List.{List}
use Prim.Native.Nat.{ℕ, ◌+◌}
use lib.ListN.{length, take, drop}
use Rattle.lists.specs.Receiving.{run_of}
use Rattle.words.specs.Words.{paired, waiting_at}
use Rattle.arriving.proofs.run.Given as goal

abbrev pub invariant-loop-i : goal.invariant-loop-i
invariant-loop-i l =
    (words : List ℕ) → length words ≡ 128
    → run_of l.next (take l.n (paired waiting_at words l.numbers)) ≡ l.i + run_of l.expected (drop l.i (take l.n (paired waiting_at words l.numbers)))
