-- `datagram::check` meets its contract: what the walk gives from `at` on, with `count` segments before it, is the answer for the whole.
use mathlib.Core.Path.{◌≡◌}
use Prim.Native.Nat.{◌-◌, ◌≤◌}
use lib.ListN.{length, drop}
use Rattle.datagram.specs.Datagrams.{walk, parse, counted}
use Rattle.datagram.proofs.check.Given as goal

abbrev pub invariant-loop-h : goal.invariant-loop-h
invariant-loop-h l =
    (l.at ≤ length l.s) × (l.count ≤ l.at) × (counted l.count (walk l.conv l.mss 0 (drop l.at l.s)) ≡ counted 0 (parse l.conv l.mss l.s))

abbrev pub decreases-loop-h : goal.decreases-loop-h
decreases-loop-h l = length l.s - l.at
