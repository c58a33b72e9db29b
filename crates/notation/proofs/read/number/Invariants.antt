-- `notation::read::number` meets its contract: after i bytes, all of them digits, the number so far and the bytes left have
-- the value of the word.
use Rattle.std.proofs.Common.{◌≡◌, ◌≤◌, drop}
use Rattle.notation.specs.Decimal.{value}
use Rattle.notation.specs.Words.{is_digit, every}
use Rattle.notation.proofs.read.number.Given as goal

abbrev pub invariant-loop-c : goal.invariant-loop-c
invariant-loop-c l = record {
  small : l.n ≤ 4294967295;
  digits : every is_digit l.s ≡ every is_digit (drop l.c-index l.s);
  whole : value 0 l.s ≡ value l.n (drop l.c-index l.s);
}
