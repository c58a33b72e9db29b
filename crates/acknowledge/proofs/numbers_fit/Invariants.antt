-- `numbers_fit`: the numbers before the index fit.
use Rattle.std.proofs.Common.{ℕ, ◌^◌, ◌<◌, get_or}
use Rattle.records.specs.Tables.{blank}
use Rattle.acknowledge.proofs.numbers_fit.Given as goal

abbrev pub invariant-loop-record : goal.invariant-loop-record
invariant-loop-record l = (k : ℕ) → k < l.record-index → (get_or l.records k blank).number < 2 ^ 32
