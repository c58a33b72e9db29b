-- `bench_calls::flush` meets its contract: what is lent of each slice is as much as the bench says.
use mathlib.Core.Path.{◌≡◌, refl}
use lib.ListN.{length}
use borrow.Author.Rules.{rules}
use Rattle.bench_calls.specs.Fronts.{front_take, front_new, front_behind}
use Rattle.bench_calls.proofs.flush.Goals as goal

pub returns : goal.returns
returns c =
    let flushed = c.flush-done in
    let output = c.front-o.ensures in
    let lengths = c.front_lengths-l.ensures in
    let promised = rw (
      front_take _ _ _ c.front-s.ensures,
      front_take _ _ _ c.front-r.ensures,
      front_take _ _ _ c.front_acks-a.ensures,
      front_take _ _ _ output,
      front_take _ _ _ lengths,
    ) at flushed.ensures.0 in
    let bytes = flushed.new.output in
    let sizes = flushed.new.lengths in
    let same : length bytes ≡ c.front-o.result = search rules in
    let also : length sizes ≡ c.front_lengths-l.result = search rules in
    rw c.after_flush.ensures (record {
      promise = rw (front_new _ _ _ bytes output same, front_new _ _ _ sizes lengths also) promised;
      behind = front_behind _ _ _ bytes output same;
      lengths_behind = front_behind _ _ _ sizes lengths also;
      records_behind =
          flushed.ensures.1;
      bench = refl;
    })
