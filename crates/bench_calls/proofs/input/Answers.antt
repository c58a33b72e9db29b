-- `bench_calls::input` meets its contract: what is lent of each slice is as much as the bench says.
use mathlib.Core.Path.{◌≡◌, refl}
use lib.ListN.{length}
use borrow.Author.Rules.{rules}
use Rattle.bench_calls.specs.Fronts.{front_take, front_new, front_behind}
use Rattle.bench_calls.proofs.input.Goals as goal

pub returns : goal.returns
returns c =
    let taken = c.input-done in
    let receive = c.front-r.ensures in
    let acks = c.front_acks-a.ensures in
    let promised = rw (
      front_take _ _ _ c.front-s.ensures,
      front_take _ _ _ receive,
      front_take _ _ _ acks,
    ) at taken.ensures.0 in
    let pool = taken.new.receive_pool in
    let pairs = taken.new.acks in
    let same : length pool ≡ c.front-r.result = search rules in
    let also : length pairs ≡ c.front_acks-a.result =
    search rules in
    rw c.after_input.ensures (record {
      promise = rw (front_new _ _ _ pool receive same, front_new _ _ _ pairs acks also) promised;
      behind = front_behind _ _ _ pool receive same;
      acks_behind = front_behind _ _ _ pairs acks also;
      records_behind = taken.ensures.1;
      bench = refl;
    })
