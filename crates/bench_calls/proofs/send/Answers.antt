-- `bench_calls::send` meets its contract: what is lent of each slice is as much as the bench says.
use mathlib.Core.Path.{◌≡◌, refl}
use lib.ListN.{length}
use borrow.Author.Rules.{rules}
use Rattle.bench_calls.specs.Fronts.{front_take, front_new, front_behind}
use Rattle.bench_calls.proofs.send.Goals as goal

pub returns : goal.returns
returns c =
    let sent = c.send-done in
    let front = c.front-s.ensures in
    let promised = rw (
      front_take _ _ _ front,
      front_take _ _ _ c.front-r.ensures,
      front_take _ _ _ c.front_acks-a.ensures,
    ) at sent.ensures in
    let new = sent.new.send_pool in
    let same : length new ≡ c.front-s.result =
    search rules in
    rw c.after_send.ensures (record {
      promise = rw (front_new _ _ _ new front same) promised;
      behind = front_behind _ _ _ new front same;
      bench = refl;
    })
