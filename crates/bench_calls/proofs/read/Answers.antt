-- `bench_calls::read` meets its contract: what is lent of each slice is as much as the bench says.
use mathlib.Core.Path.{◌≡◌, refl}
use lib.ListN.{length}
use borrow.Author.Rules.{rules}
use Rattle.bench_calls.specs.Fronts.{front_take, front_new, front_behind}
use Rattle.bench_calls.proofs.read.Goals as goal

pub returns : goal.returns
returns c =
    let got = c.read-done in
    let buffer = c.front-b.ensures in
    let promised = rw (
      front_take _ _ _ c.front-s.ensures,
      front_take _ _ _
          c.front-r.ensures,
      front_take _ _ _ c.front_acks-a.ensures,
      front_take _ _ _ buffer,
    ) at got.ensures in
    let new = got.new.buffer in
    let same : length new ≡ c.front-b.result = search rules in
    rw c.after_read.ensures (record {
      promise = rw (front_new _ _ _ new buffer same) promised;
      behind = front_behind _ _ _ new buffer same;
      bench = refl;
    })
