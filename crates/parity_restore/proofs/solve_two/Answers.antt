-- `parity_restore::solve_two` meets its contract: the two sums, solved.
use native.Mathlib.Omega.{arith}
use borrow.Author.Rules.{rules}
use lib.ListN.{length}
use Rattle.frames.specs.Reading.{rest}
use Rattle.parity_scan.specs.Held.{shard_in}
use Rattle.parity_restore.specs.RestoreLaws.{row_sized, both_first, both_second, rest_small}
use Rattle.parity_restore.proofs.solve_two.Goals as goal

pub returns-clause-first : goal.returns-clause-first
returns-clause-first c =
    let b = row_sized (rest 0 c.args.k (shard_in c.args.s.now
    c.args.held.now))
    (length c.args.b.now)
    (length c.args.a.now) _
    c.requires.3
    c.rest_row-2.ensures in
    let f = both_first c.args.k
    (shard_in c.args.s.now
    c.args.held.now)
    c.args.i
    c.args.j
    (length c.args.a.now)
    c.power.result
    c.power-g.result
    c.add.result
    c.inverse-d.result (search rules) (search rules)
    c.requires.6
    c.power.ensures
    c.power-g.ensures
    c.add.ensures
    c.inverse-d.ensures _ _ _ _
    c.rest_row.ensures b
    c.add_multiple.ensures
    c.multiply.ensures in f

pub returns-clause-second : goal.returns-clause-second
returns-clause-second c =
    let b = row_sized (rest 0 c.args.k (shard_in c.args.s.now
    c.args.held.now))
    (length c.args.b.now)
    (length c.args.a.now) _
    c.requires.3
    c.rest_row-2.ensures in
    let f = both_first c.args.k
    (shard_in c.args.s.now
    c.args.held.now)
    c.args.i
    c.args.j
    (length c.args.a.now)
    c.power.result
    c.power-g.result
    c.add.result
    c.inverse-d.result (search rules) (search rules)
    c.requires.6
    c.power.ensures
    c.power-g.ensures
    c.add.ensures
    c.inverse-d.ensures _ _ _ _
    c.rest_row.ensures b
    c.add_multiple.ensures
    c.multiply.ensures in
    both_second c.args.k
    (shard_in c.args.s.now c.args.held.now)
    c.args.i
    c.args.j
    (length c.args.a.now)
    c.power.result
    c.power-g.result
    c.add.result
    c.inverse-d.result (search rules) (search rules)
    c.requires.6
    c.power.ensures
    c.power-g.ensures
    c.add.ensures
    c.inverse-d.ensures _ _ _
    (rest_small c.args.k
    c.args.s.now
    c.args.held.now
    (λ i. omega (arith, c.type_inv.s i))) b f c.add-2.ensures
