-- `parity_reader::verify::all_held` meets its contract: the frames that are left decide.
use Rattle.std.proofs.Common.{refl, sym, ◌∙◌, arith}
use Rattle.frames.specs.Lists.{add_up}
use Rattle.frames.specs.PartLaws.{lies}
use Rattle.parity_found.specs.Ready.{shards_in}
use Rattle.parity_found.specs.FoundLaws.{length_found}
use Rattle.parity_reader.specs.VerifyLaws.{every_done, given_long, given_step, given_stop}
use Rattle.parity_reader.proofs.verify.all_held.Goals as goal

pub loop-n-init : goal.loop-n-init
unfolding add_up
loop-n-init c = (refl, refl)

pub shard_same-requires : goal.shard_same-requires
shard_same-requires c =
    let f = c.args.g.now.frames in
    let l = lies _ _ _ _ _ f.whole c.loop-n-test.true c.loop-n.invariant.0 c.from-size.ensures in (
      c.requires.0,
      c.requires.1,
      l.within,
      given_long _ _ _ _ _ _ f.small (length_found _ (shards_in c.args.g.now)) f.whole c.requires.2 _ _ _ c.loop-n.invariant.0 c.loop-n-test.true c.from-size.ensures,
      c.most_found-most.ensures.0,
    )

pub overflow_add-at : goal.overflow_add-at
overflow_add-at c =
    let l = lies _ _ _ _ _ c.args.g.now.frames.whole c.loop-n-test.true c.loop-n.invariant.0 c.from-size.ensures in
    record { fits = omega (arith, c.args.g.now.frames.fits) }

pub loop-n-preserved : goal.loop-n-preserved
loop-n-preserved c =
    let f = c.args.g.now.frames in
    let l = lies _ _ _ _ _ f.whole c.loop-n-test.true c.loop-n.invariant.0 c.from-size.ensures in (
      l.next,
      c.loop-n.invariant.1 ∙ given_step _ _ _ _ _ _ f.small (length_found _ (shards_in c.args.g.now)) f.whole c.requires.2 _ _ _ c.loop-n.invariant.0
          c.loop-n-test.true c.from-size.ensures (sym c.if-not-shard_same.ensures),
    )

pub returns-then-not-shard_same : goal.returns-then-not-shard_same
returns-then-not-shard_same c =
    let f = c.args.g.now.frames in
    sym (c.loop-n.invariant.1 ∙ given_stop _ _ _ _ _ _ f.small (length_found _ (shards_in c.args.g.now)) f.whole c.requires.2 _ _ _ c.loop-n.invariant.0
    c.loop-n-test.true c.from-size.ensures (sym c.if-not-shard_same.ensures))

pub returns : goal.returns
returns c = sym (c.loop-n.invariant.1 ∙ every_done _ _ _ _ c.loop-n-test.false)
