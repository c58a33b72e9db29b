-- `copy_front`: the message's segments are among those that are ready.
use lib.ListN.{take}
use Rattle.session.specs.Reading.{front_count}
use Rattle.words.specs.Words.{held_in}
use Rattle.deliver.proofs.Fronts.{front_words}
use Rattle.deliver.proofs.Copies.{in_pool_take}
use Rattle.deliver.proofs.copy_front.Goals as goal

pub copy_out-requires : goal.copy_out-requires
copy_out-requires c =
    let l = held_in c.args.ready.now c.args.n in
    let e = front_words (take c.args.n c.args.ready.now) _ c.front_count-k.ensures in
    (rw e (in_pool_take _ _ (front_count l) l c.requires.1), rw e c.requires.2.within)

pub returns-clause-bytes : goal.returns-clause-bytes
returns-clause-bytes c = rw (front_words (take c.args.n c.args.ready.now) _ c.front_count-k.ensures) at c.copy_out.ensures
