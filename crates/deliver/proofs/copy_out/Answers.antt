-- `copy_out`: what is stored, with the payloads of the segments from the index on, is the whole.
use Rattle.deliver.proofs.Copies.{copying_start, copying_at, copying_more, copying_end}
use Rattle.deliver.proofs.copy_out.Goals as goal

pub loop-word-init : goal.loop-word-init
loop-word-init c = copying_start _ _ _ _ c.requires.0 c.requires.1

pub copy_part-requires : goal.copy_part-requires
copy_part-requires c =
    let n = copying_at c.args.words.now c.loop-word.invariant c.loop-word-test.true in
    rw c.from-held.ensures (n.from, n.to)

pub loop-word-preserved : goal.loop-word-preserved
loop-word-preserved c =
    rw (c.copy_part.ensures, c.from-held.ensures) (copying_more c.args.words.now c.loop-word.invariant c.loop-word-test.true)

pub returns : goal.returns
returns c = copying_end c.args.words.now c.loop-word.invariant c.loop-word-test.false
