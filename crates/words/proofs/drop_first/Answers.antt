-- `drop_first` moves the words from k on to the front.
use Rattle.std.proofs.Common.{arith, ◌≡◌, ◌-◌, drop}
use Rattle.std.proofs.lemmas.List.Edits.{paste_none}
use Rattle.words.proofs.Fronts.{front_moved, moved_next}
use Rattle.words.proofs.drop_first.Goals as goal

pub loop-i-init : goal.loop-i-init
loop-i-init g c = paste_none c.args.list.now 0 (drop c.args.k c.args.list.now)

pub loop-i-preserved : goal.loop-i-preserved
loop-i-preserved g c = moved_next c.args.list.now c.loop-i.list 0 c.args.k c.loop-i.i c.loop-i.invariant (omega arith)

pub returns : goal.returns
returns g c =
    let e : c.loop-i.i ≡ c.args.n - c.args.k = omega arith in
    rw (c.loop-i.invariant, e) (front_moved c.args.list.now c.args.n c.told-list c.args.k c.requires.0 c.requires.1)
