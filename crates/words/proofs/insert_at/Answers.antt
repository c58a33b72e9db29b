-- `insert_at` carries the words from index i on one place further.
use Rattle.std.proofs.Common.{arith, ◌≡◌, refl, ◌∷◌, ◌-◌, drop}
use Rattle.std.proofs.lemmas.List.Edits.{paste_none}
use Rattle.words.proofs.Fronts.{front_carried_on, carried_stored, carried_next}
use Rattle.words.proofs.insert_at.Goals as goal

pub loop-j-init : goal.loop-j-init
loop-j-init g c =
    let none : c.args.i - c.args.i ≡ 0 = omega arith in
    (rw none (paste_none c.args.list.now c.args.i (c.args.word ∷ drop c.args.i c.args.list.now)), rw none refl)

pub loop-j-preserved : goal.loop-j-preserved
loop-j-preserved g c =
    let l = c.loop-j in
    let v = l.invariant in (
      carried_stored c.args.list.now l.list 0 c.args.i l.j c.args.word l.carried (omega arith) (omega arith) v.0 v.1,
      carried_next c.args.list.now l.list 0 c.args.i l.j c.args.word (omega arith) (omega arith) v.0,
    )

pub returns : goal.returns
returns g c =
    let l = c.loop-j in
    let end : l.j ≡ c.args.n = omega arith in
    rw (carried_stored c.args.list.now l.list 0 c.args.i c.args.n c.args.word l.carried c.requires.1 (omega arith)
    (rw (← end) l.invariant.0) (rw (← end) l.invariant.1))
    (front_carried_on c.args.list.now c.args.n c.told-list c.args.i c.args.word c.requires.0 c.requires.1)
