-- `insert` finds the place in the numbers, and puts the word and the number there.
use native.Mathlib.Omega.{arith}
use Rattle.words.proofs.Pairs.{searched, insert_held, insert_fits, insert_new}
use Rattle.words.proofs.insert.Goals as goal

pub returns-in-Ok : goal.returns-in-Ok
returns-in-Ok c =
    let a = c.args in
    let t = searched a.base a.number a.n c.in-Ok.field-0 _ a.numbers.now _ (omega arith) c.difference-offset.ensures c.in-Ok.ensures in
    insert_held a.words.now a.numbers.now a.n c.in-Ok.field-0 a.base a.word a.number c.told-words c.told-numbers c.requires.0 t.0 t.1

pub insert_at-requires : goal.insert_at-requires
insert_at-requires c =
    let a = c.args in
    let t = searched a.base a.number a.n c.in-Err.i _ a.numbers.now _ (omega arith) c.difference-offset.ensures c.in-Err.ensures in
    let room = insert_fits a.words.now a.numbers.now a.n c.in-Err.i a.base a.word a.number c.told-words c.told-numbers c.requires.0 t.0 t.1
    c.requires.1 in
    (omega arith, (room, t.0.within))

pub returns-in-Err : goal.returns-in-Err
returns-in-Err c =
    let a = c.args in
    let t = searched a.base a.number a.n c.in-Err.i _ a.numbers.now _ (omega arith) c.difference-offset.ensures c.in-Err.ensures in
    insert_new a.words.now a.numbers.now a.n c.in-Err.i a.base a.word a.number c.told-words c.told-numbers c.requires.0 t.0 _ _ t.1
    c.insert_at.ensures c.insert_at-in-Err.ensures
