-- `number`: as many queued segments as the window allows stand behind the outstanding ones.
use borrow.Author.Rules.{rules}
use Rattle.numbering.proofs.NumberLaws.{few, numbers_some, numbers_none}
use Rattle.numbering.proofs.number.Goals as goal

pub returns-then-k-eq0 : goal.returns-then-k-eq0
returns-then-k-eq0 c =
    let a = c.args in
    numbers_none a.flight a.window a.queued.now a.outstanding.now a.transmissions.now a.records.now _ c.requires
    c.numbered_count-k.ensures c.if-k-eq0.true (search rules)

pub number_first-requires : goal.number_first-requires
number_first-requires c =
    let p = c.requires in
    let a = c.args in
    few a.flight a.window a.queued.now a.outstanding.now a.transmissions.now a.records.now _ p c.numbered_count-k.ensures

pub returns : goal.returns
returns c =
    let a = c.args in
    numbers_some a.flight a.window a.queued.now a.outstanding.now a.transmissions.now a.records.now _ c.requires
    c.numbered_count-k.ensures _ _ _ _ _ c.number_first.ensures c.drop_first.ensures
    c.sum.ensures
