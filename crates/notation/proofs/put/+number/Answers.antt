-- `notation::put::number` meets its contract: its two cases are those of `decimal`.
use borrow.Author.Rules.{rules}
use Rattle.notation.specs.DecimalLaws.{decimal_low, decimal_more}
use Rattle.notation.specs.PutLaws.{put_then}
use Rattle.notation.proofs.put.+number.Goals as goal

pub returns-then-n-lt10 : goal.returns-then-n-lt10
returns-then-n-lt10 t c = rw (decimal_low c.args.n (search rules)) c.byte.ensures

pub returns : goal.returns
returns t c =
    rw (decimal_more c.args.n (search rules)) (put_then _ _ _ _ _ _ _ _ c.number-high.ensures c.byte-2.ensures)
