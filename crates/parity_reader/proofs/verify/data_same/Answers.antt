-- `parity_reader::verify::data_same` meets its contract: the held shard itself, or one with the same bytes.
use Rattle.std.proofs.Common.{◌∙◌}
use Rattle.parity_reader.specs.VerifyLaws.{same_itself, same_part, made_data}
use Rattle.parity_reader.proofs.verify.data_same.Goals as goal

pub returns-then-shard-n : goal.returns-then-shard-n
returns-then-shard-n c =
    let r = c.requires in
    same_itself _ _ _ _ _ _ r.0 r.3 c.in-Some.is c.if-shard-at.true c.if-shard-n.true r.1

pub returns : goal.returns
returns c = c.eq.ensures ∙ same_part _ c.args.at c.args.n _ _ (c.trimmed.ensures ∙ made_data _ _ _ c.requires.3)
