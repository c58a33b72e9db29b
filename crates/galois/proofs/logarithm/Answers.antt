-- `galois::logarithm` meets its contract: the table's rule.
use borrow.Author.Rules.{rules}
use Rattle.galois.specs.Tables.{logs}
use Rattle.galois.proofs.TableLaws.{log_entry}
use Rattle.galois.proofs.logarithm.Goals as goal

pub returns : goal.returns
unfolding logs
returns c = rw (c.from-2.ensures, c.from.ensures) (log_entry c.args.a (search rules))
