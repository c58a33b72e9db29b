-- Laws of `BenchPromises`.
-- Assumes nothing.
use Rattle.std.specs.Prelude.{refl, List, ℕ, Err, Ok}
use Rattle.protocol.specs.declared.Settings.{Settings}
use Rattle.control.specs.declared.Link.{Link}
use Rattle.promises.specs.Promises.{OpenPromise}
use Rattle.bench.specs.declared.Bench.{Bench}
use Rattle.bench_calls.specs.BenchPromises.{lent_parts, after_open, BenchOpens}
use Rattle.answers.specs.Answers.{Answer}

-- the link after an opening is the one that it left, accepted or not
pub opens : (c : Settings) (b : Bench) (s r a : List ℕ) (x : Answer) (l : Link)
    → OpenPromise c b.link (lent_parts b s r b.table a) x l (lent_parts b s r b.table a)
    → BenchOpens c b s r a (record { answer = x; bench = after_open b x l })
opens c b s r a (Ok tt) l p = record { promise = p; bench = refl }
opens c b s r a (Err e) l p = record { promise = p; bench = refl }
