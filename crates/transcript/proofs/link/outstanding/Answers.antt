-- `transcript::link::outstanding` meets its contract: after i turns the first i segments are put.
use Rattle.std.proofs.Common.{◌≡◌, ◌<◌, List, ℕ, length, get_or, arith, rules, length-append, take_all}
use Rattle.std.proofs.lemmas.Slice.Zip.{zip_turn, zip_end}
use Rattle.lists.specs.declared.Held.{Held}
use Rattle.words.specs.Words.{unpack, paired, outstanding_at}
use Rattle.words.proofs.Pairs.{paired_get}
use Rattle.transcript.specs.Lines.{outstanding_entry}
use Rattle.transcript.specs.LineLaws.{each_put, put_same, pairs_length}
use Rattle.transcript.proofs.link.outstanding.Goals as goal

-- the segment at an index
item : (h : Held) (w n : ℕ) (ws ns : List ℕ) (k : ℕ) → h ≡ unpack w → w ≡ get_or ws k 0 → n ≡ get_or ns k 0 → k < length ws → k < length ns
    → record { held = h; transmissions = n } ≡ get_or (paired outstanding_at ws ns) k (outstanding_at 0 0)
item h w n ws ns k e f g inside beside = rw (paired_get outstanding_at ws ns k (outstanding_at 0 0) inside beside, e, f, g)

pub loop-word-preserved : goal.loop-word-preserved
loop-word-preserved c =
    let l = c.loop-word in
    let words = c.args.words.now in
    let numbers = c.args.transmissions.now in
    let turn = zip_turn words numbers l.yielded c.into_iter-word-iterator.result l.word-iterator c.next.new.self c.next.result
    (search rules) (search rules) l.yielded_by (c.in-Some.word, c.in-Some.transmissions)
    c.in-Some.is c.next.ensures.steps in
    let k = length l.yielded in
    let pairs = paired outstanding_at words numbers in
    let here = item c.from.result _ _ words numbers k c.from.ensures (turn.2 0) (turn.3 0) turn.0 turn.1 in
    rw length-append (each_put (outstanding_entry c.args.table.now) pairs k _ _ _ _ _ _ _ (omega (arith, turn.0, turn.1, pairs_length outstanding_at words numbers)) l.invariant
    (put_same (outstanding_entry c.args.table.now) here (rw c.record_at.ensures at c.outstanding_entry-here.ensures)))

pub returns : goal.returns
returns c =
    let words = c.args.words.now in
    let numbers = c.args.transmissions.now in
    let last = zip_end words numbers c.loop-word.yielded c.into_iter-word-iterator.result c.loop-word.word-iterator c.next.new.self
    c.next.result (search rules) (search rules) c.loop-word.yielded_by c.in-None.is
    c.next.ensures.steps in
    rw (take_all (length c.loop-word.yielded) (paired outstanding_at words numbers) (omega (arith, last, pairs_length outstanding_at words numbers))) at
    c.loop-word.invariant
