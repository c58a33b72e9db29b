-- What a flush, or an update, promises where the checks of 7 and 13 refuse it, and where they pass what its core leaves.
-- Assumes nothing.
use Rattle.std.proofs.Common.{◌≡◌, refl, Bool, List, [], ℕ, length, Ok, Err}
use Rattle.protocol.specs.Ranges.{mss}
use Rattle.protocol.specs.declared.Refusal.{Refusal}
use Rattle.timing.specs.declared.Record.{Record}
use Rattle.sizes.specs.Sizes.{enough_to_flush}
use Rattle.control.specs.Views.{Whole, arrays_of, block_valid}
use Rattle.control.specs.declared.Link.{Link}
use Rattle.checking.specs.Verdicts.{Admitted, verdict_of}
use Rattle.records.specs.Tables.{slots_in, scattered}
use Rattle.promises.specs.Parts.{Parts, FlushParts, lengths_of, parts_of}
use Rattle.block_check.specs.Lent.{lent_records}
use Rattle.block_check.proofs.Whole.{padded_whole}
use Rattle.from_cores.proofs.Gathered.{gathers}
use Rattle.flush_core.specs.declared.Flushed.{Flushed}
use Rattle.flush_core.specs.Flushes.{Flushable, Runs}
use Rattle.flush_core.proofs.Checks as checks
use Rattle.calls.specs.Written.{WrittenOut}
use Rattle.calls.proofs.Paced.{left, promised}
use Rattle.answers.specs.Answers.{Answer}

module _ (l : Link) (p : Parts) (f : FlushParts) (long : Bool)
    (e : long ≡ enough_to_flush (mss l.settings) (lengths_of p) (length f.output) (length f.lengths)) (send receive : List ℕ) (v : Answer)
    (a : Admitted long l (lent_records l p.table) send receive v) where
  -- one of the checks refuses
  module _ (q : Refusal) (r : v ≡ Err q) (whole : Whole (arrays_of l)) (paced : Bool) (t : ℕ) where
    pub unwritten : WrittenOut paced t l p f (Err q) l p f
    unfolding scattered
    unwritten =
        let records = lent_records l p.table in
        let g = gathers l p l.flight.outstanding records (length p.table) refl refl refl in
        promised paced t l p f (Err q) _ l f p.table (padded_whole _ l.outstanding l.flight.outstanding) refl
        (left paced t l p f (Err q) _ l f records (length p.table) g whole
        (checks.unflushed l records (length p.table) p.send_pool p.receive_pool p.acks f.output f.lengths long v e (a.verdict p.acks) q r t
        [] records paced))

  -- both pass; these are the records of the table, gathered
  module _ (r : v ≡ Ok tt) (records : List Record) (same : records ≡ lent_records l p.table) where
    verdict : v ≡ verdict_of long (block_valid l records p.acks)
    verdict = rw same (a.verdict p.acks)

    pub flushable : Flushable l records p.send_pool p.acks f.output f.lengths
    flushable = checks.flushable l records (length p.table) p.send_pool p.receive_pool p.acks f.output f.lengths long v e verdict r

    pub written : (paced : Bool) (t : ℕ) (w : Flushed) (l' : Link) (records' : List Record) (f' : FlushParts) (table' : List Record)
        → Whole (arrays_of l') → length records' ≡ 32 → table' ≡ scattered p.table (slots_in l'.outstanding w.changed) records'
        → Runs paced l records p.send_pool p.acks t f.output f.lengths w l' records' f'.output f'.lengths
        → WrittenOut paced t l p f (Ok w.written) l' (parts_of p.send_pool p.receive_pool table' p.acks) f'
    written paced t w l' records' f' table' whole few put h =
        let g = gathers l p l.flight.outstanding records (length p.table) refl same refl in
        promised paced t l p f (Ok w.written) _ l' f' table' few put
        (left paced t l p f (Ok w.written) _ l' f' records (length p.table) g whole
        (checks.ran l records (length p.table) p.send_pool p.receive_pool p.acks f.output f.lengths long v e verdict r paced t w l' records'
        f'.output f'.lengths h))
