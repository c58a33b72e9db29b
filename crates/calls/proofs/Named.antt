-- What a check promises where the checks of 7 and 13 refuse it, and where they pass what its core names.
-- Assumes nothing.
use Rattle.std.proofs.Common.{◌≡◌, refl, true, List, ℕ, Bool, length, Ok, Err}
use Rattle.protocol.specs.Ranges.{mss}
use Rattle.protocol.specs.declared.Refusal.{Refusal}
use Rattle.timing.specs.declared.Record.{Record}
use Rattle.sizes.specs.Sizes.{enough}
use Rattle.session.specs.Updating.{checking}
use Rattle.control.specs.Views.{state_of, counts_fit}
use Rattle.control.specs.declared.Link.{Link}
use Rattle.checking.specs.Verdicts.{Admitted}
use Rattle.promises.specs.Parts.{Parts, lengths_of}
use Rattle.promises.specs.Promises.{CheckPromise}
use Rattle.block_check.specs.Lent.{lent_records}
use Rattle.from_cores.proofs.Gathered.{gathers}
use Rattle.from_cores.proofs.Asking.{check_promised}
use Rattle.check_core.proofs.Dues.{passes, refuses}
use Rattle.answers.specs.Answers.{Answer}

module _ (l : Link) (p : Parts) (long : Bool) (e : long ≡ enough (mss l.settings) (lengths_of p)) (send receive : List ℕ) (v : Answer)
    (a : Admitted long l (lent_records l p.table) send receive v) (t : ℕ) where
  -- one of the checks refuses
  pub unnamed : (q : Refusal) → v ≡ Err q → CheckPromise t l p (Err q)
  unnamed q r =
      let records = lent_records l p.table in
      check_promised l p records (length p.table) (gathers l p l.flight.outstanding records (length p.table) refl refl refl) t (Err q)
      (refuses l records p.acks t (lengths_of p) long v e (a.verdict p.acks) q r)

  -- both pass
  module _ (r : v ≡ Ok tt) where
    pub counted : counts_fit l ≡ true
    counted = (passes l (lent_records l p.table) p.acks t (lengths_of p) long v e (a.verdict p.acks) r).0

    -- these are the records of the table, gathered
    pub named : (records : List Record) → records ≡ lent_records l p.table → (when : ℕ)
        → ((acks : List ℕ) → when ≡ checking (state_of l records acks) t) → CheckPromise t l p (Ok when)
    named records same when w =
        check_promised l p records (length p.table) (gathers l p l.flight.outstanding records (length p.table) refl same refl) t (Ok when)
        ((passes l records p.acks t (lengths_of p) long v e (rw same (a.verdict p.acks)) r).1 when (w p.acks))
