-- Taking in: what the core leaves over a block that has been checked, with its records put back into the table, is what the call promises.
-- Assumes nothing.
use Rattle.std.specs.Prelude.{Ok, Err}
use Rattle.std.proofs.Common.{◌≡◌, refl, Bool, List, ℕ, length, take}
use Rattle.protocol.specs.Protocol.{send_slots}
use Rattle.protocol.specs.Ranges.{mss}
use Rattle.protocol.specs.declared.Refusal.{Refusal}
use Rattle.timing.specs.declared.Record.{Record}
use Rattle.sizes.specs.Sizes.{enough}
use Rattle.session.specs.Input.{input}
use Rattle.control.specs.Views.{Whole, arrays_of, state_of, block_valid}
use Rattle.control.specs.declared.Link.{Link}
use Rattle.checking.specs.Verdicts.{Admitted}
use Rattle.checking.specs.VerdictLaws.{refused_by_lem}
use Rattle.records.specs.Tables.{slots_in, scattered}
use Rattle.promises.specs.Parts.{Parts, parts_of, lengths_of}
use Rattle.promises.specs.Outcomes.{takes_in_with}
use Rattle.promises.specs.Promises.{InputPromise}
use Rattle.block_check.specs.Lent.{lent_records}
use Rattle.block_check.proofs.Whole.{padded_whole}
use Rattle.from_cores.proofs.Gathered.{Gathers, gathers}
use Rattle.from_cores.proofs.TakingIn.{input_left, input_promised}
use Rattle.input_core.specs.Taking.{Hearable, Takes, accepted, put_by}
use Rattle.input_core.proofs.Checks.{admits, hearable}
use Rattle.input_core.proofs.Takes.{takes_nothing}
use Rattle.answers.specs.Answers.{Answer, Count}

-- v is the verdict on the block l with these parts
module _ (datagram : List ℕ) (l : Link) (p : Parts) (send marks : List ℕ) (long : Bool) (v : Answer)
    (e : long ≡ enough (mss l.settings) (lengths_of p)) (a : Admitted long l (lent_records l p.table) send marks v) where
  abbrev records : List Record
  records = lent_records l p.table

  gathered_lem : Gathers l p records (length p.table)
  gathered_lem = gathers l p l.flight.outstanding records (length p.table) refl refl refl

  few : length records ≡ 32
  few = padded_whole (take send_slots p.table) l.outstanding l.flight.outstanding

  -- what is left, by the outcome of the checks and the call's own
  promised : (r : Count) (l' : Link) (records' : List Record) (pool' acks' : List ℕ) → Whole (arrays_of l') → length records' ≡ 32
      → Takes (takes_in_with l records p.acks (lengths_of p) p.receive_pool datagram) l p.receive_pool p.acks r l' records' pool' acks'
      → (table' : List Record) → table' ≡ scattered p.table (slots_in (put_by r l' records').words (put_by r l' records').changed)
      (put_by r l' records').records → length (put_by r l' records').records ≡ 32
      → InputPromise datagram l p (accepted r) l' (parts_of p.send_pool pool' table' acks')
  promised r l' records' pool' acks' whole many h table' put many' =
      let b = put_by r l' records' in
      input_promised datagram l p (accepted r) b l' pool' acks' table' many' put
      (input_left datagram l p (accepted r) b l' pool' acks' records (length p.table) gathered_lem whole h)

  pub input_refused : Whole (arrays_of l) → (q : Refusal) → v ≡ Err q → InputPromise datagram l p (Err q) l p
  unfolding takes_in_with scattered
  input_refused whole q r =
      promised (Err q) l records p.receive_pool p.acks whole few
      (takes_nothing _ l p.receive_pool p.acks records q
      (rw (← e) (refused_by_lem _ long (block_valid l records p.acks) v q (a.verdict p.acks) r))) p.table refl few

  module _ (passes : v ≡ Ok tt) where
    pub input_hearable : Hearable l records marks p.acks p.receive_pool
    input_hearable = hearable l records (lengths_of p) p.receive_pool p.acks send marks long v e a passes few refl refl

    module _ (l' : Link) (records' : List Record) (pool' acks' : List ℕ) (whole : Whole (arrays_of l')) (many : length records' ≡ 32) where
      pub input_not_taken : (q : Refusal) → Takes (input (state_of l records p.acks) p.receive_pool datagram) l p.receive_pool p.acks
          (Err q) l' records' pool' acks' → InputPromise datagram l p (Err q) l' (parts_of p.send_pool pool' p.table acks')
      unfolding scattered
      input_not_taken q h =
          promised (Err q) l' records' pool' acks' whole many
          (rw (admits l records (lengths_of p) p.receive_pool p.acks send marks long v e a passes datagram) h) p.table refl many

      pub input_taken : (n : ℕ) → Takes (input (state_of l records p.acks) p.receive_pool datagram) l p.receive_pool p.acks (Ok n) l' records'
          pool' acks' → (table' : List Record) → table' ≡ scattered p.table (slots_in l'.outstanding n) records'
          → InputPromise datagram l p (Ok tt) l' (parts_of p.send_pool pool' table' acks')
      input_taken n h table' put =
          promised (Ok n) l' records' pool' acks' whole many
          (rw (admits l records (lengths_of p) p.receive_pool p.acks send marks long v e a passes datagram) h) table' put many
