-- Reading: what the core leaves, with every lent part as it was, is what the call promises.
-- Assumes nothing.
use mathlib.Core.Path.{refl, subst}
use mathlib.Core.List.{List}
use Prim.Native.Nat.{ℕ}
use lib.ListN.{length}
use Rattle.timing.specs.declared.Record.{Record}
use Rattle.session.specs.State.{Outcome, refused, done}
use Rattle.session.specs.Reading.{Reads, reading}
use Rattle.control.specs.declared.Link.{Link}
use Rattle.promises.specs.Parts.{Parts, lent_lengths}
use Rattle.promises.specs.Outcomes.{reads_with, reads}
use Rattle.promises.specs.Answers.{Counts}
use Rattle.promises.specs.AnswerLaws.{counts_number}
use Rattle.promises.specs.Promises.{ReadPromise, ReadLeaves}
use Rattle.promises.specs.Cores.{ReadCore}
use Rattle.from_cores.proofs.Gathered.{Gathers, outcome_in, stands_in}
use Rattle.answers.specs.Answers.{Count}

module _ (l : Link) (p : Parts) (records : List Record) (n : ℕ) (g : Gathers l p records n) (buffer : List ℕ) (a : Count) (l' : Link)
    (buffer' : List ℕ) where
  abbrev Left : Outcome Reads → Type 0
  Left o = ReadCore o l records p.acks buffer a l' buffer'

  answers : (o : Outcome Reads) → Left o → Counts (λ (x : Reads). length x.bytes) a o
  answers (refused r) h = h.0
  answers (done x) h = h.answer

  leaves : (o : Outcome Reads) → Left o → ReadLeaves o l l' p p buffer buffer'
  leaves (refused r) h = record { unchanged = record { link = h.1; parts = refl }; bytes = h.2 }
  leaves (done x) h = record {
    stands = stands_in l p records n g l' x.state h.slots h.counts h.state;
    parts = refl;
    bytes = h.bytes;
  }

  pub read_promised : Left (reads_with l records p.acks (lent_lengths n p.send_pool p.receive_pool p.acks) p.receive_pool
      (length buffer)) → ReadPromise l p buffer a l' p buffer'
  unfolding reads_with
  read_promised h =
      let k : Left (reads l p (length buffer)) =
      subst Left (outcome_in l p records n g (λ s. reading s p.receive_pool (length buffer))) h in
      record {
        answer = answers (reads l p (length buffer)) k;
        number = counts_number (λ (x : Reads). length x.bytes) a (reads l p (length buffer)) (answers (reads l p (length buffer)) k);
        leaves = leaves (reads l p (length buffer)) k;
      }
