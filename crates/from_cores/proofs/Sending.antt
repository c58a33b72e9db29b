-- Sending: what the core leaves, with the table as it was, is what the call promises.
-- Assumes nothing.
use mathlib.Core.Path.{refl, ap, subst}
use mathlib.Core.List.{List}
use Prim.Native.Nat.{ℕ}
use Rattle.timing.specs.declared.Record.{Record}
use Rattle.session.specs.State.{Outcome, refused, done}
use Rattle.session.specs.Sending.{Sends, sending}
use Rattle.control.specs.declared.Link.{Link}
use Rattle.promises.specs.Parts.{Parts, lent_lengths, parts_of}
use Rattle.promises.specs.Outcomes.{sends_with, sends}
use Rattle.promises.specs.Answers.{Accepts}
use Rattle.promises.specs.AnswerLaws.{accepts_number}
use Rattle.promises.specs.Promises.{SendPromise, SendLeaves}
use Rattle.promises.specs.Cores.{SendCore}
use Rattle.from_cores.proofs.Gathered.{Gathers, outcome_in, stands_in}
use Rattle.answers.specs.Answers.{Answer}

module _ (l : Link) (p : Parts) (records : List Record) (n : ℕ) (g : Gathers l p records n) (a : Answer) (l' : Link) (pool' : List ℕ) where
  -- the parts after it
  abbrev after : Parts
  after = parts_of pool' p.receive_pool p.table p.acks

  abbrev Left : Outcome Sends → Type 0
  Left o = SendCore o l records p.acks p.send_pool a l' pool'

  answers : (o : Outcome Sends) → Left o → Accepts a o
  answers (refused r) h = h.0
  answers (done x) h = h.answer

  leaves : (o : Outcome Sends) → Left o → SendLeaves o l l' p after
  leaves (refused r) h = record { link = h.1; parts = ap (λ (z : List ℕ). parts_of z p.receive_pool p.table p.acks) h.2 }
  leaves (done x) h =
      let s = stands_in l p records n g l' x.state h.slots h.counts h.state in
      record { stands = record { counts = s.counts; state = s.state }; send_pool = h.pool; receive_pool = refl; table = refl; acks = refl }

  pub send_promised : (message : List ℕ)
      → Left (sends_with l records p.acks (lent_lengths n p.send_pool p.receive_pool p.acks) p.send_pool message)
      → SendPromise message l p a l' after
  unfolding sends_with
  send_promised message h =
      let k : Left (sends l p message) = subst Left (outcome_in l p records n g (λ s. sending s p.send_pool message)) h in
      record {
        answer = answers (sends l p message) k;
        number = accepts_number a (sends l p message) (answers (sends l p message) k);
        leaves = leaves (sends l p message) k;
      }
