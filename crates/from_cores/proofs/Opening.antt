-- Opening: what the core leaves is what the call promises; no lent part changes.
-- Assumes nothing.
use mathlib.Core.Path.{◌≡◌, refl}
use Prim.Native.Nat.{ℕ}
use lib.ListN.{length}
use Rattle.protocol.specs.declared.Settings.{Settings}
use Rattle.session.specs.State.{State, Outcome, refused, done}
use Rattle.control.specs.declared.Link.{Link}
use Rattle.promises.specs.Parts.{Parts, records_of, lent_lengths}
use Rattle.promises.specs.Outcomes.{opens_with, opens}
use Rattle.promises.specs.Answers.{Accepts}
use Rattle.promises.specs.AnswerLaws.{accepts_number}
use Rattle.promises.specs.Promises.{OpenPromise, OpenLeaves}
use Rattle.promises.specs.Cores.{OpenCore}
use Rattle.answers.specs.Answers.{Answer}

module _ (c : Settings) (l : Link) (p : Parts) (a : Answer) (l' : Link) where
  answers : (o : Outcome State) → OpenCore o l a l' → Accepts a o
  answers (refused q) h = h.0
  answers (done s) h = h.answer

  leaves : (o : Outcome State) → OpenCore o l a l' → OpenLeaves o l l' p p
  leaves (refused q) h = record { link = h.1; parts = refl }
  leaves (done s) h = (record { counts = h.counts; state = h.state (records_of l' p) p.acks }, refl)

  pub open_promised : (n : ℕ) → n ≡ length p.table
      → OpenCore (opens_with c (lent_lengths n p.send_pool p.receive_pool p.acks)) l a l' → OpenPromise c l p a l' p
  open_promised n e h =
      let k : OpenCore (opens c p) l a l' = rw e at h in
      record {
        answer = answers (opens c p) k;
        number = accepts_number a (opens c p) (answers (opens c p) k);
        leaves = leaves (opens c p) k;
      }
