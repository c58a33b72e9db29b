-- An answer that fits its outcome has the outcome's number.
-- Assumes nothing.
use Rattle.std.specs.Prelude.{◌≡◌, ℕ, Err, Ok}
use Rattle.std.proofs.Common.{ap}
use Rattle.session.specs.State.{Outcome, refused, done}
use Rattle.session.specs.Updating.{Updates, waits, flushes}
use Rattle.promises.specs.Answers.{
  Accepts,
  Counts,
  count_outcome,
  update_answer,
  time_outcome,
  outcome_number,
  answer_number,
  count_number,
  update_number,
  time_number,
}
use Rattle.answers.specs.Answers.{Answer, Count, Update, Time}

pub accepts_number : {A : Type 0} (a : Answer) (o : Outcome A) → Accepts a o → answer_number a ≡ outcome_number o
accepts_number a (refused r) e = ap answer_number e
accepts_number a (done x) e = ap answer_number e

pub counts_number : {A : Type 0} (size : A → ℕ) (a : Count) (o : Outcome A) → Counts size a o → count_number a ≡ outcome_number o
counts_number size a (refused r) e = ap count_number e
counts_number size a (done x) e = ap count_number e

pub update_number_lem : (a : Update) (o : Outcome Updates) → a ≡ update_answer o → update_number a ≡ outcome_number o
update_number_lem a (refused r) e = ap update_number e
update_number_lem a (done (waits s)) e = ap update_number e
update_number_lem a (done (flushes x)) e = ap update_number e

pub count_number_lem : (a : Count) (o : Outcome ℕ) → count_outcome a ≡ o → count_number a ≡ outcome_number o
count_number_lem (Ok n) o e = ap outcome_number e
count_number_lem (Err r) o e = ap outcome_number e

pub time_number_lem : (a : Time) (o : Outcome ℕ) → time_outcome a ≡ o → time_number a ≡ outcome_number o
time_number_lem (Ok t) o e = ap outcome_number e
time_number_lem (Err r) o e = ap outcome_number e
