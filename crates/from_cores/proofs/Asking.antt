-- The calls that change nothing: what their cores say is what they promise.
-- Assumes nothing.
use mathlib.Core.Path.{◌≡◌, subst, ◌∙◌}
use mathlib.Core.List.{List}
use Prim.Native.Nat.{ℕ}
use Rattle.timing.specs.declared.Record.{Record}
use Rattle.session.specs.State.{State, Outcome, done}
use Rattle.session.specs.Reading.{Part, telling, showing}
use Rattle.session.specs.Updating.{checking}
use Rattle.control.specs.declared.Link.{Link}
use Rattle.promises.specs.Parts.{Parts, lent_lengths}
use Rattle.promises.specs.Outcomes.{tells_with, shows_with, checks_with, tells, checks, shows}
use Rattle.promises.specs.Answers.{count_outcome, time_outcome}
use Rattle.promises.specs.AnswerLaws.{count_number_lem, time_number_lem}
use Rattle.promises.specs.Promises.{SizePromise, CheckPromise}
use Rattle.from_cores.proofs.Gathered.{Gathers, outcome_in}
use Rattle.answers.specs.Answers.{Count, Time}

module _ (l : Link) (p : Parts) (records : List Record) (n : ℕ) (g : Gathers l p records n) where
  pub size_promised : (a : Count) → count_outcome a ≡ tells_with l records p.acks (lent_lengths n p.send_pool p.receive_pool p.acks)
      → SizePromise l p a
  unfolding tells_with
  size_promised a e =
      let answer = e ∙ outcome_in l p records n g telling in
      record { answer = answer; number = count_number_lem a (tells l p) answer }

  pub check_promised : (t : ℕ) (a : Time)
      → time_outcome a ≡ checks_with l records p.acks (lent_lengths n p.send_pool p.receive_pool p.acks) t → CheckPromise t l p a
  unfolding checks_with
  check_promised t a e =
      let answer = e ∙ outcome_in l p records n g (λ (s : State). done (checking s t)) in
      record { answer = answer; number = time_number_lem a (checks l p t) answer }

  shown_in : shows_with l records p.acks (lent_lengths n p.send_pool p.receive_pool p.acks) ≡ shows l p
  unfolding shows_with
  shown_in = outcome_in l p records n g showing

  -- what holds of the core's outcome of showing holds of the promise's
  pub shows_promised : (P : Outcome Part → Type 0)
      → P (shows_with l records p.acks (lent_lengths n p.send_pool p.receive_pool p.acks)) → P (shows l p)
  shows_promised P h = subst P shown_in h
