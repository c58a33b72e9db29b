-- The due times of a block's outstanding segments are those of the first records; what a check names.
-- Assumes nothing.
use mathlib.Core.Path.{◌≡◌, refl, sym, ap, ◌∙◌}
use mathlib.Core.Bool.{Bool, true}
use mathlib.Core.List.{List, [], ◌∷◌, map}
use Prim.Native.Nat.{ℕ, ◌≤◌}
use native.Mathlib.Omega.{arith}
use lib.ListN.{length, take}
use lib.Seq.{length-take-le}
use Rattle.protocol.specs.Ranges.{mss}
use Rattle.protocol.specs.declared.Refusal.{Refusal}
use Rattle.timing.specs.declared.Record.{Record}
use Rattle.sizes.specs.Sizes.{enough}
use Rattle.sizes.specs.declared.Lengths.{Lengths}
use Rattle.lists.specs.Joining.{joined}
use Rattle.lists.specs.declared.Outstanding.{Outstanding}
use Rattle.lists.specs.declared.Sent.{Sent}
use Rattle.schedule.specs.Schedules.{dues_of, named}
use Rattle.schedule.specs.declared.Schedule.{Schedule}
use Rattle.session.specs.Decides.{and_parts}
use Rattle.session.specs.Updating.{dues, checking}
use Rattle.words.specs.Words.{outstanding_at, outstanding_in}
use Rattle.words.proofs.Pairs.{paired_length}
use Rattle.control.specs.declared.Link.{Link}
use Rattle.control.specs.Views.{Whole, arrays_of, schedule_of, state_of, counts_fit, block_valid}
use Rattle.control.specs.ViewLaws.{counts}
use Rattle.checking.specs.Verdicts.{verdict_of}
use Rattle.checking.specs.VerdictLaws.{refused_by_lem, passed_by}
use Rattle.promises.specs.Answers.{time_outcome}
use Rattle.promises.specs.Outcomes.{checks_with}
use Rattle.answers.specs.Answers.{Answer}
use Rattle.std.specs.Prelude.{Err, Ok}

joined_dues : (l : List Outstanding) (rs : List Record) → map (λ (x : Sent). x.record.due) (joined l rs) ≡ dues_of (take (length l) rs)
unfolding joined
joined_dues [] rs = refl
joined_dues (o ∷ l) [] = refl
joined_dues (o ∷ l) (r ∷ rs) = ap (λ (ds : List ℕ). r.due ∷ ds) (joined_dues l rs)

module _ (l : Link) (records : List Record) (acks : List ℕ) (t : ℕ) where
  block_dues : Whole (arrays_of l) → l.flight.outstanding ≤ 32 → dues (state_of l records acks) ≡ dues_of (take l.flight.outstanding records)
  unfolding state_of
  block_dues whole h =
      let n = l.flight.outstanding in
      let many : length (outstanding_in l.outstanding l.transmissions n) ≡ n
      = paired_length outstanding_at (take n l.outstanding) (take n l.transmissions) n
      (length-take-le n l.outstanding (omega (arith, whole.whole_outstanding)))
      (length-take-le n l.transmissions (omega (arith, whole.whole_transmissions))) in
      joined_dues (outstanding_in l.outstanding l.transmissions n) records ∙ ap (λ (k : ℕ). dues_of (take k records)) many

  -- what the schedule names
  pub names : Whole (arrays_of l) → counts_fit l ≡ true → (s : Schedule) → s ≡ schedule_of l.clock → (when : ℕ)
      → when ≡ named s t l.settings.interval (dues_of (take l.flight.outstanding records))
      → when ≡ checking (state_of l records acks) t
  unfolding checking counts_fit state_of
  names whole fit s e when w =
      let few = (counts l.flight l.arrival fit).outstanding in
      rw (w, e, block_dues whole few)

  -- with the checks of 7 and 13, and the lent parts
  module _ (n : Lengths) (long : Bool) (v : Answer) (e : long ≡ enough (mss l.settings) n)
      (d : v ≡ verdict_of long (block_valid l records acks)) where
    -- both passed
    pub passes : v ≡ Ok tt → (counts_fit l ≡ true) × ((when : ℕ) → when ≡ checking (state_of l records acks) t
        → time_outcome (Ok when) ≡ checks_with l records acks n t)
    unfolding checks_with block_valid
    passes p =
        let both = passed_by long (block_valid l records acks) v d p in (
          (and_parts (counts_fit l) _ both.valid_block).0,
          λ when w. rw (← e, both.long_enough_lem, both.valid_block) (rw w),
        )

    -- one failed
    pub refuses : (q : Refusal) → v ≡ Err q → time_outcome (Err q) ≡ checks_with l records acks n t
    unfolding checks_with
    refuses q p = sym (rw (← e) (refused_by_lem _ long (block_valid l records acks) v q d p))
