-- What C gets of an update and of a check, whatever block and parts they are given: the count of an update's datagrams as it is, one number
-- alone where it does not flush, which is no count's and no refusal's, and the time that a check names.
-- Assumes nothing.
use Rattle.std.specs.Prelude.{◌≡◌, refl, true, ℕ, ℤ, pos, length, Err, Ok}
use Rattle.std.proofs.Common.{sym, ap, ◌∙◌, subst, arith, le-ltb}
use Rattle.std.proofs.lemmas.Bool.{false≢true}
use Rattle.std.specs.Int.Signed.{lt_z}
use Rattle.protocol.specs.declared.Refusal.{Refusal}
use Rattle.protocol.specs.declared.Refusal.TheVariants as refusal
use Rattle.session.specs.State.{Outcome, refused, done}
use Rattle.session.specs.Updating.{Updates, waits, flushes}
use Rattle.control.specs.declared.Link.{Link}
use Rattle.promises.specs.Parts.{Parts, FlushParts}
use Rattle.promises.specs.Outcomes.{updates, checks}
use Rattle.promises.specs.Answers.{update_answer, time_outcome}
use Rattle.promises.specs.Promises.{UpdatePromise}
use Rattle.codes.specs.Codes.{refusal_code, not_yet, update_code, time_code, time_stored}
use Rattle.codes.specs.Gives.{Gives}
use Rattle.demands.specs.CountLaws.{OfResult, FewDatagrams}
use Rattle.demands.proofs.CountLaws.{updates_few}
use Rattle.results.specs.Times.{TimePromise}
use Rattle.answers.specs.Answers.{Update, Time}

-- the refusal's number below zero, the number of an update that does not flush, or the very count of its datagrams
abbrev pub UpdateTold : Outcome Updates → ℤ → Type 0
UpdateTold (refused x) r = r ≡ refusal_code x
UpdateTold (done (waits s)) r = r ≡ not_yet
UpdateTold (done (flushes x)) r = r ≡ pos (length x.datagrams)

-- the refusal's number, and what was stored stays; or 0, and the time is stored
abbrev pub TimeTold : Outcome ℕ → ℕ → ℤ → ℕ → Type 0
TimeTold (refused x) was r stored = (r ≡ refusal_code x) × (stored ≡ was)
TimeTold (done when) was r stored = (r ≡ pos 0) × (stored ≡ when)

-- ---- that number is no count's, and no refusal's

pub no_count : (n : ℕ) → not_yet ≡ pos n → ⊥
no_count n e = false≢true (sym (le-ltb n 0 (omega arith)) ∙ ap (λ (z : ℤ). lt_z z (pos 0)) (sym e))

-- it is below every refusal's
below_refusal : (x : Refusal) → lt_z not_yet (refusal_code x) ≡ true
below_refusal refusal.ShortDatagram = refl
below_refusal refusal.OtherConversation = refl
below_refusal refusal.LengthPastEnd = refl
below_refusal refusal.UnknownCommand = refl
below_refusal refusal.LongPayload = refl
below_refusal refusal.HighFragment = refl
below_refusal refusal.ShortPart = refl
below_refusal refusal.NoMessage = refl
below_refusal refusal.LongMessage = refl
below_refusal refusal.NoFreeSlots = refl
below_refusal refusal.SettingOutOfRange = refl
below_refusal refusal.InvalidBlock = refl
below_refusal refusal.TrailingBytes = refl

pub no_refusal : (x : Refusal) → not_yet ≡ refusal_code x → ⊥
no_refusal x e = false≢true (ap (lt_z not_yet) e ∙ below_refusal x)

-- ---- the calls

update_code_lem : (o : Outcome Updates) → OfResult FewDatagrams o → (a : Update) → a ≡ update_answer o → UpdateTold o (update_code a)
update_code_lem (refused x) few a e = ap update_code e
update_code_lem (done (waits s)) few a e = ap update_code e
update_code_lem (done (flushes x)) few a e = ap update_code e ∙ ap pos (omega (arith, few))

module _ (l : Link) (p : Parts) (r : ℤ) where
  pub update_told : (t : ℕ) (f : FlushParts) (l' : Link) (p' : Parts) (f' : FlushParts)
      → Gives update_code (λ (a : Update). UpdatePromise t l p f a l' p' f') r
      → UpdateTold (updates l p f t) r
  update_told t f l' p' f' g =
      rw g.number
      (update_code_lem (updates l p f t) (updates_few l p f t) g.answer g.promise.answer)

  pub check_told : (t was stored : ℕ) → Gives time_code (λ (a : Time). TimePromise t l p a was stored) r
      → TimeTold (checks l p t) was r stored
  check_told t was stored g = subst (λ (o : Outcome ℕ). TimeTold o was r stored) g.promise.time.answer
      (rw (g.number, g.promise.when) (go g.answer))
    where
      go : (a : Time) → TimeTold (time_outcome a) was (time_code a) (time_stored a was)
      go (Ok when) = (refl, refl)
      go (Err x) = (refl, refl)
