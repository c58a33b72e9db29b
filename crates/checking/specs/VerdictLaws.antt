-- Laws of `Verdicts`: what a call gives that has been checked.
-- Assumes nothing.
use Rattle.std.specs.Prelude.{◌≡◌, refl, Bool, true, false, cond, ◌&&◌, List, ℕ, Err, Ok}
use Rattle.std.proofs.Common.{sym, ap, ◌∙◌, arith}
use Rattle.protocol.specs.declared.Refusal.{Refusal}
use Rattle.protocol.specs.declared.Refusal.TheVariants.{ShortPart, InvalidBlock}
use Rattle.timing.specs.declared.Record.{Record}
use Rattle.session.specs.State.{Outcome, refused}
use Rattle.control.specs.declared.Link.{Link}
use Rattle.checking.specs.Verdicts.{Checked, Admitted, Flown, Sound, verdict_of}
use Rattle.answers.specs.Answers.{Answer}

-- a verdict that is a refusal is the call's
pub refused_by_lem : {A : Type 0} (own : Outcome A) (long made : Bool) (v : Answer) (r : Refusal) → v ≡ verdict_of long made → v ≡ Err r
    → cond long (cond made own (refused InvalidBlock)) (refused ShortPart) ≡ refused r
refused_by_lem own false made v r e f = cc
refused_by_lem own true false v r e f = cc
refused_by_lem own true true v r e f = absurd (let z : ◌≡◌ {A = ℕ} 0 1 = cc in omega arith)

-- one that passes: both checks have passed
pub record Passes (long made : Bool) : Type 0 where
  pub long_enough_lem : long ≡ true
  pub valid_block : made ≡ true

pub passed_by : (long made : Bool) (v : Answer) → v ≡ verdict_of long made → v ≡ Ok tt → Passes long made
passed_by true true v e f = record { long_enough_lem = refl; valid_block = refl }
passed_by true false v e f = absurd (let z : ◌≡◌ {A = ℕ} 0 1 = cc in omega arith)
passed_by false made v e f = absurd (let z : ◌≡◌ {A = ℕ} 0 1 = cc in omega arith)

-- a sound block with the records that `flown` tells of: its verdict, and what is known where it passes
module _ (l : Link) (records : List Record) (send receive : List ℕ) where
  by_verdict : (long made : Bool) → Checked l records send receive made → verdict_of long made ≡ Ok tt → Checked l records send receive true
  by_verdict long true c e = c
  by_verdict long false c e = absurd (never long e)
    where
      never : (b : Bool) → verdict_of b false ≡ Ok tt → ⊥
      never true e = let z : ◌≡◌ {A = ℕ} 0 1 = cc in omega arith
      never false e = let z : ◌≡◌ {A = ℕ} 0 1 = cc in omega arith

  pub admitted : (long sound flown : Bool) (v : Answer) → v ≡ verdict_of long (sound && flown) → Sound l send receive sound
      → Flown l records flown → Admitted long l records send receive v
  admitted long sound flown v e s w =
      let c = s flown records w in
      record {
        verdict = λ acks. e ∙ ap (verdict_of long) (c.fits acks);
        checked = λ p. by_verdict long (sound && flown) c (sym e ∙ p);
      }
