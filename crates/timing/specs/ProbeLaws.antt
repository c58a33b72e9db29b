-- Laws of `Probes`: the four ways of the clock through a flush, and that the clock stays in range.
-- Assumes nothing.
use Rattle.std.specs.Prelude.{◌≡◌, refl, true, false, ℕ, ◌≤◌, ◌<◌, eqb, ltb}
use Rattle.std.proofs.Common.{inl, inr, arith}
use borrow.Author.Tests.{lt-ltb, le-ltb, eq-eqb, ne_eqb}
use Rattle.protocol.specs.Serial.{is_due}
use Rattle.timing.specs.Choices.{either_way}
use Rattle.timing.specs.Probes.{stopped, started, longer_wait, grown, next_clock}
use Rattle.timing.specs.TimeRanges.{WaitInRange, ClockFits}
use Rattle.timing.specs.declared.ProbeClock.{ProbeClock}
use Rattle.timing.specs.declared.Probed.{Probed}

-- a wait grown stays in range, and a wait of 0 stays 0
longer_in_range : (wait : ℕ) → WaitInRange wait → WaitInRange (longer_wait wait)
unfolding longer_wait
longer_in_range wait (inl e) = inl (omega arith)
longer_in_range wait (inr h) = inr (omega arith)

-- the clock c at a flush at t that finds this window of the peer
module _ (c : ProbeClock) (t window : ℕ) where
  -- the four ways, each by the tests that lead there
  pub when_open : {x : Probed} → 0 < window → x ≡ record { clock = stopped; ask = false } → x ≡ next_clock c t window
  unfolding next_clock
  when_open w q = rw (lt-ltb _ _ w) q

  pub when_stopped : {x : Probed} → window ≤ 0 → c.wait ≡ 0 → x ≡ record { clock = started t; ask = false } → x ≡ next_clock c t window
  unfolding next_clock
  when_stopped w e q = rw (le-ltb _ _ w, eq-eqb _ _ e) q

  pub when_due :
      {x : Probed} →
      window ≤ 0 →
      (c.wait ≡ 0 → ⊥) →
      is_due t c.due ≡ true →
      x ≡ record { clock = grown c.wait t; ask = true } →
      x ≡ next_clock c t window
  unfolding next_clock
  when_due w e d q = rw (le-ltb _ _ w, ne_eqb _ _ e, d) q

  pub when_not_due :
      {x : Probed} →
      window ≤ 0 →
      (c.wait ≡ 0 → ⊥) →
      is_due t c.due ≡ false →
      x ≡ record { clock = c; ask = false } →
      x ≡ next_clock c t window
  unfolding next_clock
  when_not_due w e d q = rw (le-ltb _ _ w, ne_eqb _ _ e, d) q

  -- what holds of each way holds of what the flush does
  pub each_way :
      (P : Probed → Type 0) →
      P (record { clock = stopped; ask = false }) →
      P (record { clock = started t; ask = false }) →
      P (record { clock = grown c.wait t; ask = true }) →
      P (record { clock = c; ask = false }) →
      P (next_clock c t window)
  unfolding next_clock
  each_way P stops starts grows waits =
      either_way P (ltb 0 window) stops (either_way P (eqb c.wait 0) starts (either_way P (is_due t c.due) grows waits))

  pub next_in_range : WaitInRange c.wait → WaitInRange (next_clock c t window).clock.wait
  next_in_range h = each_way (λ x. WaitInRange x.clock.wait) (inl refl) (inr (omega arith)) (longer_in_range c.wait h) h

  pub next_fits : ClockFits c → ClockFits (next_clock c t window).clock
  unfolding longer_wait
  next_fits f = each_way (λ x. ClockFits x.clock) (omega arith) (omega arith) (omega arith) f
