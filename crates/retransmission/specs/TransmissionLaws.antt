-- Laws of `Transmissions`: the four ways of a segment through a flush, and that what a flush or a skip leaves is in range.
-- Assumes nothing.
use Rattle.std.specs.Prelude.{◌≡◌, Bool, cond, ◌&&◌, ℕ, ◌^◌, ◌≤◌, ◌<◌, eqb}
use Rattle.std.proofs.Math.Path.{refl}
use Rattle.std.proofs.Math.Bool.{true, false, not}
use Rattle.std.proofs.Common.{arith, eq-eqb, ne_eqb}
use Rattle.protocol.specs.Protocol.{dead_after}
use Rattle.protocol.specs.Serial.{is_due}
use Rattle.protocol.specs.declared.Settings.{Settings}
use Rattle.timing.specs.Choices.{either_way}
use Rattle.timing.specs.RoundTripLaws.{least_most}
use Rattle.timing.specs.TimeRanges.{TimeoutInRange, RecordInRange, RecordFits}
use Rattle.retransmission.specs.Transmissions.{
  first_due,
  first_transmission,
  longer_timeout,
  timed_out,
  is_skipped,
  fast_transmission,
  counted,
  sending,
  sending_by,
  is_sent,
  is_late,
  is_fast,
  not_sent,
  transmission,
  skipped,
}
use Rattle.timing.specs.declared.Record.{Record}
use Rattle.retransmission.specs.declared.Cause.TheVariants.{Late, Fast}
use Rattle.retransmission.specs.declared.Transmission.{Transmission}

longer_in_range : (mode own link : ℕ) → TimeoutInRange mode own → TimeoutInRange mode (longer_timeout mode own link)
unfolding longer_timeout
longer_in_range mode own link h = record { least = omega (arith, least_most mode); most = omega arith }

first_due_fits : (mode link t : ℕ) → first_due mode link t < 2 ^ 32
unfolding first_due
first_due_fits mode link t = either_way (λ x. x < 2 ^ 32) (eqb mode 0) (omega arith) (omega arith)

-- a segment with n transmissions and the record r, at a flush at t
module _ (s : Settings) (link t n : ℕ) (r : Record) where
  -- the four ways, each by the tests that lead there
  pub when_never_sent : {x : Transmission} → n ≡ 0 → x ≡ sending n (first_transmission s.mode link t r) → x ≡ transmission s link t n r
  unfolding transmission
  when_never_sent e q = rw (eq-eqb _ _ e) q

  pub when_due :
      {x : Transmission} →
      (n ≡ 0 → ⊥) →
      is_due t r.due ≡ true →
      x ≡ sending_by Late n (timed_out s.mode link t r) →
      x ≡ transmission s link t n r
  unfolding transmission
  when_due e d q = rw (ne_eqb _ _ e, d) q

  pub when_skipped :
      {x : Transmission} →
      (n ≡ 0 → ⊥) →
      is_due t r.due ≡ false →
      is_skipped s.threshold n r.skips ≡ true →
      x ≡ sending_by Fast n (fast_transmission t r) →
      x ≡ transmission s link t n r
  unfolding transmission
  when_skipped e d k q = rw (ne_eqb _ _ e, d, k) q

  pub when_none :
      {x : Transmission} →
      (n ≡ 0 → ⊥) →
      is_due t r.due ≡ false →
      is_skipped s.threshold n r.skips ≡ false →
      x ≡ not_sent n r →
      x ≡ transmission s link t n r
  unfolding transmission
  when_none e d k q = rw (ne_eqb _ _ e, d, k) q

  -- what holds of each way holds of what the flush does
  pub each_way :
      (P : Transmission → Type 0) →
      P (sending n (first_transmission s.mode link t r)) →
      P (sending_by Late n (timed_out s.mode link t r)) →
      P (sending_by Fast n (fast_transmission t r)) →
      P (not_sent n r) →
      P (transmission s link t n r)
  unfolding transmission
  each_way P first due fast unsent =
      either_way P (eqb n 0) first (either_way P (is_due t r.due) due (either_way P (is_skipped s.threshold n r.skips) fast unsent))

  -- the record stays in range
  pub transmission_in_range : TimeoutInRange s.mode link → RecordInRange s.mode r
      → RecordInRange s.mode (transmission s link t n r).updated
  transmission_in_range l h =
      each_way (λ x. RecordInRange s.mode x.updated)
      (record { timeout = l; skips = h.skips })
      (record { timeout = longer_in_range s.mode r.timeout link h.timeout; skips = h.skips })
      (record { timeout = h.timeout; skips = omega arith })
      h

  pub transmission_fits : link < 2 ^ 32 → RecordFits r → RecordFits (transmission s link t n r).updated
  unfolding longer_timeout
  transmission_fits l f =
      each_way (λ x. RecordFits x.updated)
      (record { number = f.number; due = first_due_fits s.mode link t; timeout = l; skips = f.skips })
      (omega arith)
      (omega arith)
      f

  -- transmissions stay at most 20
  pub transmission_count : n ≤ dead_after → (transmission s link t n r).transmissions ≤ dead_after
  transmission_count h = each_way (λ x. x.transmissions ≤ dead_after) (omega arith) (omega arith) (omega arith) h

  -- a segment keeps its number
  pub transmission_number : (transmission s link t n r).updated.number ≡ r.number
  transmission_number = each_way (λ x. x.updated.number ≡ r.number) refl refl refl refl

  -- what is sent counts once, what is not sent stays
  pub transmission_sent : is_sent (transmission s link t n r) ≡ true → (transmission s link t n r).transmissions ≡ counted n
  transmission_sent = each_way (λ x. is_sent x ≡ true → x.transmissions ≡ counted n) (λ _. refl) (λ _. refl) (λ _. refl) (λ e. cc)

  pub transmission_not_sent : is_sent (transmission s link t n r) ≡ false → transmission s link t n r ≡ not_sent n r
  transmission_not_sent = each_way (λ x. is_sent x ≡ false → x ≡ not_sent n r) (λ e. cc) (λ e. cc) (λ e. cc) (λ _. refl)

  -- by the tests for a first transmission, a due one and a skipped one
  abbrev ways : Bool → Bool → Bool → Transmission
  ways never due skips =
      cond never
      (sending n (first_transmission s.mode link t r))
      (cond due
      (sending_by Late n (timed_out s.mode link t r))
      (cond skips (sending_by Fast n (fast_transmission t r)) (not_sent n r)))

  -- late exactly where it was sent before and is due
  pub transmission_late : is_late (transmission s link t n r) ≡ (not (eqb n 0) && is_due t r.due)
  unfolding transmission
  transmission_late = go (eqb n 0) (is_due t r.due) (is_skipped s.threshold n r.skips)
    where
      go : (a b k : Bool) → is_late (ways a b k) ≡ (not a && b)
      go true b k = refl
      go false true k = refl
      go false false true = refl
      go false false false = refl

  -- fast exactly where it was sent before, is not due, and was skipped
  pub transmission_fast : is_fast (transmission s link t n r) ≡
      (not (eqb n 0) && not (is_due t r.due) && is_skipped s.threshold n r.skips)
  unfolding transmission
  transmission_fast = go (eqb n 0) (is_due t r.due) (is_skipped s.threshold n r.skips)
    where
      go : (a b k : Bool) → is_fast (ways a b k) ≡ (not a && not b && k)
      go true b k = refl
      go false true k = refl
      go false false true = refl
      go false false false = refl

-- a skip leaves a record in range
pub skip_in_range : (mode : ℕ) (r : Record) → TimeoutInRange mode r.timeout → RecordInRange mode (skipped r)
skip_in_range mode r h = record { timeout = h; skips = omega arith }

pub skip_fits : (r : Record) → RecordFits r → RecordFits (skipped r)
skip_fits r f = omega arith
