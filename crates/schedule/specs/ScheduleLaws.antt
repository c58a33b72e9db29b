-- Laws of `Schedules`: the 10,000 rule as a test on the unsigned difference, the ways of an update and of a check, and the least of
-- the distances.
-- Assumes nothing.
use Rattle.std.specs.Prelude.{◌≡◌, refl, Bool, true, false, cond, ◌&&◌, ◌||◌, List, [], ◌∷◌, ◌⊎◌, ℕ, suc, ◌-◌, ◌^◌, ◌≤◌, ◌<◌, min, leb, ltb, pos, neg_ℤ}
use Rattle.std.proofs.Common.{sym, ◌∙◌, inl, inr, arith, ltb-true, ltb-false, lt-ltb, le-ltb, le-leb}
use Rattle.std.proofs.lemmas.Bool.{lt-leb}
use Rattle.std.proofs.Math.Decide.{dec_lt, dec_le}
use Rattle.std.specs.Int.Signed.{lt_z, le_z}
use Rattle.protocol.specs.Protocol.{clock_jump}
use Rattle.protocol.specs.Serial.{plus, minus, signed, is_due}
use Rattle.protocol.specs.SerialLaws.{signed_low, signed_high, due_test}
use Rattle.schedule.specs.Schedules.{is_astray, corrected, started, following, updated, ahead, earliest, named}
use Rattle.schedule.specs.declared.Schedule.{Schedule}
use Rattle.schedule.specs.declared.Updated.{Updated}

-- a test is passed or not
pub either : (b : Bool) → (b ≡ true) ⊎ (b ≡ false)
either true = inl refl
either false = inr refl

-- ---- tests as facts

-- astray: the difference is 10,000 or more, and less than 2^32 - 10,000
pub astray_test : (now next : ℕ) → is_astray now next ≡ (leb clock_jump (minus now next) && ltb (minus now next) (2 ^ 32 - clock_jump))
unfolding is_astray
astray_test now next = go (minus now next) (dec_lt (minus now next) (2 ^ 31)) (dec_lt (minus now next) (2 ^ 32 - clock_jump))
  where
    low : (b : Bool) → (b || false) ≡ (b && true)
    low true = refl
    low false = refl

    go : (x : ℕ) → Dec (x < 2 ^ 31) → Dec (x < 2 ^ 32 - clock_jump)
        → (le_z (pos clock_jump) (signed x) || lt_z (signed x) (neg_ℤ (pos clock_jump))) ≡ (leb clock_jump x && ltb x (2 ^ 32 - clock_jump))
    go x (yes h) k = rw (signed_low x h, lt-ltb x (2 ^ 32 - clock_jump) (omega arith)) (low (leb clock_jump x))
    go x (no h) (yes k) =
        rw (
          signed_high x (omega arith),
          le-leb clock_jump x (omega arith),
          lt-ltb x (2 ^ 32 - clock_jump) k,
          lt-ltb 9999 (2 ^ 32 - suc x) (omega arith),
        )
    go x (no h) (no k) =
        rw (
          signed_high x (omega arith),
          le-leb clock_jump x (omega arith),
          le-ltb x (2 ^ 32 - clock_jump) (omega arith),
          le-ltb 9999 (2 ^ 32 - suc x) (omega arith),
        )

pub near : (now next : ℕ) → (minus now next < clock_jump) ⊎ (2 ^ 32 - clock_jump ≤ minus now next) → is_astray now next ≡ false
near now next (inl h) = astray_test now next ∙ rw (lt-leb clock_jump (minus now next) h)
near now next (inr h) =
    astray_test now next ∙ rw (le-leb clock_jump (minus now next) (omega arith), le-ltb (minus now next) (2 ^ 32 - clock_jump) h)

pub not_astray : (now next : ℕ) → is_astray now next ≡ false → clock_jump ≤ minus now next → 2 ^ 32 - clock_jump ≤ minus now next
not_astray now next e h = ltb-false _ _ (rw (le-leb clock_jump (minus now next) h) at (sym (astray_test now next) ∙ e))

pub is_due_lem : (t d : ℕ) → is_due t d ≡ true → minus t d < 2 ^ 31
is_due_lem t d e = ltb-true _ _ (sym (due_test t d) ∙ e)

pub not_due : (t d : ℕ) → is_due t d ≡ false → 2 ^ 31 ≤ minus t d
not_due t d e = ltb-false _ _ (sym (due_test t d) ∙ e)

pub due_by : (t d : ℕ) → minus t d < 2 ^ 31 → is_due t d ≡ true
due_by t d h = due_test t d ∙ lt-ltb _ _ h

pub undue_by : (t d : ℕ) → 2 ^ 31 ≤ minus t d → is_due t d ≡ false
undue_by t d h = due_test t d ∙ le-ltb _ _ h

-- ---- how far ahead

pub ahead_due : (now d : ℕ) → is_due now d ≡ true → ahead now d ≡ 0
unfolding ahead
ahead_due now d e = rw e

pub ahead_undue : (now d : ℕ) → is_due now d ≡ false → ahead now d ≡ minus d now
unfolding ahead
ahead_undue now d e = rw e

pub ahead_now : (now : ℕ) → now < 2 ^ 32 → ahead now now ≡ 0
ahead_now now h = ahead_due now now (due_by now now (omega arith))

pub ahead_fits_lem : (now d : ℕ) → ahead now d < 2 ^ 32
ahead_fits_lem now d = go (either (is_due now d))
  where
    go : (is_due now d ≡ true) ⊎ (is_due now d ≡ false) → ahead now d < 2 ^ 32
    go (inl e) = rw (ahead_due now d e) (omega arith)
    go (inr e) = rw (ahead_undue now d e) (omega arith)

-- what is due later than now is not due now
pub later : (now d k : ℕ) → k < ahead now d → is_due now d ≡ false
later now d k h = go (either (is_due now d))
  where
    go : (is_due now d ≡ true) ⊎ (is_due now d ≡ false) → is_due now d ≡ false
    go (inl e) = absurd (let z = rw (ahead_due now d e) at h in omega arith)
    go (inr e) = e

-- a time is not due before the distance has passed
pub not_yet : (now d t : ℕ) → now < 2 ^ 32 → d < 2 ^ 32 → t < 2 ^ 32 → minus t now < ahead now d → is_due t d ≡ false
not_yet now d t hn hd ht h =
    let e = later now d (minus t now) h in
    let far = not_due now d e in
    let less : minus t now < minus d now = rw (ahead_undue now d e) at h in
    undue_by t d (omega arith)

-- and it is due when it has
pub just_then : (now d : ℕ) → now < 2 ^ 32 → d < 2 ^ 32 → is_due (plus now (ahead now d)) d ≡ true
just_then now d hn hd = go (either (is_due now d))
  where
    go : (is_due now d ≡ true) ⊎ (is_due now d ≡ false) → is_due (plus now (ahead now d)) d ≡ true
    go (inl e) = let f = is_due_lem now d e in rw (ahead_due now d e) (due_by (plus now 0) d (omega arith))
    go (inr e) = rw (ahead_undue now d e) (due_by (plus now (minus d now)) d (omega arith))

-- ---- the least of the distances

-- P holds of each
abbrev pub Each : (ℕ → Type 0) → List ℕ → Type 0
Each P [] = Unit {0}
Each P (d ∷ l) = P d × Each P l

-- one of them is due
abbrev pub any_due : ℕ → List ℕ → Bool
any_due t [] = false
any_due t (d ∷ l) = is_due t d || any_due t l

pub earliest_most : (now most : ℕ) (l : List ℕ) → earliest now most l ≤ most
unfolding earliest
earliest_most now most [] = omega arith
earliest_most now most (d ∷ l) = omega (arith, earliest_most now (min most (ahead now d)) l)

-- what is below the least is below each
pub earliest_below : (now k most : ℕ) (l : List ℕ) → k < earliest now most l → (k < most) × Each (λ d. k < ahead now d) l
unfolding earliest
earliest_below now k most [] h = (h, tt)
earliest_below now k most (d ∷ l) h = let r = earliest_below now k (min most (ahead now d)) l h in (omega arith, (omega arith, r.1))

or-true : (b : Bool) → (b || true) ≡ true
or-true true = refl
or-true false = refl

-- the least is the limit, or then one is due
pub earliest_found : (now most : ℕ) (l : List ℕ) → now < 2 ^ 32 → Each (λ d. d < 2 ^ 32) l
    → (earliest now most l ≡ most) ⊎ (any_due (plus now (earliest now most l)) l ≡ true)
unfolding earliest
earliest_found now most [] hn f = inl refl
earliest_found now most (d ∷ l) hn f = go (earliest_found now (min most (ahead now d)) l hn f.1) (dec_le most (ahead now d))
  where
    least : ℕ
    least = earliest now (min most (ahead now d)) l

    go : (least ≡ min most (ahead now d)) ⊎ (any_due (plus now least) l ≡ true) → Dec (most ≤ ahead now d)
        → (least ≡ most) ⊎ (any_due (plus now least) (d ∷ l) ≡ true)
    go (inl e) (yes h) = inl (omega arith)
    go (inl e) (no h) = inr (let z : least ≡ ahead now d = omega arith in rw (z, just_then now d hn f.0))
    go (inr e) h = inr (rw e (or-true (is_due (plus now least) d)))

-- ---- the ways of an update and of a check, each by the tests that lead there

pub corrected_astray : (now next : ℕ) → is_astray now next ≡ true → corrected now next ≡ now
unfolding corrected
corrected_astray now next e = rw e

pub corrected_unchanged : (now next : ℕ) → is_astray now next ≡ false → corrected now next ≡ next
unfolding corrected
corrected_unchanged now next e = rw e

pub started_made : (s : Schedule) (now : ℕ) → s.made ≡ true → started s now ≡ s.next
unfolding started
started_made s now m = rw m

pub started_first : (s : Schedule) (now : ℕ) → s.made ≡ false → started s now ≡ now
unfolding started
started_first s now m = rw m

module _ (s : Schedule) (now interval : ℕ) where
  pub when_reached : {x : Updated} → is_due now (corrected now (started s now)) ≡ true
      → x ≡ record { schedule = record { next = following now (corrected now (started s now)) interval; made = true }; flushes = true }
      → x ≡ updated s now interval
  unfolding updated
  when_reached e q = rw e q

  pub when_waiting : {x : Updated} → is_due now (corrected now (started s now)) ≡ false
      → x ≡ record { schedule = record { next = corrected now (started s now); made = true }; flushes = false }
      → x ≡ updated s now interval
  unfolding updated
  when_waiting e q = rw e q

  pub named_first : (dues : List ℕ) → s.made ≡ false → named s now interval dues ≡ now
  unfolding named
  named_first dues m = rw m

  pub named_made : (dues : List ℕ) → s.made ≡ true
      → named s now interval dues ≡ plus now (earliest now (min interval (ahead now (corrected now s.next))) dues)
  unfolding named
  named_made dues m = rw m

-- ---- times stay of 32 bits

pub corrected_fits : (now next : ℕ) → now < 2 ^ 32 → next < 2 ^ 32 → corrected now next < 2 ^ 32
corrected_fits now next hn hs = go (either (is_astray now next))
  where
    go : (is_astray now next ≡ true) ⊎ (is_astray now next ≡ false) → corrected now next < 2 ^ 32
    go (inl a) = rw (corrected_astray now next a) hn
    go (inr a) = rw (corrected_unchanged now next a) hs

pub started_fits : (s : Schedule) (now : ℕ) → now < 2 ^ 32 → s.next < 2 ^ 32 → started s now < 2 ^ 32
started_fits s now hn hs = go (either s.made)
  where
    go : (s.made ≡ true) ⊎ (s.made ≡ false) → started s now < 2 ^ 32
    go (inl m) = rw (started_made s now m) hs
    go (inr m) = rw (started_first s now m) hn

pub following_fits : (now next interval : ℕ) → following now next interval < 2 ^ 32
unfolding following
following_fits now next interval = go (is_due now (plus next interval))
  where
    go : (b : Bool) → cond b (plus now interval) (plus next interval) < 2 ^ 32
    go true = omega arith
    go false = omega arith

pub updated_fits : (s : Schedule) (now interval : ℕ) → now < 2 ^ 32 → s.next < 2 ^ 32 → (updated s now interval).schedule.next < 2 ^ 32
updated_fits s now interval hn hs = go (either (is_due now (corrected now (started s now))))
  where
    go : (is_due now (corrected now (started s now)) ≡ true) ⊎ (is_due now (corrected now (started s now)) ≡ false)
        → (updated s now interval).schedule.next < 2 ^ 32
    go (inl e) = rw (← when_reached s now interval e refl) (following_fits now (corrected now (started s now)) interval)
    go (inr e) = rw (← when_waiting s now interval e refl) (corrected_fits now (started s now) hn (started_fits s now hn hs))
