-- From a check until just before the time that it names no update flushes and no segment falls due; and that time is no sooner than it
-- need be. Of a schedule and due times.
-- Assumes nothing.
use Rattle.std.specs.Prelude.{◌≡◌, refl, Bool, true, false, cond, List, [], ◌∷◌, ◌⊎◌, ℕ, ◌^◌, ◌≤◌, ◌<◌, min}
use Rattle.std.proofs.Common.{sym, ap, inl, inr, arith}
use Rattle.std.proofs.lemmas.Bool.{false≢true}
use Rattle.protocol.specs.Serial.{plus, minus, is_due}
use Rattle.schedule.specs.Schedules.{is_astray, corrected, started, following, updated, ahead, earliest, named}
use Rattle.schedule.specs.ScheduleLaws.{
  either,
  near,
  not_astray,
  is_due_lem,
  not_due,
  due_by,
  ahead_due,
  ahead_undue,
  ahead_now,
  ahead_fits_lem,
  later,
  not_yet,
  Each,
  any_due,
  earliest_most,
  earliest_below,
  earliest_found,
  corrected_astray,
  corrected_unchanged,
  started_made,
  started_first,
  when_reached,
  when_waiting,
  named_first,
  named_made,
  corrected_fits,
  started_fits,
}
use Rattle.schedule.specs.declared.Schedule.{Schedule}
use Rattle.schedule.specs.declared.Updated.{Updated}

same : (s : Schedule) → s.made ≡ true → record { next = s.next; made = true } ≡ s
same s m = ap (λ (b : Bool). record { next = s.next; made = b }) (sym m)

-- before the next flush an update leaves the schedule as it is, and does not flush
pub update_waits : (s : Schedule) (now t interval : ℕ) → s.next < 2 ^ 32 → now < 2 ^ 32 → t < 2 ^ 32 → s.made ≡ true
    → minus t now < ahead now (corrected now s.next)
    → updated s t interval ≡ record { schedule = s; flushes = false }
update_waits s now t interval hs hn ht m h =
    let a = straight (either (is_astray now s.next)) in
    let g : minus t now < ahead now s.next = rw (corrected_unchanged now s.next a) at h in
    let e = later now s.next (minus t now) g in
    let far = not_due now s.next e in
    let back = not_astray now s.next a (omega arith) in
    let less : minus t now < minus s.next now = rw (ahead_undue now s.next e) at g in
    let a' : is_astray t s.next ≡ false = near t s.next (inr (omega arith)) in
    let c : corrected t (started s t) ≡ s.next = rw (started_made s t m) (corrected_unchanged t s.next a') in
    sym
    (when_waiting s t interval (rw c (not_yet now s.next t hn hs ht g))
    (rw c (ap (λ (x : Schedule). record { schedule = x; flushes = false }) (sym (same s m)))))
  where
    straight : (is_astray now s.next ≡ true) ⊎ (is_astray now s.next ≡ false) → is_astray now s.next ≡ false
    straight (inl e) = absurd (let z = rw (corrected_astray now s.next e, ahead_now now hn) at h in omega arith)
    straight (inr e) = e

-- when the next time is reached, an update flushes
flushes_by : (s : Schedule) (t interval : ℕ) → is_due t (corrected t (started s t)) ≡ true → (updated s t interval).flushes ≡ true
flushes_by s t interval e = sym (ap (λ (x : Updated). x.flushes) (when_reached s t interval e refl))

module _ (now next : ℕ) (hn : now < 2 ^ 32) (hs : next < 2 ^ 32) where
  -- the time of the next flush, as a check at now counts it
  abbrev reaches : ℕ
  reaches = plus now (ahead now (corrected now next))

  next_reached : is_due reaches (corrected reaches next) ≡ true
  next_reached = go (either (is_astray now next)) (either (is_due now next))
    where
      zero_on : plus now 0 ≡ now
      zero_on = omega arith

      go : (is_astray now next ≡ true) ⊎ (is_astray now next ≡ false) → (is_due now next ≡ true) ⊎ (is_due now next ≡ false)
          → is_due reaches (corrected reaches next) ≡ true
      go (inl a) d = rw (corrected_astray now next a, ahead_now now hn, zero_on, corrected_astray now next a) (due_by now now (omega arith))
      go (inr a) (inl e) = rw (corrected_unchanged now next a, ahead_due now next e, zero_on, corrected_unchanged now next a) e
      go (inr a) (inr e) =
          let there : plus now (minus next now) ≡ next = omega arith in
          let straight = near next next (inl (omega arith)) in
          rw (corrected_unchanged now next a, ahead_undue now next e, there, corrected_unchanged next next straight)
          (due_by next next (omega arith))

-- ---- a check at now

-- all is quiet at t: an update leaves the schedule as it is and does not flush, and no segment is due
pub record QuietAt (s : Schedule) (t interval : ℕ) (dues : List ℕ) : Type 0 where
  pub waits : updated s t interval ≡ record { schedule = s; flushes = false }
  pub none_due : Each (λ d. is_due t d ≡ false) dues

module _ (s : Schedule) (now interval : ℕ) (dues : List ℕ)
    (hs : s.next < 2 ^ 32) (hd : Each (λ d. d < 2 ^ 32) dues) (hn : now < 2 ^ 32) where
  abbrev limit : ℕ
  limit = min interval (ahead now (corrected now s.next))

  -- how far the named time is ahead
  pub named_ahead : s.made ≡ true → minus (named s now interval dues) now ≡ earliest now limit dues
  named_ahead m =
      let w = earliest_most now limit dues in
      let f = ahead_fits_lem now (corrected now s.next) in
      rw (named_made s now interval dues m) (omega arith)

  -- at most one interval away
  pub named_within : minus (named s now interval dues) now ≤ interval
  named_within = go (either s.made)
    where
      go : (s.made ≡ true) ⊎ (s.made ≡ false) → minus (named s now interval dues) now ≤ interval
      go (inl m) = let w = earliest_most now limit dues in rw (named_ahead m) (omega arith)
      go (inr m) = rw (named_first s now interval dues m) (omega arith)

  -- the named time is later than now only after an update
  made : (t : ℕ) → minus t now < minus (named s now interval dues) now → s.made ≡ true
  made t h = go (either s.made)
    where
      go : (s.made ≡ true) ⊎ (s.made ≡ false) → s.made ≡ true
      go (inl m) = m
      go (inr m) = absurd (let z = rw (named_first s now interval dues m) at h in omega arith)

  none_yet : (t : ℕ) (l : List ℕ) → t < 2 ^ 32 → Each (λ d. d < 2 ^ 32) l → Each (λ d. minus t now < ahead now d) l
      → Each (λ d. is_due t d ≡ false) l
  none_yet t [] ht f h = tt
  none_yet t (d ∷ l) ht f h = (not_yet now d t hn f.0 ht h.0, none_yet t l ht f.1 h.1)

  -- from now until just before the named time
  pub quiet : (t : ℕ) → t < 2 ^ 32 → minus t now < minus (named s now interval dues) now → QuietAt s t interval dues
  quiet t ht h =
      let m = made t h in
      let g : minus t now < earliest now limit dues = rw (named_ahead m) at h in
      let b = earliest_below now (minus t now) limit dues g in
      record { waits = update_waits s now t interval hs hn ht m (omega (arith, b.0)); none_due = none_yet t dues ht hd b.1 }

  -- what the named time is for
  abbrev pub WantedFor : Type 0
  WantedFor = ((updated s (named s now interval dues) interval).flushes ≡ true) ⊎ (any_due (named s now interval dues) dues ≡ true)

  -- the first update flushes at once
  for_first : s.made ≡ false → WantedFor
  for_first m =
      let straight = near now now (inl (omega arith)) in
      inl (rw (named_first s now interval dues m)
      (flushes_by s now interval (rw (started_first s now m, corrected_unchanged now now straight) (due_by now now (omega arith)))))

  for_made : s.made ≡ true → earliest now limit dues < interval
      → (earliest now limit dues ≡ limit) ⊎ (any_due (plus now (earliest now limit dues)) dues ≡ true)
      → WantedFor
  for_made m within (inl e) =
      let z : earliest now limit dues ≡ ahead now (corrected now s.next) = omega arith in
      let reached = next_reached now s.next hn hs in
      inl (rw (named_made s now interval dues m, z) (flushes_by s _ interval (rw (started_made s _ m) reached)))
  for_made m within (inr e) = inr (rw (named_made s now interval dues m) e)

  -- no sooner than it need be: where the named time is less than an interval away, then an update flushes or a segment is due
  pub called_for : minus (named s now interval dues) now < interval → WantedFor
  called_for h = go (either s.made)
    where
      go : (s.made ≡ true) ⊎ (s.made ≡ false) → WantedFor
      go (inl m) = for_made m (rw (named_ahead m) at h) (earliest_found now limit dues hn hd)
      go (inr m) = for_first m

-- ---- after an update that flushes

following_ahead : (now next interval : ℕ) → now < 2 ^ 32 → next < 2 ^ 32 → 0 < interval → interval < 2 ^ 31 → is_due now next ≡ true
    → (0 < minus (following now next interval) now) × (minus (following now next interval) now ≤ interval)
unfolding following
following_ahead now next interval hn hs least most e = go (either (is_due now (plus next interval)))
  where
    after : ℕ
    after = cond (is_due now (plus next interval)) (plus now interval) (plus next interval)

    go : (is_due now (plus next interval) ≡ true) ⊎ (is_due now (plus next interval) ≡ false)
        → (0 < minus after now) × (minus after now ≤ interval)
    go (inl d) = rw d (omega arith, omega arith)
    go (inr d) =
        let close = is_due_lem now next e in
        let far = not_due now (plus next interval) d in
        rw d (omega arith, omega arith)

-- the next flush is ahead, by one interval at most: another update at the same time waits
pub updated_ahead : (s : Schedule) (now interval : ℕ) → now < 2 ^ 32 → s.next < 2 ^ 32 → 0 < interval → interval < 2 ^ 31
    → (updated s now interval).flushes ≡ true
    → (0 < minus (updated s now interval).schedule.next now) × (minus (updated s now interval).schedule.next now ≤ interval)
updated_ahead s now interval hn hs least most f = go (either (is_due now next))
  where
    next : ℕ
    next = corrected now (started s now)

    fits : next < 2 ^ 32
    fits = corrected_fits now (started s now) hn (started_fits s now hn hs)

    go : (is_due now next ≡ true) ⊎ (is_due now next ≡ false)
        → (0 < minus (updated s now interval).schedule.next now) × (minus (updated s now interval).schedule.next now ≤ interval)
    go (inl e) = rw (← when_reached s now interval e refl) (following_ahead now next interval hn fits least most e)
    go (inr e) = absurd (false≢true (rw (← when_waiting s now interval e refl) at f))
