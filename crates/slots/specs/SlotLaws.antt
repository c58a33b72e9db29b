-- Laws of `Slots`: what the lowest free slot is, that there is one, and the walk that finds the next one from where the
-- last was found.
-- Assumes nothing.
use Rattle.std.specs.Prelude.{◌≡◌, Bool, not, ◌&&◌, ◌||◌, List, [], ◌∷◌, ◌++◌, ltb, eqb, length, drop}
use Rattle.std.proofs.Math.Path.{refl}
use Rattle.std.proofs.Common.{sym, ap, ◌∙◌, add-one, eqb-true, eq-eqb, ne_eqb, ltb-true, lt-ltb}
use Rattle.std.proofs.Math.Bool.{true, false, cond, or-true, or_assoc}
use Rattle.std.proofs.lemmas.Bool.{false≢true, eqb-false}
use Prim.Native.Nat.{ℕ, zero, suc, ◌+◌, ◌-◌, ◌≤◌, ◌<◌}
use Rattle.std.proofs.Math.Nat.{sub-zero}
use Rattle.std.proofs.Math.Decide.{dec_lt}
use native.Mathlib.Omega.{arith}
use Rattle.lists.specs.declared.Held.{Held}
use Rattle.slots.specs.Slots.{slots_of, is_used, first_not, free_from, lowest_free, free_count, all_below, once, distinct}

-- the first number that does not pass a test
module _ (test : ℕ → Bool) where
  pub first_least : (k f : ℕ) → k ≤ first_not test k f
  unfolding first_not
  first_least k zero = omega arith
  first_least k (suc f) = go (test k) (first_least (k + 1) f)
    where
      go : (t : Bool) → k + 1 ≤ first_not test (k + 1) f → k ≤ cond t (first_not test (k + 1) f) k
      go true h = omega arith
      go false h = omega arith

  pub first_most : (k f : ℕ) → first_not test k f ≤ k + f
  unfolding first_not
  first_most k zero = omega arith
  first_most k (suc f) = go (test k) (first_most (k + 1) f)
    where
      go : (t : Bool) → first_not test (k + 1) f ≤ k + 1 + f → cond t (first_not test (k + 1) f) k ≤ k + suc f
      go true h = omega arith
      go false h = omega arith

  -- those before it pass
  pub first_before : (k f i : ℕ) → k ≤ i → i < first_not test k f → test i ≡ true
  unfolding first_not
  first_before k zero i h g = absurd (omega arith)
  first_before k (suc f) i h g = go (test k) refl g (first_before (k + 1) f i)
    where
      go : (t : Bool) → test k ≡ t → i < cond t (first_not test (k + 1) f) k → (k + 1 ≤ i → i < first_not test (k + 1) f → test i ≡ true)
          → test i ≡ true
      go true e g ih = here (dec_lt k i)
        where
          here : Dec (k < i) → test i ≡ true
          here (yes l) = ih (omega arith) g
          here (no l) = let q : i ≡ k = omega arith in rw q e
      go false e g ih = absurd (omega arith)

  -- itself does not, if it is one of them
  pub first_itself : (k f : ℕ) → first_not test k f < k + f → test (first_not test k f) ≡ false
  unfolding first_not
  first_itself k zero h = absurd (omega arith)
  first_itself k (suc f) h = go (test k) refl h (first_itself (k + 1) f)
    where
      go : (t : Bool) → test k ≡ t → cond t (first_not test (k + 1) f) k < k + suc f
          → (first_not test (k + 1) f < k + 1 + f → test (first_not test (k + 1) f) ≡ false)
          → test (cond t (first_not test (k + 1) f) k) ≡ false
      go true e h ih = ih (omega arith)
      go false e h ih = e

-- two tests that agree
pub first_same : (test test' : ℕ → Bool) (k f : ℕ) → ((i : ℕ) → k ≤ i → i < k + f → test i ≡ test' i)
    → first_not test k f ≡ first_not test' k f
unfolding first_not
first_same test test' k zero e = refl
first_same test test' k (suc f) e =
    rw (e k (omega arith) (omega arith), first_same test test' (k + 1) f (λ i h g. e i (omega arith) (omega arith)))

-- those from k on, where all below pass
pub first_skip : (test : ℕ → Bool) (n k : ℕ) → k ≤ n → ((i : ℕ) → i < k → test i ≡ true) → first_not test 0 n ≡ first_not test k (n - k)
unfolding first_not
first_skip test n zero h e = rw (sub-zero n)
first_skip test n (suc k) h e =
    let q : n - k ≡ suc (n - suc k) = omega arith in
    first_skip test n k (omega arith) (λ i g. e i (omega arith)) ∙ rw (q, e k (omega arith), add-one)

pub slots_append : (a b : List Held) → slots_of (a ++ b) ≡ slots_of a ++ slots_of b
slots_append [] b = refl
slots_append (h ∷ a) b = ap (λ (l : List ℕ). h.slot ∷ l) (slots_append a b)

pub used_append : (k : ℕ) (a b : List ℕ) → is_used k (a ++ b) ≡ (is_used k a || is_used k b)
unfolding is_used
used_append k [] b = refl
used_append k (s ∷ a) b = rw (used_append k a b) (sym (or_assoc (eqb s k) (is_used k a) (is_used k b)))

pub used_here : (k : ℕ) (used : List ℕ) → is_used k (k ∷ used) ≡ true
unfolding is_used
used_here k used = rw (eq-eqb k k refl)

pub used_other : (k s : ℕ) (used : List ℕ) → (s ≡ k → ⊥) → is_used k (s ∷ used) ≡ is_used k used
unfolding is_used
used_other k s used n = rw (ne_eqb s k n)

pub used_later : (k s : ℕ) (used : List ℕ) → is_used k used ≡ true → is_used k (s ∷ used) ≡ true
unfolding is_used
used_later k s used h = rw h (or-true (eqb s k))

-- the lowest free slot goes by what is used, in whatever order
pub free_same : (a b : List ℕ) (n : ℕ) → ((i : ℕ) → is_used i a ≡ is_used i b) → lowest_free a n ≡ lowest_free b n
free_same a b n e = first_same (λ i. is_used i a) (λ i. is_used i b) 0 n (λ i h g. e i)

pub free_unused : (used : List ℕ) (n : ℕ) → lowest_free used n < n → is_used (lowest_free used n) used ≡ false
free_unused used n h = first_itself (λ i. is_used i used) 0 n (omega arith)

-- The walk. Slots are taken one after the other, each the lowest free one: `now` is what is used now, `used` what was
-- used at first, and all slots below k are used now.
pub record Walked (now used : List ℕ) (k : ℕ) : Type 0 where
  pub below : (i : ℕ) → i < k → is_used i now ≡ true
  pub above : (i : ℕ) → k ≤ i → is_used i now ≡ is_used i used

pub walked_start : (used : List ℕ) → Walked used used 0
walked_start used = record { below = λ i h. absurd (omega arith); above = λ i h. refl }

pub walked_as : {now used : List ℕ} {k : ℕ} (now' : List ℕ) → ((i : ℕ) → is_used i now' ≡ is_used i now) → Walked now used k
    → Walked now' used k
walked_as now' e w = record { below = λ i h. e i ∙ w.below i h; above = λ i h. e i ∙ w.above i h }

-- the lowest free slot is the first from k on that was free at first
pub walked_free : (now used : List ℕ) (n k : ℕ) → k ≤ n → Walked now used k → lowest_free now n ≡ free_from used k (n - k)
walked_free now used n k h w =
    first_skip (λ i. is_used i now) n k h w.below ∙ first_same (λ i. is_used i now) (λ i. is_used i used) k (n - k) (λ i g b. w.above i g)

-- a slot that was used at first is passed over
pub walked_over : {now used : List ℕ} {k : ℕ} → is_used k used ≡ true → Walked now used k → Walked now used (k + 1)
walked_over {now} {used} {k} e w = record { below = below; above = λ i h. w.above i (omega arith) }
  where
    below : (i : ℕ) → i < k + 1 → is_used i now ≡ true
    below i h = go (dec_lt i k)
      where
        go : Dec (i < k) → is_used i now ≡ true
        go (yes l) = w.below i l
        go (no l) = let q : i ≡ k = omega arith in rw q (w.above k (omega arith) ∙ e)

-- and the walk goes on behind it
pub walked_next : (now used : List ℕ) (n k s : ℕ) → s ≡ free_from used k (n - k) → Walked now used k → Walked (s ∷ now) used (s + 1)
walked_next now used n k s e w =
    record { below = below; above = λ i h. used_other i s now (λ q. omega arith) ∙ w.above i (omega (arith, least)) }
  where
    least : k ≤ s
    least = rw e (first_least (λ i. is_used i used) k (n - k))

    below : (i : ℕ) → i < s + 1 → is_used i (s ∷ now) ≡ true
    below i h = go (dec_lt i k) (dec_lt i s)
      where
        go : Dec (i < k) → Dec (i < s) → is_used i (s ∷ now) ≡ true
        go (yes l) d = used_later i s now (w.below i l)
        go (no l) (yes m) = used_later i s now (w.above i (omega arith) ∙ first_before (λ j. is_used j used) k (n - k) i (omega arith)
            (rw e at m))
        go (no l) (no m) = let q : s ≡ i = omega arith in rw q (used_here i now)

-- How many are free.
pub count_none : (n : ℕ) → free_count [] n ≡ n
unfolding free_count is_used
count_none zero = refl
count_none (suc n) = rw (count_none n)

count_above : (s : ℕ) (used : List ℕ) (n : ℕ) → n ≤ s → free_count (s ∷ used) n ≡ free_count used n
unfolding free_count
count_above s used zero h = refl
count_above s used (suc n) h = rw (used_other n s used (λ q. omega arith), count_above s used n (omega arith))

-- one that was free is used
pub count_used : (s : ℕ) (used : List ℕ) (n : ℕ) → s < n → is_used s used ≡ false → suc (free_count (s ∷ used) n) ≡ free_count used n
unfolding free_count
count_used s used zero h f = absurd (omega arith)
count_used s used (suc n) h f = go (dec_lt s n) (count_used s used n)
  where
    step : (t : Bool) → suc (free_count (s ∷ used) n) ≡ free_count used n
        → suc (cond t (free_count (s ∷ used) n) (suc (free_count (s ∷ used) n))) ≡ cond t (free_count used n) (suc (free_count used n))
    step true e = e
    step false e = ap suc e

    go : Dec (s < n) → (s < n → is_used s used ≡ false → suc (free_count (s ∷ used) n) ≡ free_count used n)
        → suc (cond (is_used n (s ∷ used)) (free_count (s ∷ used) n) (suc (free_count (s ∷ used) n))) ≡ cond (is_used n used) (free_count used n)
        (suc (free_count used n))
    go (yes l) ih = rw (used_other n s used (λ q. omega arith)) (step (is_used n used) (ih l f))
    go (no l) ih =
        let q : s ≡ n = omega arith in
        rw (← q, used_here s used, f, count_above s used s (omega arith))

-- one that was used already changes nothing
used_again : (k s : ℕ) (used : List ℕ) → is_used s used ≡ true → is_used k (s ∷ used) ≡ is_used k used
unfolding is_used
used_again k s used h = go (eqb s k) refl
  where
    go : (t : Bool) → eqb s k ≡ t → (t || is_used k used) ≡ is_used k used
    go true e = sym (rw (eqb-true s k e) at h)
    go false e = refl

count_again : (s : ℕ) (used : List ℕ) (n : ℕ) → is_used s used ≡ true → free_count (s ∷ used) n ≡ free_count used n
unfolding free_count
count_again s used zero h = refl
count_again s used (suc n) h = rw (used_again n s used h, count_again s used n h)

count_one : (s : ℕ) (used : List ℕ) (n : ℕ) → free_count used n ≤ suc (free_count (s ∷ used) n)
count_one s used n = go (dec_lt s n) (is_used s used) refl
  where
    go : Dec (s < n) → (t : Bool) → is_used s used ≡ t → free_count used n ≤ suc (free_count (s ∷ used) n)
    go (no l) t e = omega (arith, count_above s used n (omega arith))
    go (yes l) true e = omega (arith, count_again s used n e)
    go (yes l) false e = omega (arith, count_used s used n l e)

-- where all are used, none is free
count_full : (used : List ℕ) (n : ℕ) → ((i : ℕ) → i < n → is_used i used ≡ true) → free_count used n ≡ 0
unfolding free_count
count_full used zero e = refl
count_full used (suc n) e = rw (e n (omega arith)) (count_full used n (λ i h. e i (omega arith)))

-- what distinct slots say of the first one
pub record Apart (n s : ℕ) (used : List ℕ) : Type 0 where
  pub low : s < n
  pub new : is_used s used ≡ false
  pub rest : distinct n used ≡ true

pub distinct_first : (n s : ℕ) (used : List ℕ) → distinct n (s ∷ used) ≡ true → Apart n s used
unfolding all_below once
distinct_first n s used h = go (ltb s n) (is_used s used) (all_below n used) refl refl refl h
  where
    go : (p q b : Bool) → ltb s n ≡ p → is_used s used ≡ q → all_below n used ≡ b → (p && b && (not q && once used)) ≡ true → Apart n s used
    go true false true e f g h = record { low = ltb-true s n e; new = f; rest = rw g h }
    go true true true e f g h = absurd (false≢true h)
    go true q false e f g h = absurd (false≢true h)
    go false q b e f g h = absurd (false≢true h)

pub distinct_cons : (n s : ℕ) (used : List ℕ) → Apart n s used → distinct n (s ∷ used) ≡ true
unfolding all_below once
distinct_cons n s used a = rw (lt-ltb s n a.low, a.new) a.rest

-- n slots less the held ones are free, where these are below n and none is held twice
pub count_distinct : (n : ℕ) (used : List ℕ) → distinct n used ≡ true → free_count used n + length used ≡ n
count_distinct n [] h = rw (count_none n) (omega arith)
count_distinct n (s ∷ used) h =
    let a = distinct_first n s used h in
    omega (arith, count_used s used n a.low a.new, count_distinct n used a.rest)

-- at least so many are free in any case
pub count_least : (n : ℕ) (used : List ℕ) → n ≤ free_count used n + length used
count_least n [] = rw (count_none n) (omega arith)
count_least n (s ∷ used) = omega (arith, count_one s used n, count_least n used)

-- one that is free is found
pub count_free : (n : ℕ) (used : List ℕ) → 0 < free_count used n → lowest_free used n < n
count_free n used h = go (dec_lt (lowest_free used n) n)
  where
    go : Dec (lowest_free used n < n) → lowest_free used n < n
    go (yes l) = l
    go (no l) = absurd (omega (arith, count_full used n (λ i g. first_before (λ j. is_used j used) 0 n i (omega arith) (omega arith))))

pub free_room : (n : ℕ) (used : List ℕ) → length used < n → lowest_free used n < n
free_room n used h = count_free n used (omega (arith, count_least n used))

-- and when it is taken, one less is free
pub count_taken : (n : ℕ) (used : List ℕ) → 0 < free_count used n → suc (free_count (lowest_free used n ∷ used) n) ≡ free_count used n
count_taken n used h = let l = count_free n used h in count_used (lowest_free used n) used n l (free_unused used n l)

pub eqb_sym : (a b : ℕ) → eqb a b ≡ eqb b a
eqb_sym a b = go (eqb b a) refl
  where
    go : (t : Bool) → eqb b a ≡ t → eqb a b ≡ t
    go true e = eq-eqb a b (sym (eqb-true b a e))
    go false e = ne_eqb a b (λ q. eqb-false b a e (sym q))

pub neither : (p q r o : Bool) → (not (p || q) && (not r && o)) ≡ (not (p || r) && (not q && o))
neither true q r o = refl
neither false true true o = refl
neither false true false o = refl
neither false false true o = refl
neither false false false o = refl

swap : (p q r : Bool) → (p && (q && r)) ≡ (q && (p && r))
swap true q r = refl
swap false true r = refl
swap false false r = refl

-- Distinct slots stay distinct where one that is new goes in anywhere, one is taken out, or the first are dropped.
below_mid : (n s : ℕ) (a b : List ℕ) → all_below n (a ++ (s ∷ b)) ≡ (ltb s n && all_below n (a ++ b))
unfolding all_below
below_mid n s [] b = refl
below_mid n s (x ∷ a) b = rw (below_mid n s a b) (swap (ltb x n) (ltb s n) (all_below n (a ++ b)))

used_mid : (k s : ℕ) (a b : List ℕ) → is_used k (a ++ (s ∷ b)) ≡ is_used k (s ∷ (a ++ b))
unfolding is_used
used_mid k s [] b = refl
used_mid k s (x ∷ a) b = rw (used_mid k s a b) (either (eqb x k) (eqb s k) (is_used k (a ++ b)))
  where
    either : (p q r : Bool) → (p || (q || r)) ≡ (q || (p || r))
    either true q r = sym (or-true q)
    either false q r = refl

once_mid : (s : ℕ) (a b : List ℕ) → once (a ++ (s ∷ b)) ≡ (not (is_used s (a ++ b)) && once (a ++ b))
unfolding once is_used
once_mid s [] b = refl
once_mid s (x ∷ a) b = rw (used_mid x s a b, once_mid s a b, eqb_sym s x)
    (neither (eqb x s) (is_used x (a ++ b)) (is_used s (a ++ b)) (once (a ++ b)))

pub distinct_mid : (n s : ℕ) (a b : List ℕ) → distinct n (a ++ (s ∷ b)) ≡ distinct n (s ∷ (a ++ b))
unfolding all_below once
distinct_mid n s a b = rw (below_mid n s a b, once_mid s a b)

pub distinct_without : (n s : ℕ) (a b : List ℕ) → distinct n (a ++ (s ∷ b)) ≡ true → distinct n (a ++ b) ≡ true
distinct_without n s a b h = (distinct_first n s (a ++ b) (sym (distinct_mid n s a b) ∙ h)).rest

pub distinct_drop : (n k : ℕ) (l : List ℕ) → distinct n l ≡ true → distinct n (drop k l) ≡ true
distinct_drop n zero l h = h
distinct_drop n (suc k) [] h = h
distinct_drop n (suc k) (s ∷ l) h = distinct_drop n k l (distinct_first n s l h).rest
