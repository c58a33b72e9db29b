-- Laws of `Tables`: what a gathering and a scattering leave, and that each undoes the other.
-- Assumes nothing.
use Rattle.std.specs.Prelude.{◌≡◌, refl, List, [], ◌∷◌, ◌++◌, ℕ, suc, ◌-◌, ◌≤◌, ◌<◌, length, get_or, set, take, replicate}
use Rattle.std.proofs.Common.{sym, ◌∙◌, not-suc-le-zero, le_of_suc-le-suc, arith, length-append, length-set, get_or-set_same, get_or-set_other}
use Rattle.std.proofs.lemmas.List.{length-map, length-replicate, set-get_or}
use Rattle.std.proofs.Math.Seq.{take-append_seam}
use Rattle.timing.specs.declared.Record.{Record}
use Rattle.records.specs.Tables.{blank, gathered, padded, scattered}

-- k is none of these slots
abbrev pub Spared : ℕ → List ℕ → Type 0
Spared k slots = (i : ℕ) → i < length slots → get_or slots i 0 ≡ k → ⊥

-- no slot stands twice
abbrev pub NoneTwice : List ℕ → Type 0
NoneTwice slots = (i j : ℕ) → i < j → j < length slots → get_or slots i 0 ≡ get_or slots j 0 → ⊥

-- each slot is below n
abbrev pub AllBelow : ℕ → List ℕ → Type 0
AllBelow n slots = (i : ℕ) → i < length slots → get_or slots i 0 < n

-- ---- padding

pub padded_take : (l : List Record) → take (length l) (padded l) ≡ l
padded_take l = take-append_seam l (replicate (32 - length l) blank)

pub padded_length : (l : List Record) → length l ≤ 32 → length (padded l) ≡ 32
padded_length l h = rw (length-append, length-replicate) (omega arith)

-- ---- scattering

pub scattered_length : (table : List Record) (slots : List ℕ) (records : List Record)
    → length (scattered table slots records) ≡ length table
unfolding scattered
scattered_length table [] records = refl
scattered_length table (s ∷ slots) [] = refl
scattered_length table (s ∷ slots) (r ∷ records) = scattered_length (set table s r) slots records ∙ length-set table s r

-- a record whose slot is not named stays
pub scattered_spared : (table : List Record) (slots : List ℕ) (records : List Record) (k : ℕ) → Spared k slots
    → get_or (scattered table slots records) k blank ≡ get_or table k blank
unfolding scattered
scattered_spared table [] records k h = refl
scattered_spared table (s ∷ slots) [] k h = refl
scattered_spared table (s ∷ slots) (r ∷ records) k h =
    scattered_spared (set table s r) slots records k (λ i l e. h (suc i) (omega arith) e)
    ∙ get_or-set_other table s k r blank (λ e. h 0 (omega arith) (sym e))

-- what stands behind the last slot's record is not looked at
pub scattered_append : (table : List Record) (slots : List ℕ) (records more : List Record) → length slots ≤ length records
    → scattered table slots (records ++ more) ≡ scattered table slots records
unfolding scattered
scattered_append table [] records more h = refl
scattered_append table (s ∷ slots) [] more h = absurd (not-suc-le-zero h)
scattered_append table (s ∷ slots) (r ∷ records) more h = scattered_append (set table s r) slots records more (le_of_suc-le-suc h)

-- ---- the one after the other

-- what was gathered, put back, changes nothing
pub scattered_gathered : (table : List Record) (slots : List ℕ) → scattered table slots (gathered table slots) ≡ table
unfolding scattered
scattered_gathered table [] = refl
scattered_gathered table (s ∷ slots) = rw (set-get_or table s blank) (scattered_gathered table slots)

pub scattered_padded : (table : List Record) (slots : List ℕ) → scattered table slots (padded (gathered table slots)) ≡ table
scattered_padded table slots =
    scattered_append table slots (gathered table slots) (replicate (32 - length (gathered table slots)) blank)
    (omega (arith, length-map slots (λ (s : ℕ). get_or table s blank)))
    ∙ scattered_gathered table slots

-- what was put back at slots of the table, none of them twice, is gathered again
pub gathered_scattered : (table : List Record) (slots : List ℕ) (records : List Record) → NoneTwice slots → AllBelow (length table) slots
    → length slots ≤ length records
    → gathered (scattered table slots records) slots ≡ take (length slots) records
unfolding scattered
gathered_scattered table [] records once below h = refl
gathered_scattered table (s ∷ slots) [] once below h = absurd (not-suc-le-zero h)
gathered_scattered table (s ∷ slots) (r ∷ records) once below h =
    let first : get_or (scattered (set table s r) slots records) s blank ≡ r =
    scattered_spared (set table s r) slots records s (λ i l e. once 0 (suc i) (omega arith) (omega arith) (sym e))
    ∙ get_or-set_same table s r blank (below 0 (omega arith)) in
    let others : gathered (scattered (set table s r) slots records) slots ≡ take (length slots) records =
    gathered_scattered (set table s r) slots records (λ i j l m e. once (suc i) (suc j) (omega arith) (omega arith) e)
    (λ i l. rw (length-set table s r) (below (suc i) (omega arith))) (le_of_suc-le-suc h) in
    rw (first, others)
