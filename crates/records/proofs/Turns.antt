-- The turns of the loops of `gather` and `scatter`: what has been gathered after i slots, and what is still to be put back.
-- Assumes nothing.
use mathlib.Core.Path.{◌≡◌, sym, ap, ◌∙◌}
use mathlib.Core.List.{List, [], ◌∷◌, ◌++◌, map-append}
use Prim.Native.Nat.{ℕ, suc, ◌+◌, ◌-◌, ◌≤◌, ◌<◌, ◌%◌, min}
use native.Mathlib.Numerals.{add-one}
use native.Mathlib.Omega.{arith}
use lib.ListN.{length, get_or, set, take, drop, replicate, length-append, length-map, length-take, drop_of_length-le, get_or-map}
use lib.Seq.{get_or-take, drop-cons, set_at, append_snoc, take-suc, take_all, length-take-le}
use Rattle.timing.specs.declared.Record.{Record}
use Rattle.records.specs.Tables.{blank, slots_in, gathered, padded, scattered}

-- a slot for each word
pub slots_counted : (ws : List ℕ) (n k : ℕ) → length ws ≡ 32 → k ≡ min n 32 → k ≡ length (slots_in ws n)
slots_counted ws n k e f = f ∙ sym (length-map (take (min n 32) ws) (λ (w : ℕ). w % 256) ∙ length-take-le (min n 32) ws (omega arith))

pub slot_listed : (ws : List ℕ) (n i s : ℕ) → s ≡ get_or ws i 0 % 256 → i < length (slots_in ws n) → s ≡ get_or (slots_in ws n) i 0
slot_listed ws n i s e h =
    let within : i < min n 32 = omega (arith, length-map (take (min n 32) ws) (λ (w : ℕ). w % 256), length-take (min n 32) ws) in
    e ∙ ap (λ (w : ℕ). w % 256) (sym (get_or-take (min n 32) ws i 0 within)) ∙ sym
    (get_or-map (λ (w : ℕ). w % 256) (take (min n 32) ws) i 0)

-- one more record behind those that are not padding
padded_more : (l : List Record) (i : ℕ) (r : Record) → length l ≡ i → i < 32 → set (padded l) i r ≡ padded (l ++ (r ∷ []))
padded_more l i r e h =
    let rest : 32 - length l ≡ suc (32 - length (l ++ (r ∷ []))) = omega (arith, length-append l (r ∷ [])) in
    rw (rest, set_at l blank (replicate (32 - length (l ++ (r ∷ []))) blank) r i e, append_snoc)

gathered_more : (table : List Record) (slots : List ℕ) (i : ℕ) → i < length slots
    → gathered table (take (i + 1) slots) ≡ gathered table (take i slots) ++ (get_or table (get_or slots i 0) blank ∷ [])
gathered_more table slots i h =
    rw (add-one, take-suc slots i 0 h) (map-append (λ (s : ℕ). get_or table s blank) (take i slots) (get_or slots i 0 ∷ []))

-- one more record is gathered
pub gathers_more : (table l : List Record) (slots : List ℕ) (i k : ℕ) (r : Record) → i < length slots → i < 32
    → l ≡ padded (gathered table (take i slots)) → k ≡ get_or slots i 0 → r ≡ get_or table k blank
    → set l i r ≡ padded (gathered table (take (i + 1) slots))
gathers_more table l slots i k r h small e e-k e_r =
    let whole : length (gathered table (take i slots)) ≡ i =
    length-map (take i slots) (λ (s : ℕ). get_or table s blank) ∙ length-take-le i slots (omega arith) in
    ap (λ (x : List Record). set x i r) e ∙ padded_more (gathered table (take i slots)) i r whole small ∙ rw
    (gathered_more table slots i h, e_r, e-k)

-- all are gathered
pub gathers_all : (table l : List Record) (slots : List ℕ) (i : ℕ) → length slots ≤ i → l ≡ padded (gathered table (take i slots))
    → l ≡ padded (gathered table slots)
gathers_all table l slots i h e = e ∙ rw (take_all i slots h)

-- what is left to put back, put into the table as it is now, gives the goal
abbrev pub Left : List Record → List ℕ → List Record → ℕ → List Record → Type 0
Left table slots records i goal = scattered table (drop i slots) (drop i records) ≡ goal

-- one more record is put back
pub scatters_more : {goal : List Record} (table next records : List Record) (slots : List ℕ) (i k : ℕ) → i < length slots
    → i < length records
    → Left table slots records i goal → k ≡ get_or slots i 0 → next ≡ set table k (get_or records i blank)
    → Left next slots records (i + 1) goal
unfolding scattered
scatters_more table next records slots i k h g e e-k e-next =
    rw (e-next, e-k, add-one) (rw (drop-cons slots i 0 h, drop-cons records i blank g) at e)

-- nothing is left
pub scatters_all : {goal : List Record} (table records : List Record) (slots : List ℕ) (i : ℕ) → length slots ≤ i
    → Left table slots records i goal → table ≡ goal
unfolding scattered
scatters_all table records slots i h e = rw (drop_of_length-le slots {i = i} h) at e
