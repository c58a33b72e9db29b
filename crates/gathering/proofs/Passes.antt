-- The records that the loop over the words passes.
-- Assumes nothing.
use mathlib.Core.Path.{◌≡◌, sym, ap, ◌∙◌}
use mathlib.Core.List.{List, append-nil}
use Prim.Native.Nat.{ℕ, ◌-◌, ◌<◌, ◌%◌, min}
use native.Mathlib.Decide.{dec_lt}
use native.Mathlib.Omega.{arith}
use lib.ListN.{length, get_or, take, length-map}
use lib.Seq.{take_all, take-append_seam, length-take-le}
use Rattle.timing.specs.declared.Record.{Record}
use Rattle.records.specs.Tables.{blank, slots_in, gathered, padded}
use Rattle.std.proofs.lemmas.List.{get_or-map}

-- k words are passed over
module _ (table : List Record) (ws : List ℕ) (n k : ℕ) (e : k ≡ min n 32) where
  pub found_count : length (gathered table (slots_in ws n)) ≡ length (take k ws)
  found_count = rw e (length-map (slots_in ws n) (λ (s : ℕ). get_or table s blank) ∙ length-map (take (min n 32) ws) (λ (w : ℕ). w % 256))

  -- r is the record of the word at i
  pub found_at : (i : ℕ) (r : Record) → i < length (take k ws) → r ≡ get_or table (get_or (take k ws) i 0 % 256) blank
      → r ≡ get_or (gathered table (slots_in ws n)) i blank
  found_at i r h f =
      let g : i < length (slots_in ws n) = rw (length-map (take (min n 32) ws) (λ (w : ℕ). w % 256), ← e) h in
      f ∙ sym (get_or-map (λ (s : ℕ). get_or table s blank) (slots_in ws n) i 0 blank g
      ∙ ap (λ (s : ℕ). get_or table s blank) (get_or-map (λ (w : ℕ). w % 256) (take (min n 32) ws) i 0 0 (rw (← e) h)
      ∙ ap (λ (m : ℕ). get_or (take m ws) i 0 % 256) (sym e)))

-- the records of n outstanding segments are the first n of 32
pub first_padded : (table : List Record) (ws : List ℕ) (n : ℕ) → length ws ≡ 32
    → take n (padded (gathered table (slots_in ws n))) ≡ gathered table (slots_in ws n)
first_padded table ws n e = go (dec_lt n 32)
  where
    l : List Record
    l = gathered table (slots_in ws n)

    counted : length l ≡ min n 32
    counted =
        length-map (slots_in ws n) (λ (s : ℕ). get_or table s blank)
        ∙ length-map (take (min n 32) ws) (λ (w : ℕ). w % 256)
        ∙ length-take-le (min n 32) ws (omega arith)

    go : Dec (n < 32) → take n (padded l) ≡ l
    go (yes h) = let q : n ≡ length l = omega (arith, counted) in ap (λ (k : ℕ). take k (padded l)) q ∙ take-append_seam l _
    go (no h) =
        let q : 32 - length l ≡ 0 = omega (arith, counted) in
        rw (q, append-nil l) (take_all n l (omega (arith, counted)))
