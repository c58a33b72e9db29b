-- With the blank ones there are 32 records.
-- Assumes nothing.
use Rattle.std.proofs.Common.{◌≡◌, ◌∙◌, List, ℕ, ◌-◌, ◌≤◌, ◌%◌, min, length, take, get_or, replicate, length-append, arith}
use Rattle.std.proofs.Math.ListN.{length-map, length-take, length-replicate}
use Rattle.timing.specs.declared.Record.{Record}
use Rattle.records.specs.Tables.{blank, slots_in, gathered, padded}

pub padded_whole : (table : List Record) (ws : List ℕ) (n : ℕ) → length (padded (gathered table (slots_in ws n))) ≡ 32
padded_whole table ws n =
    let records = gathered table (slots_in ws n) in
    let many = length-map (slots_in ws n) (λ (s : ℕ). get_or table s blank) ∙ length-map (take (min n 32) ws)
    (λ (w : ℕ). w % 256) ∙ length-take (min n 32) ws in
    let few : length records ≤ 32 = omega (arith, many) in
    length-append records (replicate (32 - length records) blank) ∙ rw (length-replicate {A = Record} (32 - length records) blank)
    (omega (arith, few))
