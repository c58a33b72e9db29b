-- Laws that nothing here cites, kept since they stood.
-- Assumes nothing.
use Rattle.std.specs.Prelude.{◌≡◌}
use Rattle.std.proofs.Math.Path.{ap}
use Rattle.std.proofs.Common.{sym, ◌∙◌, arith}
use mathlib.Core.List.{List, ◌++◌}
use Prim.Native.Nat.{ℕ, suc, ◌≤◌, ◌<◌}
use Rattle.std.proofs.Math.ListN.{set}
use Rattle.std.proofs.lemmas.List.{set-append_left}
use Rattle.protocol.specs.declared.Settings.{Settings}
use Rattle.bench.specs.Fields.{settings_of}

-- a number that is not the least that it may be
pub past : (n k : ℕ) → k ≤ n → (n ≡ k → ⊥) → suc k ≤ n
past n k h d = omega arith

-- the settings come first
pub settings_first : (s t : Settings) (behind : List ℕ) (field v : ℕ) → field < 5 → settings_of t ≡ set (settings_of s) field v
    → settings_of t ++ behind ≡ set (settings_of s ++ behind) field v
settings_first s t behind field v h e = ap (λ (l : List ℕ). l ++ behind) e ∙ sym (set-append_left (settings_of s) behind field v h)
