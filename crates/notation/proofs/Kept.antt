-- Laws that nothing here cites, kept since they stood.
-- Assumes nothing.
use Rattle.std.specs.Prelude.{◌≡◌, refl, false, List, [], ◌∷◌, ℕ, ◌<◌, length}
use Rattle.std.proofs.Common.{arith}
use Rattle.notation.specs.Words.{is_digit}
use Rattle.notation.specs.Hex.{bytes_word, is_hex_digit, hex_value}

pub value_none : (c : ℕ) → is_digit c ≡ false → is_hex_digit c ≡ false → (0 ≡ hex_value c) × (0 < 16)
unfolding hex_value
value_none c other h = (rw (other, rw other at h), omega arith)

pub word_none : (l : List ℕ) → length l ≡ 0 → bytes_word l ≡ 45 ∷ []
word_none [] h = refl
word_none (b ∷ l) h = absurd (omega arith)
