-- Lists in number order. Numbers are compared by their offset from a base, modulo 2^32; the definitions take the function
-- that gives an entry's offset. Definitions.
-- Assumes nothing.
use Rattle.std.specs.Prelude.{Bool, true, false, cond, ◌&&◌, ◌||◌, List, [], ◌∷◌, ℕ, ◌+◌, leb, ltb, eqb}
use Rattle.protocol.specs.Serial.{minus}
use Rattle.lists.specs.declared.Waiting.{Waiting}
use Rattle.lists.specs.declared.Sent.{Sent}

abbrev pub waiting_offset : ℕ → Waiting → ℕ
waiting_offset base w = minus w.number base

abbrev pub sent_offset : ℕ → Sent → ℕ
sent_offset base s = minus s.record.number base

module _ {A : Type 0} (offset : A → ℕ) where
  -- the offsets rise strictly, the first is at least `least`, and each is below `limit`
  unfoldable pub ascending : ℕ → ℕ → List A → Bool
  ascending least limit [] = true
  ascending least limit (x ∷ l) = leb least (offset x) && ltb (offset x) limit && ascending (offset x + 1) limit l

  -- has an entry this offset?
  unfoldable pub is_held : ℕ → List A → Bool
  is_held k [] = false
  is_held k (x ∷ l) = eqb (offset x) k || is_held k l

  -- a before the first entry with a larger offset; where its offset is met before that, the entry that has it stays
  unfoldable pub insert : A → List A → List A
  insert a [] = a ∷ []
  insert a (x ∷ l) = cond (eqb (offset x) (offset a)) (x ∷ l) (cond (ltb (offset a) (offset x)) (a ∷ x ∷ l) (x ∷ insert a l))
