-- Marks of slots, one for each of the 256 or 128 of a pool, 0 or 1, and the free slots that they tell. Definitions.
-- Assumes nothing.
use Rattle.std.specs.Prelude.{◌≡◌, Bool, true, not, ◌&&◌, List, [], ◌∷◌, ℕ, ◌-◌, ◌≤◌, eqb, length, get_or, set, replicate}
use Rattle.slots.specs.Slots.{is_used, first_not}
use Rattle.slots.specs.SlotLaws.{Walked}

-- no slot is marked: of so many, of the receive slots, of the send slots
abbrev pub none_of : ℕ → List ℕ
none_of n = replicate n 0

abbrev pub none : List ℕ
none = none_of 256

abbrev pub none_to_send : List ℕ
none_to_send = none_of 128

-- the marks with those of a list of slots
unfoldable pub marked_all : List ℕ → List ℕ → List ℕ
marked_all m [] = m
marked_all m (s ∷ l) = marked_all (set m s 1) l

-- was each slot unmarked when it was marked?
unfoldable pub unmarked_all : List ℕ → List ℕ → Bool
unmarked_all m [] = true
unmarked_all m (s ∷ l) = eqb (get_or m s 0) 0 && unmarked_all (set m s 1) l

-- a list of slots is marked, of so many: the marks after it, and whether none was marked before and none stands twice
pub record Marks (size : ℕ) (before slots after : List ℕ) (once : Bool) : Type 0 where
  pub whole : length after ≡ size
  pub marked : after ≡ marked_all before slots
  pub unmarked : once ≡ unmarked_all before slots

abbrev pub is_marked : List ℕ → ℕ → Bool
is_marked m s = not (eqb (get_or m s 0) 0)

-- the first slot from k on that is not marked; 256 where all are
abbrev pub next_free : List ℕ → ℕ → ℕ
next_free marks k = first_not (is_marked marks) k (256 - k)

-- Slots are held now; the marks are those of the slots that were held at first. Each slot below k is held now, and from k on a slot
-- is held now exactly where it was held at first.
pub record Free (marks now : List ℕ) (k : ℕ) : Type 0 where
  pub used : List ℕ
  pub marked : (i : ℕ) → is_marked marks i ≡ is_used i used
  pub walked : Walked now used k
  pub within : k ≤ 256
