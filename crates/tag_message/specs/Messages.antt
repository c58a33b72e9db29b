-- A tag message: what is written, and what a message is read as. Definitions.
-- Assumes nothing.
use Rattle.std.specs.Prelude.{◌≡◌, Bool, cond, ◌&&◌, Result, Ok, Err, List, ◌∷◌, ◌++◌, ℕ, ◌+◌, leb, eqb, length, get_or}
use Rattle.std.proofs.lemmas.List.Edits.{sets}
use Rattle.pools.specs.Parts.{part}
use Rattle.tag_message.specs.Tags.{is_name, is_tag}
use Rattle.tag_message.specs.declared.TagRefusal.{TagRefusal}
use Rattle.tag_message.specs.declared.TagRefusal.TheVariants.{OtherSize, NotATag}
use Rattle.tag_message.specs.declared.Lengths.{Lengths}

-- ---- writing

-- a length, and then the bytes
abbrev pub counted : List ℕ → List ℕ
counted l = length l ∷ l

-- the message of a name and a value
unfoldable pub message_of : List ℕ → List ℕ → List ℕ
message_of name value = counted name ++ counted value

-- bytes of the longest message
abbrev pub room : ℕ
room = 98

-- writing into a part this long gives 7, then 17; what is written has so many bytes
unfoldable pub write_into : List ℕ → List ℕ → ℕ → Result ℕ TagRefusal
write_into name value n =
    cond (leb room n)
    (cond (is_tag name value) (Ok (length (message_of name value))) (Err NotATag))
    (Err OtherSize)

-- the part afterwards: the message at its start, which is as it was beyond it; refused, it is as it was
abbrev pub Leaves : List ℕ → List ℕ → Result ℕ TagRefusal → List ℕ → List ℕ → Type 0
Leaves name value (Ok n) before after = after ≡ sets before 0 (message_of name value)
Leaves name value (Err r) before after = after ≡ before

pub record Writes (name value before : List ℕ) (a : Result ℕ TagRefusal) (after : List ℕ) : Type 0 where
  pub answer : a ≡ write_into name value (length before)
  pub leaves : Leaves name value a before after

-- ---- reading

abbrev pub name_length : List ℕ → ℕ
name_length m = get_or m 0 0

abbrev pub value_length : List ℕ → ℕ
value_length m = get_or m (1 + name_length m) 0

-- the name in a message, and the value
unfoldable pub name_in : List ℕ → List ℕ
name_in m = part m 1 (name_length m)

unfoldable pub value_in : List ℕ → List ℕ
value_in m = part m (1 + name_length m + 1) (value_length m)

-- a name length, the name, a value length 0 to 64, the value, and then the end
unfoldable pub is_message : List ℕ → Bool
is_message m = is_name (name_in m) && leb (value_length m) 64 && eqb (length m) (1 + name_length m + 1 + value_length m)

abbrev pub lengths_of : List ℕ → Lengths
lengths_of m = record { name = name_length m; value = value_length m }

-- the lengths of name and value, or 17
unfoldable pub read_from : List ℕ → Result Lengths TagRefusal
read_from m = cond (is_message m) (Ok (lengths_of m)) (Err NotATag)
