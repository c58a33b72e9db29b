-- An entry of a table of tags: its rules, its name and its value. Definitions.
-- Assumes nothing.
use Rattle.std.specs.Prelude.{Bool, cond, ◌&&◌, List, ◌++◌, ℕ, ◌+◌, ◌-◌, leb, eqb, length, get_or, replicate}
use Rattle.pools.specs.Parts.{part}
use Rattle.std.specs.List.{list_all}
use Rattle.std.specs.Str.{bytes_eq}
use Rattle.tag_message.specs.Tags.{is_name}
use Rattle.tag_message.specs.Messages.{counted}

-- bytes of an entry
abbrev pub entry_size : ℕ
entry_size = 98

-- ---- its parts

-- a name length, 32 name bytes, a value length, 64 value bytes
abbrev pub name_length : List ℕ → ℕ
name_length e = get_or e 0 0

abbrev pub name_of : List ℕ → List ℕ
name_of e = part e 1 (name_length e)

abbrev pub value_length : List ℕ → ℕ
value_length e = get_or e 33 0

abbrev pub value_of : List ℕ → List ℕ
value_of e = part e 34 (value_length e)

-- what is left of the name bytes and of the value bytes
abbrev pub behind_name : List ℕ → List ℕ
behind_name e = part e (1 + name_length e) (32 - name_length e)

abbrev pub behind_value : List ℕ → List ℕ
behind_value e = part e (34 + value_length e) (64 - value_length e)

-- ---- its rules

abbrev pub is_zero : ℕ → Bool
is_zero b = eqb b 0

abbrev pub is_free : List ℕ → Bool
is_free e = eqb (name_length e) 0

-- a used entry holds a name and a value, and its unused bytes are zero
unfoldable pub is_used : List ℕ → Bool
is_used e =
    leb (name_length e) 32 && leb (value_length e) 64
    && (is_name (name_of e) && list_all is_zero (behind_name e) && list_all is_zero (behind_value e))

-- a free entry is all zero
unfoldable pub is_entry : List ℕ → Bool
is_entry e = cond (is_free e) (list_all is_zero e) (is_used e)

-- ---- names

-- whether an entry has this name
unfoldable pub is_named : List ℕ → List ℕ → Bool
is_named name e = bytes_eq name (name_of e)

-- ---- what is stored

-- a length, the bytes, and zeros up to so many
abbrev pub padded : ℕ → List ℕ → List ℕ
padded most l = counted l ++ replicate (most - length l) 0

-- the entry of a name and a value
unfoldable pub entry_of : List ℕ → List ℕ → List ℕ
entry_of name value = padded 32 name ++ padded 64 value

abbrev pub free_entry : List ℕ
free_entry = replicate 98 0
