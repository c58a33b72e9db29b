-- A table of tags, a list of 64 entries: its rules, and its places. Definitions.
-- Assumes nothing.
use Rattle.std.specs.Prelude.{Bool, true, not, ◌&&◌, ◌||◌, List, [], ◌∷◌, ◌++◌, ℕ, Option, get_or, position}
use Rattle.std.specs.List.{list_all, list_any}
use Rattle.std.specs.Option.{option_or}
use Rattle.std.specs.Simd.{first_chunks}
use Rattle.tag_entry.specs.Entries.{entry_size, name_of, is_free, is_entry, is_named}

-- entries of a table, and its bytes
abbrev pub entry_count : ℕ
entry_count = 64

abbrev pub table_size : ℕ
table_size = 6272

-- the entries of a table's bytes
unfoldable pub entries_in : List ℕ → List (List ℕ)
entries_in t = first_chunks entry_size entry_count t

abbrev pub entry_at : List (List ℕ) → ℕ → List ℕ
entry_at es i = get_or es i []

-- ---- rules

-- an entry is free, or no entry before it has its name
unfoldable pub is_fresh : List (List ℕ) → List ℕ → Bool
is_fresh before e = is_free e || not (list_any (is_named (name_of e)) before)

-- no name twice: each entry is fresh after those before it
unfoldable pub all_fresh : List (List ℕ) → List (List ℕ) → Bool
all_fresh before [] = true
all_fresh before (e ∷ es) = is_fresh before e && all_fresh (before ++ e ∷ []) es

-- each entry is in its rules, and no name stands twice
unfoldable pub is_table : List (List ℕ) → Bool
is_table es = list_all is_entry es && all_fresh [] es

-- ---- places

-- where a name is, if it is there
unfoldable pub place_of : List ℕ → List (List ℕ) → Option ℕ
place_of name es = position (is_named name) es

-- where a name is set: a known name's entry, else the lowest free one
unfoldable pub place_for : List ℕ → List (List ℕ) → Option ℕ
place_for name es = option_or (place_of name es) (position is_free es)
