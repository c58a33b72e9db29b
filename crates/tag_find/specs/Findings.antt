-- A name is looked for in the station's own table, and then in the line's defaults. Definitions.
-- Assumes nothing.
use Rattle.std.specs.Prelude.{◌≡◌, Bool, cond, ◌&&◌, List, [], ℕ, Option, Some, None, is_some, Result, Ok, Err, ◌+◌, ◌*◌, eqb, length}
use Rattle.std.specs.Borrow.{Bor}
use Rattle.pools.specs.Parts.{part}
use Rattle.tag_message.specs.Tags.{is_name}
use Rattle.tag_message.specs.declared.TagRefusal.{TagRefusal}
use Rattle.tag_message.specs.declared.TagRefusal.TheVariants.{OtherSize, NotATag, NotATable}
use Rattle.tag_entry.specs.Entries.{entry_size, value_length}
use Rattle.tag_survey.specs.Tables.{table_size, entries_in, entry_at, is_table, place_of}
use Rattle.tag_find.specs.declared.Part.{Part}
use Rattle.tag_find.specs.declared.Place.{Place}
use Rattle.tag_find.specs.declared.Place.TheVariants.{Own, Defaults}

-- where a name is, if it is in a table; or the refusal
abbrev pub Finding : Type 0
Finding = Result (Option Place) TagRefusal

-- the value bytes of entry i, as a part of its table
abbrev pub value_at : List (List ℕ) → ℕ → Part
value_at es i = record { start = entry_size * i + 34; len = value_length (entry_at es i) }

-- the own table's value, else the defaults' one
unfoldable pub first_of : List (List ℕ) → List (List ℕ) → Option ℕ → Option ℕ → Option Place
first_of own defaults (Some i) j = Some (Own (value_at own i))
first_of own defaults None (Some j) = Some (Defaults (value_at defaults j))
first_of own defaults None None = None

-- where a name is; 7 for a table of another size, 24 for one outside of its rules, 17 for what is no name
unfoldable pub find_in : List ℕ → List ℕ → List ℕ → Finding
find_in own defaults name =
    cond (eqb (length own) table_size && eqb (length defaults) table_size)
    (cond (is_table (entries_in own) && is_table (entries_in defaults))
    (cond (is_name name)
    (Ok (first_of (entries_in own) (entries_in defaults) (place_of name (entries_in own)) (place_of name (entries_in defaults))))
    (Err NotATag))
    (Err NotATable))
    (Err OtherSize)

-- whether it was found
abbrev pub found_by : Finding → Result Bool TagRefusal
found_by (Ok place) = Ok (is_some place)
found_by (Err r) = Err r

-- ---- what is shown

-- a slice is the very part of a table: its place, its length and its bytes
pub record PartOf (t : Bor (List ℕ)) (p : Part) (r : Bor (List ℕ)) : Type 0 where
  pub block : r.ref_ptr.0 ≡ t.ref_ptr.0
  pub offset : r.ref_ptr.1 ≡ t.ref_ptr.1 + p.start
  pub size : length r.now ≡ p.len
  pub bytes : r.now ≡ part t.now p.start p.len

-- the value where it is; an empty part where nothing is found, or asking is refused
abbrev pub Shows : Finding → Bor (List ℕ) → Bor (List ℕ) → Bor (List ℕ) → Type 0
Shows (Ok (Some (Own p))) own defaults r = PartOf own p r
Shows (Ok (Some (Defaults p))) own defaults r = PartOf defaults p r
Shows (Ok None) own defaults r = r.now ≡ []
Shows (Err q) own defaults r = r.now ≡ []

-- one table's share of that: the value where it is in this table, else an empty part
abbrev pub ShowsOwn : Finding → Bor (List ℕ) → Bor (List ℕ) → Type 0
ShowsOwn (Ok (Some (Own p))) own r = PartOf own p r
ShowsOwn (Ok (Some (Defaults p))) own r = r.now ≡ []
ShowsOwn (Ok None) own r = r.now ≡ []
ShowsOwn (Err q) own r = r.now ≡ []

abbrev pub ShowsDefaults : Finding → Bor (List ℕ) → Bor (List ℕ) → Type 0
ShowsDefaults (Ok (Some (Own p))) defaults r = r.now ≡ []
ShowsDefaults (Ok (Some (Defaults p))) defaults r = PartOf defaults p r
ShowsDefaults (Ok None) defaults r = r.now ≡ []
ShowsDefaults (Err q) defaults r = r.now ≡ []
