-- One pass over a table. Definitions.
-- Assumes nothing.
use Rattle.std.specs.Prelude.{◌≡◌, Bool, true, false, cond, List, ℕ, Option, Some, None, Result, Err, eqb, length, get_or, position, All}
use Rattle.std.specs.Bool.{then_some}
use Rattle.std.specs.Option.{ok_or, option_or}
use Rattle.tag_message.specs.declared.TagRefusal.{TagRefusal}
use Rattle.tag_message.specs.declared.TagRefusal.TheVariants.{OtherSize, NotATable}
use Rattle.tag_entry.specs.Entries.{name_of, is_free, is_named}
use Rattle.tag_entry.specs.Fingerprints.{fingerprint}
use Rattle.tag_survey.specs.Tables.{table_size, entries_in, is_table, place_of}
use Rattle.tag_survey.specs.declared.Seen.{Seen}

-- the places of a name and of the lowest free entry, where the table is in its rules
unfoldable pub survey_of : List ℕ → List (List ℕ) → Option Seen
survey_of name es = cond (is_table es) (Some (record { named = place_of name es; free = position is_free es })) None

-- those of a table's bytes: 7 for another size, 24 for one outside of its rules
unfoldable pub surveyed : List ℕ → List ℕ → Result Seen TagRefusal
surveyed name t = cond (eqb (length t) table_size) (ok_or (survey_of name (entries_in t)) NotATable) (Err OtherSize)

-- ---- the pass

-- the fingerprint of the name of an entry was met
abbrev pub IsMet : List Bool → List ℕ → Type 0
IsMet met e = is_free e ≡ false → get_or met (fingerprint (name_of e)) false ≡ true

pub record Met (met : List Bool) (es : List (List ℕ)) : Type 0 where
  pub size : length met ≡ 256
  pub all : All (IsMet met) es

-- the first place of a test after i entries, and then with the entry at i
abbrev pub stepped : Bool → ℕ → Option ℕ → Option ℕ
stepped here i first = option_or first (then_some here i)

abbrev pub seen_after : List ℕ → ℕ → List ℕ → Seen → Seen
seen_after name i e s = record { named = stepped (is_named name e) i s.named; free = stepped (is_free e) i s.free }
