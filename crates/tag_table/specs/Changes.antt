-- A table of tags is changed: set, take and remove. Definitions.
-- Assumes nothing.
use Rattle.std.specs.Prelude.{◌≡◌, Bool, cond, List, ℕ, Option, Some, None, is_some, Result, Ok, Err, eqb, length, set}
use Rattle.tag_message.specs.Tags.{is_name, is_tag}
use Rattle.tag_message.specs.Messages.{name_in, value_in, is_message}
use Rattle.tag_message.specs.declared.TagRefusal.{TagRefusal}
use Rattle.tag_message.specs.declared.TagRefusal.TheVariants.{OtherSize, NotATag, Full, Absent, NotATable}
use Rattle.tag_entry.specs.Entries.{entry_of, free_entry}
use Rattle.tag_survey.specs.Tables.{table_size, entries_in, is_table, place_of, place_for}

-- whether a table was changed
abbrev pub Changed : Type 0
Changed = Result (Unit {0}) TagRefusal

-- 7 for a table of another size, 24 for one outside of its rules, 17 for what is not of its form, then 18 or 19 where there
-- is no place for it
unfoldable pub answer_to : List ℕ → Bool → Option ℕ → TagRefusal → Changed
answer_to t formed place none =
    cond (eqb (length t) table_size)
    (cond (is_table (entries_in t))
    (cond formed (cond (is_some place) (Ok tt) (Err none)) (Err NotATag))
    (Err NotATable))
    (Err OtherSize)

-- a table afterwards: these entries; refused, it is as it was
abbrev pub Leaves : List (List ℕ) → Changed → List ℕ → List ℕ → Type 0
Leaves es (Ok u) before after = (length after ≡ length before) × (entries_in after ≡ es)
Leaves es (Err r) before after = after ≡ before

pub record Changes (answer : Changed) (es : List (List ℕ)) (before : List ℕ) (a : Changed) (after : List ℕ) : Type 0 where
  pub answered : a ≡ answer
  pub leaves : Leaves es a before after

-- the entries with another one at a place, if there is one
abbrev pub replaced : List (List ℕ) → Option ℕ → List ℕ → List (List ℕ)
replaced es None e = es
replaced es (Some i) e = set es i e

-- the entries with a tag set: a known name's entry or the lowest free one is the tag's, every other is as it was
unfoldable pub with_tag : List ℕ → List ℕ → List (List ℕ) → List (List ℕ)
with_tag name value es = replaced es (place_for name es) (entry_of name value)

-- the entries with a name removed: its entry is zero, every other is as it was
unfoldable pub without_tag : List ℕ → List (List ℕ) → List (List ℕ)
without_tag name es = replaced es (place_of name es) free_entry

-- ---- what each call answers and promises

abbrev pub set_answer : List ℕ → List ℕ → List ℕ → Changed
set_answer name value t = answer_to t (is_tag name value) (place_for name (entries_in t)) Full

abbrev pub SetsTag : List ℕ → List ℕ → List ℕ → Changed → List ℕ → Type 0
SetsTag name value t = Changes (set_answer name value t) (with_tag name value (entries_in t)) t

-- the tag of a message is set
abbrev pub take_answer : List ℕ → List ℕ → Changed
take_answer m t = answer_to t (is_message m) (place_for (name_in m) (entries_in t)) Full

abbrev pub TakesTag : List ℕ → List ℕ → Changed → List ℕ → Type 0
TakesTag m t = Changes (take_answer m t) (with_tag (name_in m) (value_in m) (entries_in t)) t

abbrev pub remove_answer : List ℕ → List ℕ → Changed
remove_answer name t = answer_to t (is_name name) (place_of name (entries_in t)) Absent

abbrev pub RemovesTag : List ℕ → List ℕ → Changed → List ℕ → Type 0
RemovesTag name t = Changes (remove_answer name t) (without_tag name (entries_in t)) t
