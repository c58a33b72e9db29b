-- Tags as C sees them: codes, and the numbers that are stored. Definitions.
-- Assumes nothing.
use Rattle.std.specs.Prelude.{◌≡◌, Bool, true, false, Some, None, Result, Ok, Err, List, ℕ, ℤ, pos, length}
use Rattle.codes.specs.Codes.{number_code}
use Rattle.tag_message.specs.Tags.{number_of}
use Rattle.tag_message.specs.Messages as message
use Rattle.tag_message.specs.declared.Lengths.{Lengths}
use Rattle.tag_message.specs.declared.TagRefusal.{TagRefusal}
use Rattle.tag_survey.specs.Tables.{entries_in}
use Rattle.tag_table.specs.Changes as change
use Rattle.tag_find.specs.Findings.{Finding}
use Rattle.tag_find.specs.declared.Place.TheVariants.{Own, Defaults}

-- the length of what was written
abbrev pub writing_code : Result ℕ TagRefusal → ℤ
writing_code (Ok n) = pos n
writing_code (Err r) = number_code (number_of r)

-- 0 where a table was changed
abbrev pub changing_code : change.Changed → ℤ
changing_code (Ok u) = pos 0
changing_code (Err r) = number_code (number_of r)

-- 1 where a name was found, 0 where not
abbrev pub presence_code : Result Bool TagRefusal → ℤ
presence_code (Ok true) = pos 1
presence_code (Ok false) = pos 0
presence_code (Err r) = number_code (number_of r)

-- the code of what writing answers, and the part as that answer leaves it
pub record TellsWriting (name value before : List ℕ) (r : ℤ) (after : List ℕ) : Type 0 where
  pub number : r ≡ writing_code (message.write_into name value (length before))
  pub leaves : message.Leaves name value (message.write_into name value (length before)) before after

-- a message that is read is told by 0, and its lengths are stored; a refused one changes nothing
abbrev pub Stores : Result Lengths TagRefusal → ℤ → ℕ → ℕ → ℕ → ℕ → Type 0
Stores (Ok t) r n₀ v₀ n₁ v₁ = (r ≡ pos 0) × (n₁ ≡ t.name) × (v₁ ≡ t.value)
Stores (Err q) r n₀ v₀ n₁ v₁ = (r ≡ number_code (number_of q)) × (n₁ ≡ n₀) × (v₁ ≡ v₀)

-- the code of an answer, and the table as that answer leaves it
pub record TellsChange (answer : change.Changed) (es : List (List ℕ)) (before : List ℕ) (r : ℤ) (after : List ℕ) : Type 0 where
  pub number : r ≡ changing_code answer
  pub leaves : change.Leaves es answer before after

abbrev pub TellsSet : List ℕ → List ℕ → List ℕ → ℤ → List ℕ → Type 0
TellsSet name value t = TellsChange (change.set_answer name value t) (change.with_tag name value (entries_in t)) t

abbrev pub TellsTake : List ℕ → List ℕ → ℤ → List ℕ → Type 0
TellsTake m t = TellsChange (change.take_answer m t) (change.with_tag (message.name_in m) (message.value_in m) (entries_in t)) t

abbrev pub TellsRemove : List ℕ → List ℕ → ℤ → List ℕ → Type 0
TellsRemove name t = TellsChange (change.remove_answer name t) (change.without_tag name (entries_in t)) t

-- 0 for the own table, 1 for the defaults, and the part; 0, 0 and 0 where nothing is found, or asking is refused
abbrev pub TellsPlace : Finding → ℤ → ℕ → ℕ → Type 0
TellsPlace (Ok (Some (Own p))) r start len = (r ≡ pos 0) × (start ≡ p.start) × (len ≡ p.len)
TellsPlace (Ok (Some (Defaults p))) r start len = (r ≡ pos 1) × (start ≡ p.start) × (len ≡ p.len)
TellsPlace (Ok None) r start len = (r ≡ pos 0) × (start ≡ 0) × (len ≡ 0)
TellsPlace (Err q) r start len = (r ≡ pos 0) × (start ≡ 0) × (len ≡ 0)
