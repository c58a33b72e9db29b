-- Setting, taking and removing a tag alter no entry with another name: from the promises alone.
-- Assumes nothing.
use Rattle.std.specs.Prelude.{◌≡◌, refl, Bool, false, List, [], ℕ, Option, Some, None, Ok, Err, position}
use Rattle.std.proofs.Common.{sym, ap, ◌∙◌, get_or-set_other}
use Rattle.std.specs.Option.{option_or}
use Rattle.std.proofs.lemmas.List.Quantifiers.{position-Some}
use Rattle.std.proofs.lemmas.Slice.Eq.{bytes_eq-Decides}
use Rattle.tag_message.specs.Messages.{name_in, value_in}
use Rattle.tag_message.specs.declared.TagRefusal.{TagRefusal}
use Rattle.tag_entry.specs.Entries.{name_of, is_free, is_named, entry_of, free_entry}
use Rattle.tag_survey.specs.Tables.{entries_in, entry_at, place_of, place_for}
use Rattle.tag_table.specs.Changes.{Changed, answer_to, Changes, replaced, with_tag, without_tag, SetsTag, TakesTag, RemovesTag}

-- a used entry with another name
pub record Other (name e : List ℕ) : Type 0 where
  pub used : is_free e ≡ false
  pub differs : name ≡ name_of e → ⊥

-- every entry of a table with another name is, byte for byte, as it was
abbrev pub PreservesOthers : List ℕ → List ℕ → List ℕ → Type 0
PreservesOthers name before after = (i : ℕ) → Other name (entry_at (entries_in before) i)
    → entry_at (entries_in after) i ≡ entry_at (entries_in before) i

module _ (name t : List ℕ) where
  other_named : (i : ℕ) → Some i ≡ place_of name (entries_in t) → Other name (entry_at (entries_in t) i) → ⊥
  unfolding place_of is_named
  other_named i e o =
      o.differs ((bytes_eq-Decides name (name_of (entry_at (entries_in t) i))).0
      (position-Some (is_named name) (entries_in t) i [] (sym e)).1)

  other_free : (i : ℕ) → Some i ≡ position is_free (entries_in t) → Other name (entry_at (entries_in t) i) → ⊥
  other_free i e o = cc (o.used, (position-Some is_free (entries_in t) i [] (sym e)).1)

  -- no such entry stands where a tag is set
  other_place : (i : ℕ) → Some i ≡ place_for name (entries_in t) → Other name (entry_at (entries_in t) i) → ⊥
  unfolding place_for
  other_place i e o = go (place_of name (entries_in t)) refl e
    where
      go : (p : Option ℕ) → p ≡ place_of name (entries_in t) → Some i ≡ option_or p (position is_free (entries_in t)) → ⊥
      go (Some j) q h = other_named i (h ∙ q) o
      go None q h = other_free i h o

-- a change at one place, which no other name has
changed_preserves :
    (name before : List ℕ) (formed : Bool) (place : Option ℕ) (none : TagRefusal) (e : List ℕ) (a : Changed) (after : List ℕ) →
    ((i : ℕ) → Some i ≡ place → Other name (entry_at (entries_in before) i) → ⊥) →
    Changes (answer_to before formed place none) (replaced (entries_in before) place e) before a after → PreservesOthers name before after
changed_preserves name before formed place none e (Err r) after n p i o = ap (λ (l : List ℕ). entry_at (entries_in l) i) p.leaves
changed_preserves name before formed None none e (Ok u) after n p i o = ap (λ (es : List (List ℕ)). entry_at es i) p.leaves.1
changed_preserves name before formed (Some j) none e (Ok u) after n p i o =
    ap (λ (es : List (List ℕ)). entry_at es i) p.leaves.1
    ∙ get_or-set_other (entries_in before) j i e [] (λ q. n i (ap Some q) o)

-- no tag that is set alters an entry with another name
pub set_preserves : (name value before : List ℕ) (a : Changed) (after : List ℕ) → SetsTag name value before a after
    → PreservesOthers name before after
unfolding with_tag
set_preserves name value before a after p = changed_preserves name before _ _ _ (entry_of name value) a after (other_place name before) p

-- no tag message that is read and set does
pub take_preserves : (m before : List ℕ) (a : Changed) (after : List ℕ) → TakesTag m before a after
    → PreservesOthers (name_in m) before after
unfolding with_tag
take_preserves m before a after p =
    changed_preserves (name_in m) before _ _ _ (entry_of (name_in m) (value_in m)) a after (other_place (name_in m) before) p

-- nor does a name that is removed
pub remove_preserves : (name before : List ℕ) (a : Changed) (after : List ℕ) → RemovesTag name before a after
    → PreservesOthers name before after
unfolding without_tag
remove_preserves name before a after p = changed_preserves name before _ _ _ free_entry a after (other_named name before) p
