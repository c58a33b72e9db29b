-- Laws that nothing here cites, kept since they stood.
-- Assumes nothing.
use Rattle.std.specs.Prelude.{
  ◌≡◌,
  refl,
  Bool,
  true,
  false,
  cond,
  List,
  ℕ,
  Option,
  Some,
  None,
  is_some,
  Ok,
  Err,
  ◌*◌,
  ◌<◌,
  eqb,
  length,
  get_or,
  position,
  replicate,
}
use Rattle.std.proofs.Common.{ap, ◌∙◌}
use borrow.Author.Tests.{eq-eqb, ne_eqb}
use Rattle.std.specs.Option.{option_or}
use Rattle.std.proofs.lemmas.List.Quantifiers.{position-Some}
use Rattle.std.proofs.lemmas.List.Edits.{sets}
use Rattle.std.proofs.Math.Seq.{length-sets}
use Rattle.tag_message.specs.Tags.{is_name, is_tag}
use Rattle.tag_message.specs.MessageLaws.{tag_lengths}
use Rattle.tag_message.specs.declared.TagRefusal.{TagRefusal}
use Rattle.tag_message.specs.declared.TagRefusal.TheVariants.{OtherSize, NotATag, Full, Absent, NotATable}
use Rattle.tag_entry.specs.Entries.{entry_of}
use Rattle.tag_entry.specs.EntryLaws.{length_entry}
use Rattle.tag_survey.specs.Tables.{entries_in, is_table, place_of, place_for}
use Rattle.tag_survey.specs.TableLaws.{set_entry}
use Rattle.tag_survey.specs.declared.Seen.{Seen}
use Rattle.tag_survey.proofs.Kept.{SeesIn}
use Rattle.tag_table.specs.Changes.{Changed, answer_to, Changes, with_tag, without_tag, SetsTag, RemovesTag}

-- ---- the answers, in turn

module _ (t : List ℕ) (formed : Bool) (place : Option ℕ) (none : TagRefusal) where
  pub other_size : (length t ≡ 6272 → ⊥) → Err OtherSize ≡ answer_to t formed place none
  unfolding answer_to
  other_size h = rw (ne_eqb (length t) 6272 h)

  pub out_of_rules : length t ≡ 6272 → is_table (entries_in t) ≡ false → Err NotATable ≡ answer_to t formed place none
  unfolding answer_to
  out_of_rules h k = rw (eq-eqb (length t) 6272 h, k)

  pub not_formed : length t ≡ 6272 → is_table (entries_in t) ≡ true → formed ≡ false → Err NotATag ≡ answer_to t formed place none
  unfolding answer_to
  not_formed h k f = rw (eq-eqb (length t) 6272 h, k, f)

  pub no_place : length t ≡ 6272 → is_table (entries_in t) ≡ true → formed ≡ true → place ≡ None → Err none ≡ answer_to t formed place none
  unfolding answer_to
  no_place h k f p = rw (eq-eqb (length t) 6272 h, k, f, p)

-- ---- refusals change nothing

module _ (t : List ℕ) (formed : Bool) (place : Option ℕ) (none : TagRefusal) (es : List (List ℕ)) where
  pub refuses_size : (length t ≡ 6272 → ⊥) → Changes (answer_to t formed place none) es t (Err OtherSize) t
  refuses_size h = record { answered = other_size t formed place none h; leaves = refl }

  pub refuses_table : length t ≡ 6272 → is_table (entries_in t) ≡ false → Changes (answer_to t formed place none) es t (Err NotATable) t
  refuses_table h k = record { answered = out_of_rules t formed place none h k; leaves = refl }

  pub refuses_form : length t ≡ 6272 → is_table (entries_in t) ≡ true → formed ≡ false
      → Changes (answer_to t formed place none) es t (Err NotATag) t
  refuses_form h k f = record { answered = not_formed t formed place none h k f; leaves = refl }

  pub refuses_place : length t ≡ 6272 → is_table (entries_in t) ≡ true → formed ≡ true → place ≡ None
      → Changes (answer_to t formed place none) es t (Err none) t
  refuses_place h k f p = record { answered = no_place t formed place none h k f p; leaves = refl }

-- ---- places

-- the first element of which a test holds passes it
pub first_holds : {A : Type 0} (p : A → Bool) (l : List A) (i : ℕ) (d : A) → position p l ≡ Some i → p (get_or l i d) ≡ true
first_holds p l i d e = (position-Some p l i d e).1

-- where a tag goes
pub place_for_lem : (name : List ℕ) (es : List (List ℕ)) (s : Seen) (at : Option ℕ) → SeesIn name es s
    → at ≡ option_or s.named s.free → at ≡ place_for name es
unfolding place_for
place_for_lem name es s at p e = e ∙ rw (p.named, p.free)

-- ---- a change is made where there is a place

pub done :
    (t : List ℕ) (formed : Bool) (place : Option ℕ) (none : TagRefusal) →
    length t ≡ 6272 → is_table (entries_in t) ≡ true → formed ≡ true → is_some place ≡ true → Ok tt ≡ answer_to t formed place none
unfolding answer_to
done t formed place none h k f p = rw (eq-eqb (length t) 6272 h, k, f, p)

pub placed :
    (t : List ℕ) (formed : Bool) (place : Option ℕ) (none : TagRefusal) → Ok tt ≡ answer_to t formed place none → is_some place ≡ true
unfolding answer_to
placed t formed place none e = go (eqb (length t) 6272) (is_table (entries_in t)) formed (is_some place) e
  where
    changed : Changed
    changed = Ok tt

    go : (x y f p : Bool) → changed ≡ cond x (cond y (cond f (cond p changed (Err none)) (Err NotATag)) (Err NotATable)) (Err OtherSize)
        → p ≡ true
    go true true true true h = refl
    go true true true false h = cc
    go true true false p h = cc
    go true false f p h = cc
    go false y f p h = cc

-- ---- set and remove

module _ (name t after : List ℕ) (at : ℕ) (h : length t ≡ 6272) (k : is_table (entries_in t) ≡ true) where
  pub tag_set :
      (value : List ℕ) → is_tag name value ≡ true → at < 64 → Some at ≡ place_for name (entries_in t) →
      after ≡ sets t (98 * at) (entry_of name value) → SetsTag name value t (Ok tt) after
  unfolding with_tag
  tag_set value f p e w =
      let l = tag_lengths name value f in
      record {
        answered = done t (is_tag name value) (place_for name (entries_in t)) Full h k f (rw (← e) refl);
        leaves = (
          ap length w ∙ length-sets t (98 * at) (entry_of name value),
          rw (← e) (ap entries_in w ∙ set_entry t at (entry_of name value) p h (length_entry name value l.most l.short)),
        );
      }

  pub tag_removed :
      is_name name ≡ true → at < 64 → Some at ≡ place_of name (entries_in t) →
      after ≡ sets t (98 * at) (replicate 98 0) → RemovesTag name t (Ok tt) after
  unfolding without_tag
  tag_removed f p e w =
      record {
        answered = done t (is_name name) (place_of name (entries_in t)) Absent h k f (rw (← e) refl);
        leaves = (
          ap length w ∙ length-sets t (98 * at) (replicate 98 0),
          rw (← e) (ap entries_in w ∙ set_entry t at (replicate 98 0) p h refl),
        );
      }
