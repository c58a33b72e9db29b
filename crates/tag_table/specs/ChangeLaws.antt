-- Laws of `Changes`: the answers in turn, and what a store leaves.
-- Assumes nothing.
use Rattle.std.specs.Prelude.{
  ◌≡◌,
  refl,
  Bool,
  true,
  false,
  cond,
  List,
  [],
  ℕ,
  Option,
  Some,
  None,
  is_some,
  Ok,
  Err,
  ◌+◌,
  ◌-◌,
  ◌*◌,
  ◌<◌,
  eqb,
  length,
  take,
  drop,
  position,
}
use Rattle.std.proofs.Common.{sym, ap, subst, ◌∙◌, arith}
use Rattle.std.specs.Option.{ok_or, option_or}
use borrow.Author.Tests.{eq-eqb}
use Rattle.std.proofs.lemmas.List.Edits.{sets}
use Rattle.std.proofs.Math.Seq.{length-sets}
use Rattle.tag_message.specs.Tags.{is_name, is_tag}
use Rattle.tag_message.specs.Messages.{name_length, value_length, name_in, value_in, is_message}
use Rattle.tag_message.specs.MessageLaws.{Read, passed, read_tag}
use Rattle.tag_message.specs.declared.TagRefusal.{TagRefusal}
use Rattle.tag_message.specs.declared.TagRefusal.TheVariants.{OtherSize, NotATag, Full, NotATable}
use Rattle.tag_entry.specs.Entries.{is_free}
use Rattle.tag_survey.specs.Tables.{entries_in, is_table, place_of, place_for}
use Rattle.tag_survey.specs.TableLaws.{set_entry}
use Rattle.tag_survey.specs.Surveys.{survey_of, surveyed}
use Rattle.tag_survey.specs.SurveyLaws.{Sees, position_below, place_of_below}
use Rattle.tag_survey.specs.declared.Seen.{Seen}
use Rattle.tag_table.specs.Changes.{Changed, answer_to, Leaves, Changes, replaced, with_tag, SetsTag, TakesTag}

-- ---- places

pub chosen : (place : Option ℕ) (none : TagRefusal) (at : ℕ) → ok_or place none ≡ Ok at → place ≡ Some at
chosen None none at e = cc
chosen (Some i) none at e = cc

module _ (name t : List ℕ) where
  pub place_for_below : (at : ℕ) → place_for name (entries_in t) ≡ Some at → at < 64
  unfolding place_for
  place_for_below at e = go (place_of name (entries_in t)) refl e
    where
      go : (o : Option ℕ) → place_of name (entries_in t) ≡ o → option_or o (position is_free (entries_in t)) ≡ Some at → at < 64
      go (Some i) q h = place_of_below name t at (q ∙ h)
      go None q h = position_below t is_free at h

  -- a place of the table
  pub record Placed (place : Option ℕ) (at : ℕ) : Type 0 where
    pub is : place ≡ Some at
    pub below : at < 64
    pub size : length t ≡ 6272

  -- the place of a name
  pub named_at : {seen : Seen} → Sees name t seen → (none : TagRefusal) (at : ℕ) → ok_or seen.named none ≡ Ok at
      → Placed (place_of name (entries_in t)) at
  named_at s none at e =
      let is : place_of name (entries_in t) ≡ Some at = sym s.named ∙ chosen _ none at e in
      record { is = is; below = place_of_below name t at is; size = s.size }

  -- where a tag goes
  pub place_for_lem : {seen : Seen} → Sees name t seen → option_or seen.named seen.free ≡ place_for name (entries_in t)
  unfolding place_for
  place_for_lem s = rw (s.named, s.free)

  pub goes_at : {seen : Seen} → Sees name t seen → (none : TagRefusal) (at : ℕ) → ok_or (option_or seen.named seen.free) none ≡ Ok at
      → Placed (place_for name (entries_in t)) at
  goes_at s none at e =
      let is : place_for name (entries_in t) ≡ Some at = sym (place_for_lem s) ∙ chosen _ none at e in
      record { is = is; below = place_for_below at is; size = s.size }

-- ---- refusals change nothing

module _ (name t : List ℕ) (formed : Bool) (place : Option ℕ) (none : TagRefusal) where
  pub refused : {es : List (List ℕ)} {r : TagRefusal} → surveyed name t ≡ Err r → Changes (answer_to t formed place none) es t (Err r) t
  unfolding answer_to surveyed survey_of
  refused {es} {r} e = go (eqb (length t) 6272) (is_table (entries_in t)) e
    where
      there : Seen
      there = record { named = place_of name (entries_in t); free = position is_free (entries_in t) }

      go : (x y : Bool) → cond x (ok_or (cond y (Some there) None) NotATable) (Err OtherSize) ≡ Err r
          → Changes (cond x (cond y (cond formed (cond (is_some place) (Ok tt) (Err none)) (Err NotATag)) (Err NotATable)) (Err OtherSize))
          es t (Err r) t
      go true true h = cc
      go true false h = let q : NotATable ≡ r = cc in record { answered = ap Err (sym q); leaves = refl }
      go false y h = let q : OtherSize ≡ r = cc in record { answered = ap Err (sym q); leaves = refl }

  module _ {seen : Seen} (s : Sees name t seen) where
    pub refuses_form : {es : List (List ℕ)} → formed ≡ false → Changes (answer_to t formed place none) es t (Err NotATag) t
    unfolding answer_to
    refuses_form f = record { answered = rw (eq-eqb (length t) 6272 s.size, s.table, f); leaves = refl }

    pub refuses_place : {es : List (List ℕ)} {r : TagRefusal} → formed ≡ true → ok_or place none ≡ Err r
        → Changes (answer_to t formed place none) es t (Err r) t
    unfolding answer_to
    refuses_place {r = r} f p = record { answered = rw (eq-eqb (length t) 6272 s.size, s.table, f) (go place p); leaves = refl }
      where
        done : Changed
        done = Ok tt

        go : (o : Option ℕ) → ok_or o none ≡ Err r → Err r ≡ cond (is_some o) done (Err none)
        go None e = let q : none ≡ r = cc in ap Err (sym q)
        go (Some i) e = cc

    -- what is stored at a place
    pub stored : {at : ℕ} (e after : List ℕ) → formed ≡ true → Placed name t place at → length e ≡ 98 → after ≡ sets t (98 * at) e
        → Changes (answer_to t formed place none) (replaced (entries_in t) place e) t (Ok tt) after
    unfolding answer_to
    stored {at} e after f p l w = record {
      answered = rw (eq-eqb (length t) 6272 s.size, s.table, f, p.is);
      leaves = (ap length w ∙ length-sets t (98 * at) e, rw p.is (ap entries_in w ∙ set_entry t at e p.below s.size l));
    }

-- ---- take

-- where nothing is of the form, nothing is done
never_done : (t : List ℕ) (place : Option ℕ) (none : TagRefusal) (es fs : List (List ℕ)) (a : Changed) (after : List ℕ)
    → a ≡ answer_to t false place none → Leaves es a t after → Leaves fs a t after
unfolding answer_to
never_done t place none es fs (Ok u) after e l = absurd (go (eqb (length t) 6272) (is_table (entries_in t)) e)
  where
    go : (x y : Bool) → Ok u ≡ cond x (cond y (Err NotATag) (Err NotATable)) (Err OtherSize) → ⊥
    go true true h = cc
    go true false h = cc
    go false y h = cc
never_done t place none es fs (Err r) after e l = l

pub not_taken : (m t : List ℕ) (a : Changed) (after : List ℕ) → is_message m ≡ false → SetsTag [] [] t a after → TakesTag m t a after
unfolding answer_to is_tag is_name
not_taken m t a after e p =
    record {
      answered = rw e p.answered;
      leaves = never_done t (place_for [] (entries_in t)) Full (with_tag [] [] (entries_in t))
          (with_tag (name_in m) (value_in m) (entries_in t)) a
          after p.answered p.leaves;
    }

pub taken :
    (m t : List ℕ) (n v : ℕ) (a : Changed) (after : List ℕ) → Read m n v →
    SetsTag (take (1 + n - 1) (drop 1 m)) (take (1 + n + 1 + v - (1 + n + 1)) (drop (1 + n + 1) m)) t a after → TakesTag m t a after
unfolding name_in value_in
taken m t n v a after r p =
    let i : 1 + n - 1 ≡ name_length m = omega (arith, r.named) in
    let j : 1 + n + 1 ≡ 1 + name_length m + 1 = omega (arith, r.named) in
    let k : 1 + n + 1 + v - (1 + n + 1) ≡ value_length m = omega (arith, r.valued) in
    let x : take (1 + n - 1) (drop 1 m) ≡ name_in m = ap (λ (l : ℕ). take l (drop 1 m)) i in
    let y : take (1 + n + 1 + v - (1 + n + 1)) (drop (1 + n + 1) m) ≡ value_in m =
    ap (λ (l : ℕ). take l (drop (1 + n + 1) m)) k ∙ ap (λ (l : ℕ). take (value_length m) (drop l m)) j in
    let q : SetsTag (name_in m) (value_in m) t a after =
    subst (λ (w : List ℕ). SetsTag (name_in m) w t a after) y
    (subst (λ (w : List ℕ). SetsTag w (take (1 + n + 1 + v - (1 + n + 1)) (drop (1 + n + 1) m)) t a after) x p) in
    let f : is_tag (name_in m) (value_in m) ≡ is_message m = read_tag m (passed m r.message) ∙ sym r.message in
    record {
      answered = q.answered ∙ ap (λ (d : Bool). answer_to t d (place_for (name_in m) (entries_in t)) Full) f;
      leaves = q.leaves;
    }
