-- Laws of `Findings`: the tests in turn, and that a value lies in its table.
-- Assumes nothing.
use Rattle.std.specs.Prelude.{
  ◌≡◌,
  refl,
  Bool,
  true,
  false,
  cond,
  ◌&&◌,
  List,
  ℕ,
  Option,
  Some,
  None,
  Ok,
  Err,
  ◌+◌,
  ◌*◌,
  ◌≤◌,
  ◌<◌,
  eqb,
  length,
  drop,
  get_or,
}
use Rattle.std.proofs.Common.{◌⊎◌, inl, inr, sym, ap, subst, ◌∙◌, arith, get_or-take, get_or-drop}
use Rattle.std.proofs.Math.Bool.{and-false}
use borrow.Author.Tests.{eq-eqb, ne_eqb, eqb-true}
use Rattle.tag_message.specs.Tags.{is_name}
use Rattle.tag_message.specs.declared.TagRefusal.{TagRefusal}
use Rattle.tag_message.specs.declared.TagRefusal.TheVariants.{OtherSize, NotATag, NotATable}
use Rattle.tag_entry.specs.Entries.{value_length}
use Rattle.tag_survey.specs.Tables.{entries_in, entry_at, is_table, place_of}
use Rattle.tag_survey.specs.TableLaws.{entry_at_lem, entry_size_lem}
use Rattle.tag_survey.specs.Surveys.{surveyed}
use Rattle.tag_survey.specs.SurveyLaws.{Sees, no_table, place_of_below, entry_value, table_entry}
use Rattle.tag_survey.specs.declared.Seen.{Seen}
use Rattle.tag_find.specs.Findings.{Finding, value_at, first_of, find_in}
use Rattle.tag_find.specs.declared.Part.{Part}
use Rattle.tag_find.specs.declared.Place.{Place}
use Rattle.tag_find.specs.declared.Place.TheVariants.{Own, Defaults}

-- the bytes of an entry's value
pub value_at_lem : (t : List ℕ) (i : ℕ) → i < 64
    → (len : ℕ) → len ≡ get_or t (98 * i + 33) 0 → ◌≡◌ {A = Part} (record { start = 98 * i + 34; len = len }) (value_at (entries_in t) i)
value_at_lem t i h len q =
    let e : get_or t (98 * i + 33) 0 ≡ value_length (entry_at (entries_in t) i) =
    sym (ap value_length (entry_at_lem t i h) ∙ get_or-take 98 (drop (98 * i) t) 33 0 (omega arith) ∙ get_or-drop (98 * i) t 33 0) in
    λ j. record { start = 98 * i + 34; len = (q ∙ e) j }

-- ---- the tests, in turn

module _ (own defaults name : List ℕ) where
  pub other_size : (length own ≡ 6272 → ⊥) ⊎ ((length own ≡ 6272) × (length defaults ≡ 6272 → ⊥))
      → Err OtherSize ≡ find_in own defaults name
  unfolding find_in
  other_size (inl h) = rw (ne_eqb (length own) 6272 h)
  other_size (inr h) = rw (ne_eqb (length defaults) 6272 h.1, and-false)

  module _ (h : length own ≡ 6272) (k : length defaults ≡ 6272) where
    pub own_refused : {r : TagRefusal} → surveyed name own ≡ Err r → Err r ≡ find_in own defaults name
    unfolding find_in
    own_refused e =
        let q = no_table name own h e in
        rw (eq-eqb (length own) 6272 h, eq-eqb (length defaults) 6272 k, q.0, ← q.1)

    module _ {here : Seen} (s : Sees name own here) where
      pub defaults_refused : {r : TagRefusal} → surveyed name defaults ≡ Err r → Err r ≡ find_in own defaults name
      unfolding find_in
      defaults_refused e =
          let q = no_table name defaults k e in
          rw (eq-eqb (length own) 6272 h, eq-eqb (length defaults) 6272 k, s.table, q.0, ← q.1)

      module _ {behind : Seen} (t : Sees name defaults behind) where
        pub no_name : is_name name ≡ false → Err NotATag ≡ find_in own defaults name
        unfolding find_in
        no_name n = rw (eq-eqb (length own) 6272 h, eq-eqb (length defaults) 6272 k, s.table, t.table, n)

        pub looked_for : {p : Option Place} → is_name name ≡ true
            → p ≡ first_of (entries_in own) (entries_in defaults) here.named behind.named
            → Ok p ≡ find_in own defaults name
        unfolding find_in
        looked_for n r =
            rw (eq-eqb (length own) 6272 h, eq-eqb (length defaults) 6272 k, s.table, t.table, n, r, s.named, t.named)

-- ---- a value lies in its table

-- a part lies in a table
pub record Inside (t : List ℕ) (p : Part) : Type 0 where
  pub size : length t ≡ 6272
  pub end : p.start + p.len ≤ 6272

value_inside : (t : List ℕ) (i : ℕ) → length t ≡ 6272 → is_table (entries_in t) ≡ true → i < 64 → Inside t (value_at (entries_in t) i)
value_inside t i l e h =
    let v = entry_value (entry_at (entries_in t) i) (entry_size_lem t i h l) (table_entry t i h e) in
    record { size = l; end = omega arith }

-- where a finding lies
abbrev pub Lies : Finding → List ℕ → List ℕ → Type 0
Lies (Ok (Some (Own p))) own defaults = Inside own p
Lies (Ok (Some (Defaults p))) own defaults = Inside defaults p
Lies (Ok None) own defaults = Unit
Lies (Err r) own defaults = Unit

pub lies : (own defaults name : List ℕ) → Lies (find_in own defaults name) own defaults
unfolding find_in first_of
lies own defaults name =
    go (eqb (length own) 6272) refl (eqb (length defaults) 6272) refl (is_table (entries_in own)) refl (is_table (entries_in defaults)) refl
    (is_name name) (place_of name (entries_in own)) refl (place_of name (entries_in defaults)) refl
  where
    go : (a : Bool) → eqb (length own) 6272 ≡ a → (b : Bool) → eqb (length defaults) 6272 ≡ b →
        (d : Bool) → is_table (entries_in own) ≡ d → (e : Bool) → is_table (entries_in defaults) ≡ e → (n : Bool) →
        (x : Option ℕ) → place_of name (entries_in own) ≡ x → (y : Option ℕ) → place_of name (entries_in defaults) ≡ y →
        Lies
        (cond (a && b)
        (cond (d && e)
        (cond n (Ok (first_of (entries_in own) (entries_in defaults) x y)) (Err NotATag))
        (Err NotATable))
        (Err OtherSize))
        own defaults
    go true p true q true r true s true (Some i) u y v = value_inside own i (eqb-true (length own) 6272 p) r (place_of_below name own i u)
    go true p true q true r true s true None u (Some j) v =
        value_inside defaults j (eqb-true (length defaults) 6272 q) s (place_of_below name defaults j v)
    go true p true q true r true s true None u None v = tt
    go true p true q true r true s false x u y v = tt
    go true p true q true r false s n x u y v = tt
    go true p true q false r e s n x u y v = tt
    go true p false q d r e s n x u y v = tt
    go false p b q d r e s n x u y v = tt

-- of what was found
module _ (own defaults name : List ℕ) (f : Finding) (e : f ≡ find_in own defaults name) (p : Part) where
  pub in_own_table : f ≡ Ok (Some (Own p)) → Inside own p
  in_own_table h = subst (λ (x : Finding). Lies x own defaults) (sym e ∙ h) (lies own defaults name)

  pub in_defaults_table : f ≡ Ok (Some (Defaults p)) → Inside defaults p
  in_defaults_table h = subst (λ (x : Finding). Lies x own defaults) (sym e ∙ h) (lies own defaults name)
