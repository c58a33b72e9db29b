-- Laws that nothing here cites, kept since they stood.
-- Assumes nothing.
use Rattle.std.specs.Prelude.{◌≡◌, refl, true, false, List, ℕ, Option, Some, None, Ok, Err, ◌+◌, ◌-◌, length, take, drop}
use Rattle.std.specs.Borrow.{Bor}
use Rattle.std.proofs.Common.{ap, ◌∙◌, arith, length-drop, length-take-le}
use Rattle.std.proofs.Math.Bool.{and-false}
use borrow.Author.Tests.{eq-eqb, ne_eqb}
use Rattle.tag_message.specs.Tags.{is_name}
use Rattle.tag_message.specs.declared.TagRefusal.TheVariants.{OtherSize, NotATag, NotATable}
use Rattle.tag_survey.specs.Tables.{entries_in, is_table, place_of}
use Rattle.tag_find.specs.Findings.{value_at, first_of, find_in, PartOf}
use Rattle.tag_find.specs.FindingLaws.{Inside}
use Rattle.tag_find.specs.declared.Part.{Part}
use Rattle.tag_find.specs.declared.Place.{Place}
use Rattle.tag_find.specs.declared.Place.TheVariants.{Own, Defaults}

-- ---- where a name is, by its places in both tables

module _ (own defaults : List (List ℕ)) where
  pub in_own : (i : ℕ) (j : Option ℕ) → Some (Own (value_at own i)) ≡ first_of own defaults (Some i) j
  unfolding first_of
  in_own i j = refl

  pub in_defaults : (j : ℕ) → Some (Defaults (value_at defaults j)) ≡ first_of own defaults None (Some j)
  unfolding first_of
  in_defaults j = refl

  pub in_neither : ◌≡◌ {A = Option Place} None (first_of own defaults None None)
  unfolding first_of
  in_neither = refl

-- ---- the tests, in turn

module _ (own defaults name : List ℕ) where
  pub own_size : (length own ≡ 6272 → ⊥) → Err OtherSize ≡ find_in own defaults name
  unfolding find_in
  own_size h = rw (ne_eqb (length own) 6272 h)

  pub defaults_size : (length defaults ≡ 6272 → ⊥) → Err OtherSize ≡ find_in own defaults name
  unfolding find_in
  defaults_size h = rw (ne_eqb (length defaults) 6272 h, and-false)

  module _ (h : length own ≡ 6272) (k : length defaults ≡ 6272) where
    pub own_rules : is_table (entries_in own) ≡ false → Err NotATable ≡ find_in own defaults name
    unfolding find_in
    own_rules e = rw (eq-eqb (length own) 6272 h, eq-eqb (length defaults) 6272 k, e)

    pub defaults_rules : is_table (entries_in defaults) ≡ false → Err NotATable ≡ find_in own defaults name
    unfolding find_in
    defaults_rules e = rw (eq-eqb (length own) 6272 h, eq-eqb (length defaults) 6272 k, e, and-false)

    pub no_name : is_table (entries_in own) ≡ true → is_table (entries_in defaults) ≡ true → is_name name ≡ false
        → Err NotATag ≡ find_in own defaults name
    unfolding find_in
    no_name e f n = rw (eq-eqb (length own) 6272 h, eq-eqb (length defaults) 6272 k, e, f, n)

    pub looked_for :
        (i j : Option ℕ) {p : Option Place} → is_table (entries_in own) ≡ true → is_table (entries_in defaults) ≡ true →
        is_name name ≡ true → i ≡ place_of name (entries_in own) → j ≡ place_of name (entries_in defaults) →
        p ≡ first_of (entries_in own) (entries_in defaults) i j → Ok p ≡ find_in own defaults name
    unfolding find_in
    looked_for i j e f n q r w = rw (eq-eqb (length own) 6272 h, eq-eqb (length defaults) 6272 k, e, f, n, ← q, ← r) (ap Ok w)

-- ---- what is shown

pub part_of :
    (t : Bor (List ℕ)) {r : Bor (List ℕ)} (p : Part) → Inside t.now p →
    r.ref_ptr.0 ≡ t.ref_ptr.0 → r.ref_ptr.1 ≡ p.start + t.ref_ptr.1 → r.now ≡ take (p.start + p.len - p.start) (drop p.start t.now) →
    PartOf t p r
part_of t p i a b e =
    let n : p.start + p.len - p.start ≡ p.len = omega arith in
    let bytes = e ∙ ap (λ (k : ℕ). take k (drop p.start t.now)) n in
    record {
      block = a;
      offset = omega (arith, b);
      size = ap length bytes ∙ length-take-le p.len (drop p.start t.now) (rw length-drop (omega (arith, i.size, i.end)));
      bytes = bytes;
    }
