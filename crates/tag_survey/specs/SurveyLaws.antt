-- Laws of `Surveys`: the fingerprints met, and the steps of the pass.
-- Assumes nothing.
use Rattle.std.specs.Prelude.{
  ◌≡◌,
  refl,
  Bool,
  true,
  false,
  cond,
  not,
  ◌&&◌,
  List,
  [],
  ◌∷◌,
  ◌++◌,
  ℕ,
  Option,
  Some,
  None,
  IfSome,
  Result,
  Ok,
  Err,
  IsErrAnd,
  ◌+◌,
  ◌≤◌,
  ◌<◌,
  eqb,
  leb,
  length,
  take,
  drop,
  get_or,
  position,
  All,
}
use Rattle.std.proofs.Common.{sym, ap, ◌∙◌, arith, add-one, drop_of_length-le, take-suc, take_all, length-drop, length-take, drop-cons}
use Rattle.std.specs.List.{list_all, list_any}
use Rattle.std.specs.Option.{ok_or}
use Rattle.std.proofs.Math.Bool.{and-false}
use Rattle.std.proofs.lemmas.Bool.{and_parts}
use Rattle.std.proofs.lemmas.List.Elements.{All-nil, All-get_or, All-weaker}
use Rattle.std.proofs.lemmas.List.Sums.{AllPass-from_list_all}
use Rattle.std.proofs.lemmas.List.Folds.{list_all_more, list_all_at, list_any_none}
use Rattle.std.proofs.lemmas.Result.{err_from_is_err_and}
use Rattle.std.proofs.lemmas.List.Quantifiers.{position-Some}
use Rattle.std.proofs.lemmas.Slice.Eq.{bytes_eq-Decides}
use borrow.Author.Tests.{eq-eqb, ne_eqb, eqb-true, leb-true}
use Rattle.tag_message.specs.declared.TagRefusal.{TagRefusal}
use Rattle.tag_message.specs.declared.TagRefusal.TheVariants.{OtherSize, NotATable}
use Rattle.tag_entry.specs.Entries.{name_length, name_of, value_length, is_zero, is_free, is_used, is_entry, is_named}
use Rattle.tag_entry.specs.Fingerprints.{fingerprint}
use Rattle.tag_survey.specs.Tables.{entries_in, entry_at, is_fresh, all_fresh, is_table, place_of}
use Rattle.tag_survey.specs.Surveys.{IsMet, Met, seen_after, survey_of, surveyed}
use Rattle.tag_survey.specs.TableLaws.{length_entries, first_more}
use Rattle.tag_survey.specs.declared.Seen.{Seen}

-- ---- the fingerprints met

-- a name whose fingerprint was not met is none of theirs
pub unmet :
    (met : List Bool) (name : List ℕ) (es : List (List ℕ)) →
    1 ≤ length name →
    All (IsMet met) es →
    get_or met (fingerprint name) false ≡ false →
    list_any (is_named name) es ≡ false
unfolding is_named
unmet met name es h m n = list_any_none (is_named name) es (All-weaker (IsMet met) (λ e. is_named name e ≡ false) other es m)
  where
    other : (e : List ℕ) → IsMet met e → is_named name e ≡ false
    other e i = go (is_named name e) refl
      where
        go : (t : Bool) → is_named name e ≡ t → t ≡ false
        go false q = refl
        go true q =
            let same : name ≡ name_of e = (bytes_eq-Decides name (name_of e)).0 q in
            let used : is_free e ≡ false =
            ne_eqb (name_length e) 0 (λ z. omega (arith, ap length same ∙ ap (λ (k : ℕ). length (take k (drop 1 e))) z)) in
            let f : get_or met (fingerprint (name_of e)) false ≡ false = rw same at n in
            cc (i used)

module _ (before : List (List ℕ)) (e : List ℕ) where
  pub free_fresh : name_length e ≡ 0 → true ≡ is_fresh before e
  unfolding is_fresh
  free_fresh z = rw (eq-eqb (name_length e) 0 z)

  module _ (z : name_length e ≡ 0 → ⊥) (name : List ℕ) (p : name ≡ name_of e) where
    pub unmet_fresh : {met : List Bool} (f : ℕ) → length e ≡ 98 → Met met before → f ≡ fingerprint name → get_or met f false ≡ false
        → true ≡ is_fresh before e
    unfolding is_fresh
    unmet_fresh {met} f k m q u =
        let one : 1 ≤ length name = rw (p, length-take) (omega (arith, length-drop 1 e)) in
        rw (ne_eqb (name_length e) 0 z, ← p, unmet met name before one m.all (ap (λ i. get_or met i false) (sym q) ∙ u))

    pub compared_fresh : {b : Bool} → b ≡ list_any (is_named name) before → not b ≡ is_fresh before e
    unfolding is_fresh
    compared_fresh r = rw (ne_eqb (name_length e) 0 z, ← p, r)

-- ---- the pass

-- of the rules, after i entries
pub record Progress (es : List (List ℕ)) (met : List Bool) (i : ℕ) : Type 0 where
  pub entries : list_all is_entry (take i es) ≡ true
  pub fresh : all_fresh (take i es) (drop i es) ≡ all_fresh [] es
  pub fingerprints : Met met (take i es)

module _ (es : List (List ℕ)) (met : List Bool) (i : ℕ) (p : Progress es met i) (h : i < length es) where
  rest : all_fresh (take i es) (drop i es) ≡ (is_fresh (take i es) (entry_at es i) && all_fresh (take (i + 1) es) (drop (i + 1) es))
  unfolding all_fresh
  rest = rw (add-one i, drop-cons es i [] h, take-suc es i [] h)

  pub broken : is_entry (entry_at es i) ≡ false → is_table es ≡ false
  unfolding is_table
  broken e = rw (list_all_at is_entry es i [] h e)

  pub twice : is_fresh (take i es) (entry_at es i) ≡ false → is_table es ≡ false
  unfolding is_table
  twice e = let f : all_fresh [] es ≡ false = sym p.fresh ∙ rest ∙ rw e in rw (f, and-false)

  pub goes_on :
      {met' : List Bool} → is_entry (entry_at es i) ≡ true → is_fresh (take i es) (entry_at es i) ≡ true →
      Met met' (take i es ++ entry_at es i ∷ []) → Progress es met' (i + 1)
  goes_on e f m =
      let n : take (i + 1) es ≡ take i es ++ entry_at es i ∷ [] = rw add-one (take-suc es i [] h) in
      record {
        entries = list_all_more is_entry es i [] h ∙ rw (p.entries, e);
        fresh = rw f at (sym rest ∙ p.fresh);
        fingerprints = rw n m;
      }

pub ends : (es : List (List ℕ)) (met : List Bool) (i : ℕ) → Progress es met i → length es ≤ i → is_table es ≡ true
unfolding is_table all_fresh
ends es met i p h =
    let whole : take i es ≡ es = take_all i es h in
    let none : drop i es ≡ [] = drop_of_length-le es {i = i} h in
    let fresh : all_fresh [] es ≡ true = sym p.fresh ∙ rw none in
    rw (fresh, (rw whole at p.entries))

-- of the rules and the places, after i entries
pub record Surveying (name : List ℕ) (es : List (List ℕ)) (met : List Bool) (seen : Seen) (i : ℕ) : Type 0 where
  pub most : i ≤ length es
  pub entries : list_all is_entry (take i es) ≡ true
  pub fresh : all_fresh (take i es) (drop i es) ≡ all_fresh [] es
  pub fingerprints : Met met (take i es)
  pub named : seen.named ≡ position (is_named name) (take i es)
  pub free : seen.free ≡ position is_free (take i es)

pub surveying_starts : (name : List ℕ) (es : List (List ℕ)) (met : List Bool) → length met ≡ 256
    → Surveying name es met (record { named = None; free = None }) 0
surveying_starts name es met k = record {
  most = omega arith;
  entries = refl;
  fresh = refl;
  fingerprints = record { size = k; all = All-nil (IsMet met) };
  named = refl;
  free = refl;
}

-- the places of a table in its rules
pub places : (name : List ℕ) (es : List (List ℕ)) (seen : Seen) → is_table es ≡ true → seen.named ≡ place_of name es
    → seen.free ≡ position is_free es → Some seen ≡ survey_of name es
unfolding survey_of
places name es seen e n f = rw e (λ i. Some (record { named = n i; free = f i }))

module _ (name : List ℕ) (es : List (List ℕ)) (met : List Bool) (seen : Seen) (i : ℕ) (p : Surveying name es met seen i) where
  pub progress : Progress es met i
  progress = record { entries = p.entries; fresh = p.fresh; fingerprints = p.fingerprints }

  module _ (h : i < length es) where
    pub surveying_broken : is_entry (entry_at es i) ≡ false → is_table es ≡ false
    surveying_broken e = broken es met i progress h e

    pub surveying_twice : is_fresh (take i es) (entry_at es i) ≡ false → is_table es ≡ false
    surveying_twice e = twice es met i progress h e

    pub surveying_goes_on :
        {met' : List Bool} {s : Seen} → is_entry (entry_at es i) ≡ true → is_fresh (take i es) (entry_at es i) ≡ true →
        Met met' (take i es ++ entry_at es i ∷ []) → s ≡ seen_after name i (entry_at es i) seen → Surveying name es met' s (i + 1)
    surveying_goes_on e f m q =
        let next = goes_on es met i progress h e f m in
        record {
          most = omega arith;
          entries = next.entries;
          fresh = next.fresh;
          fingerprints = next.fingerprints;
          named = ap (λ (x : Seen). x.named) q ∙ rw p.named (sym (first_more (is_named name) es i [] h));
          free = ap (λ (x : Seen). x.free) q ∙ rw p.free (sym (first_more is_free es i [] h));
        }

  module _ (h : length es ≤ i) where
    pub ends_table : is_table es ≡ true
    ends_table = ends es met i progress h

    pub surveying_ends : Some seen ≡ survey_of name es
    unfolding place_of
    surveying_ends =
        let whole : take i es ≡ es = take_all i es h in
        places name es seen ends_table (p.named ∙ ap (position (is_named name)) whole) (p.free ∙ ap (position is_free) whole)

-- ---- by what was found

-- an element of those that all pass
list_all_within : {A : Type 0} (p : A → Bool) (l : List A) (i : ℕ) (d : A) → i < length l → list_all p l ≡ true → p (get_or l i d) ≡ true
list_all_within p l i d h e = All-get_or (λ x. p x ≡ true) l i d h (AllPass-from_list_all p l e)

-- a table in its rules, and its places
pub record Sees (name t : List ℕ) (seen : Seen) : Type 0 where
  pub size : length t ≡ 6272
  pub table : is_table (entries_in t) ≡ true
  pub named : seen.named ≡ place_of name (entries_in t)
  pub free : seen.free ≡ position is_free (entries_in t)

module _ (name t : List ℕ) where
  pub other_size : (length t ≡ 6272 → ⊥) → Err OtherSize ≡ surveyed name t
  unfolding surveyed
  other_size h = rw (ne_eqb (length t) 6272 h)

  module _ (h : length t ≡ 6272) (es : List (List ℕ)) (q : es ≡ entries_in t) where
    pub out_of_rules : is_table es ≡ false → Err NotATable ≡ surveyed name t
    unfolding surveyed survey_of
    out_of_rules e = rw (eq-eqb (length t) 6272 h, ← q, e)

    pub told : (seen : Seen) → Some seen ≡ survey_of name es → Ok seen ≡ surveyed name t
    unfolding surveyed
    told seen e = rw (eq-eqb (length t) 6272 h, ← q, ← e)

    pub in_rules : (seen : Seen) → is_table es ≡ true → seen.named ≡ place_of name es → seen.free ≡ position is_free es
        → Ok seen ≡ surveyed name t
    in_rules seen e n f = told seen (places name es seen e n f)

  -- by what was answered
  pub sees : (seen : Seen) → surveyed name t ≡ Ok seen → Sees name t seen
  unfolding surveyed survey_of
  sees seen e = go (eqb (length t) 6272) refl (is_table (entries_in t)) refl e
    where
      there : Seen
      there = record { named = place_of name (entries_in t); free = position is_free (entries_in t) }

      go : (a : Bool) → eqb (length t) 6272 ≡ a → (b : Bool) → is_table (entries_in t) ≡ b
          → cond a (ok_or (cond b (Some there) None) NotATable) (Err OtherSize) ≡ Ok seen
          → Sees name t seen
      go true p true q r =
          let s : seen ≡ there = cc in
          record { size = eqb-true (length t) 6272 p; table = q; named = ap (λ (x : Seen). x.named) s; free = ap (λ (x : Seen). x.free) s }
      go true p false q r = cc
      go false p b q r = cc

pub no_table : (name t : List ℕ) {r : TagRefusal} → length t ≡ 6272 → surveyed name t ≡ Err r
    → (is_table (entries_in t) ≡ false) × (NotATable ≡ r)
unfolding surveyed survey_of
no_table name t {r} h e = go (is_table (entries_in t)) refl (rw (eq-eqb (length t) 6272 h) at e)
  where
    there : Seen
    there = record { named = place_of name (entries_in t); free = position is_free (entries_in t) }

    go : (b : Bool) → is_table (entries_in t) ≡ b → ok_or (cond b (Some there) None) NotATable ≡ Err r → (b ≡ false) × (NotATable ≡ r)
    go true q f = cc
    go false q f = (refl, cc)

-- what a `?` passes on
pub raised : {T : Type 0} (r : Result T TagRefusal) (e : TagRefusal) → IsErrAnd r (λ x. x ≡ e) → r ≡ Err e
raised r e h = let p = err_from_is_err_and r h in p.1 ∙ ap Err p.2

-- ---- places

module _ (t : List ℕ) where
  pub position_below : (p : List ℕ → Bool) (at : ℕ) → position p (entries_in t) ≡ Some at → at < 64
  position_below p at e = omega (arith, (position-Some p (entries_in t) at [] e).0, length_entries t)

pub place_of_below : (name t : List ℕ) (at : ℕ) → place_of name (entries_in t) ≡ Some at → at < 64
unfolding place_of
place_of_below name t at e = position_below t (is_named name) at e

pub named_below : {name t : List ℕ} {seen : Seen} → Sees name t seen → IfSome seen.named (λ k. k < 64)
named_below {name} {t} {seen} s = go seen.named s.named
  where
    go : (o : Option ℕ) → o ≡ place_of name (entries_in t) → IfSome o (λ k. k < 64)
    go None e = tt
    go (Some i) e = place_of_below name t i (sym e)

-- a value is short in an entry that is in its rules
pub entry_value : (e : List ℕ) → length e ≡ 98 → is_entry e ≡ true → value_length e ≤ 64
unfolding is_entry is_used
entry_value e l h = go (is_free e) refl h
  where
    go : (t : Bool) → is_free e ≡ t → cond t (list_all is_zero e) (is_used e) ≡ true → value_length e ≤ 64
    go true q r = omega (arith, eqb-true (value_length e) 0 (list_all_within is_zero e 33 0 (omega arith) r))
    go false q r =
        let p = and_parts (leb (name_length e) 32 && leb (value_length e) 64) _ r in
        leb-true (value_length e) 64 (and_parts (leb (name_length e) 32) (leb (value_length e) 64) p.0).1

-- an entry of a table in its rules
pub table_entry : (t : List ℕ) (i : ℕ) → i < 64 → is_table (entries_in t) ≡ true → is_entry (entry_at (entries_in t) i) ≡ true
unfolding is_table
table_entry t i h e = list_all_within is_entry (entries_in t) i [] (omega (arith, length_entries t))
    (and_parts (list_all is_entry (entries_in t)) (all_fresh [] (entries_in t)) e).0
