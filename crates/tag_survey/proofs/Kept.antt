-- Laws that nothing here cites, kept since they stood.
-- Assumes nothing.
use Rattle.std.specs.Prelude.{
  ◌≡◌,
  refl,
  Bool,
  true,
  false,
  cond,
  not,
  ◌&&◌,
  ◌||◌,
  ℕ,
  ◌+◌,
  ◌-◌,
  ◌*◌,
  ◌≤◌,
  ◌<◌,
  eqb,
  leb,
  length,
  take,
  drop,
  Some,
  None,
  get_or,
  position,
  set,
  All,
}
use mathlib.Core.List.{List, [], ◌∷◌, ◌++◌}
use Rattle.std.proofs.Common.{
  sym,
  ap,
  ◌∙◌,
  arith,
  add-one,
  take-suc,
  get_or-take,
  length-take-le,
  length-set,
  get_or-set_same,
  get_or-set_other,
}
use Rattle.std.specs.List.{list_all, list_any}
use Rattle.std.proofs.lemmas.Bool.{and_parts}
use Rattle.std.proofs.lemmas.List.Elements.{All-nil, All-cons, All-append, All-get_or, All-weaker}
use Rattle.std.proofs.lemmas.List.Sums.{AllPass-from_list_all}
use Rattle.std.proofs.lemmas.List.Folds.{list_all_at, list_all_more, list_any_at, list_any_more}
use borrow.Author.Tests.{eq-eqb, ne_eqb, eqb-true, eqb-false, leb-true}
use Rattle.tag_entry.specs.Entries.{name_length, name_of, value_length, is_zero, is_free, is_used, is_entry, is_named}
use Rattle.tag_entry.specs.Fingerprints.{fingerprint}
use Rattle.tag_survey.specs.Tables.{entries_in, entry_at, is_fresh, is_table, place_of}
use Rattle.tag_survey.specs.Surveys.{IsMet, Met, survey_of}
use Rattle.tag_survey.specs.TableLaws.{length_entries, entry_at_lem, entry_size_lem}
use Rattle.tag_survey.specs.SurveyLaws.{free_fresh, unmet_fresh, compared_fresh, Progress, Surveying}
use Rattle.tag_survey.specs.SurveyLaws as law
use Rattle.tag_survey.specs.declared.Seen.{Seen}

-- ---- tests over a list

module _ {A : Type 0} (p : A → Bool) where
  pub every_at : (l : List A) (i : ℕ) (d : A) → i < length l → list_all p l ≡ true → p (get_or l i d) ≡ true
  every_at l i d h e = All-get_or (λ x. p x ≡ true) l i d h (AllPass-from_list_all p l e)

  pub every_fails : (l : List A) (i : ℕ) (d : A) → i < length l → p (get_or l i d) ≡ false → list_all p l ≡ false
  every_fails l i d h e = list_all_at p l i d h e

  pub some_at : (l : List A) (i : ℕ) (d : A) → i < length l → p (get_or l i d) ≡ true → list_any p l ≡ true
  some_at l i d h e = list_any_at p l i d h e

  pub some_snoc : (xs : List A) (x : A) → list_any p (xs ++ x ∷ []) ≡ (list_any p xs || p x)
  some_snoc [] x = go (p x)
    where
      go : (b : Bool) → (b || false) ≡ b
      go true = refl
      go false = refl
  some_snoc (y ∷ ys) x = rw (some_snoc ys x) (go (p y))
    where
      go : (b : Bool) → (b || (list_any p ys || p x)) ≡ ((b || list_any p ys) || p x)
      go true = refl
      go false = refl

  -- one element more
  pub some_more :
      (l : List A) (i : ℕ) (d : A) → i < length l → list_any p (take (i + 1) l) ≡ (list_any p (take i l) || p (get_or l i d))
  some_more l i d h = list_any_more p l i d h

-- ---- an entry

-- a name is short in an entry that is in its rules
pub entry_short : (e : List ℕ) → is_entry e ≡ true → name_length e ≤ 32
unfolding is_entry is_used
entry_short e h = go (is_free e) refl h
  where
    go : (t : Bool) → is_free e ≡ t → cond t (list_all is_zero e) (is_used e) ≡ true → name_length e ≤ 32
    go true q r = omega (arith, eqb-true (name_length e) 0 q)
    go false q r =
        let p = and_parts (leb (name_length e) 32 && leb (value_length e) 64) _ r in
        leb-true (name_length e) 32 (and_parts (leb (name_length e) 32) (leb (value_length e) 64) p.0).0

-- an entry with a name is not free
pub not_free : (name e : List ℕ) → 1 ≤ length name → name ≡ name_of e → is_free e ≡ false
not_free name e h q = ne_eqb (name_length e) 0 (λ z. omega (arith, ap length q ∙ ap (λ (n : ℕ). length (take n (drop 1 e))) z))

-- ---- one entry of a table

-- the bytes of entry i
abbrev pub lent : List ℕ → ℕ → List ℕ
lent t i = take (98 * i + 98 - 98 * i) (drop (98 * i) t)

pub lent_entry : (t : List ℕ) (i : ℕ) → i < 64 → lent t i ≡ entry_at (entries_in t) i
lent_entry t i h =
    let n : 98 * i + 98 - 98 * i ≡ 98 = omega arith in
    rw n (sym (entry_at_lem t i h))

-- one entry more
pub take_more : (t : List ℕ) (i : ℕ) → i < 64 → take (i + 1) (entries_in t) ≡ take i (entries_in t) ++ entry_at (entries_in t) i ∷ []
take_more t i h = ap (λ (n : ℕ). take n (entries_in t)) (add-one i) ∙ take-suc (entries_in t) i [] (omega (arith, length_entries t))

module _ (t : List ℕ) where
  pub below_length : (i : ℕ) → i < 64 → i < length (entries_in t)
  below_length i h = omega (arith, length_entries t)

  -- one of the first i entries
  pub among :
      (i j : ℕ) → j < i → i ≤ 64 → list_all is_entry (take i (entries_in t)) ≡ true → is_entry (entry_at (entries_in t) j) ≡ true
  among i j h k e =
      let n : length (take i (entries_in t)) ≡ i = length-take-le i (entries_in t) (omega (arith, length_entries t)) in
      rw (← get_or-take i (entries_in t) j [] h) (every_at is_entry (take i (entries_in t)) j [] (omega arith) e)

  pub lent_size : (i : ℕ) → i < 64 → length t ≡ 6272 → length (lent t i) ≡ 98
  lent_size i h k = ap length (lent_entry t i h) ∙ entry_size_lem t i h k

  pub lent_short : (i : ℕ) → i < 64 → is_entry (entry_at (entries_in t) i) ≡ true → name_length (lent t i) ≤ 32
  lent_short i h e = rw (lent_entry t i h) (entry_short (entry_at (entries_in t) i) e)

  pub asks_named : (i j : ℕ) → j < i → i ≤ 64 → length t ≡ 6272 → list_all is_entry (take i (entries_in t)) ≡ true
      → (length (lent t j) ≡ 98) × (name_length (lent t j) ≤ 32)
  asks_named i j h k l e = (lent_size j (omega arith) l, lent_short j (omega arith) (among i j h k e))

  pub named_here : (name : List ℕ) (i j : ℕ) {b : Bool} → j < i → i ≤ 64 → b ≡ is_named name (lent t j) → b ≡ true
      → true ≡ list_any (is_named name) (take i (entries_in t))
  named_here name i j h k p q =
      let n : length (take i (entries_in t)) ≡ i = length-take-le i (entries_in t) (omega (arith, length_entries t)) in
      let e : is_named name (entry_at (entries_in t) j) ≡ true = ap (is_named name) (sym (lent_entry t j (omega arith))) ∙ sym p ∙ q in
      sym (some_at (is_named name) (take i (entries_in t)) j [] (omega arith) (rw (get_or-take i (entries_in t) j [] h) e))

  pub named_not :
      (name : List ℕ) (j : ℕ) {b : Bool} → j < 64 → b ≡ is_named name (lent t j) → b ≡ false →
      list_any (is_named name) (take j (entries_in t)) ≡ false → list_any (is_named name) (take (j + 1) (entries_in t)) ≡ false
  named_not name j h p q e =
      let n : is_named name (entry_at (entries_in t) j) ≡ false = ap (is_named name) (sym (lent_entry t j h)) ∙ sym p ∙ q in
      some_more (is_named name) (entries_in t) j [] (below_length j h) ∙ rw (e, n)

  module _ (i : ℕ) (h : i < 64) where
    pub lent_is : lent t i ≡ entry_at (entries_in t) i
    lent_is = lent_entry t i h

    -- its name
    pub lent_name : take (1 + name_length (lent t i) - 1) (drop 1 (lent t i)) ≡ name_of (entry_at (entries_in t) i)
    lent_name =
        let n : 1 + name_length (lent t i) - 1 ≡ name_length (lent t i) = omega arith in
        ap (λ (k : ℕ). take k (drop 1 (lent t i))) n ∙ ap name_of lent_is

    pub used_not_free : (name_length (lent t i) ≡ 0 → ⊥) → is_free (entry_at (entries_in t) i) ≡ false
    used_not_free z = ne_eqb (name_length (entry_at (entries_in t) i)) 0 (λ q. z (ap name_length lent_is ∙ q))

-- the first i + 1 entries are in their rules
pub record Tested (t : List ℕ) (i : ℕ) : Type 0 where
  pub size : length t ≡ 6272
  pub below : i < 64
  pub entries : list_all is_entry (take (i + 1) (entries_in t)) ≡ true

pub tested_before : (t : List ℕ) (i : ℕ) → Tested t i → list_all is_entry (take i (entries_in t)) ≡ true
tested_before t i p =
    (and_parts (list_all is_entry (take i (entries_in t))) _
    (sym (list_all_more is_entry (entries_in t) i [] (below_length t i p.below)) ∙ p.entries)).0

pub tested_here : (t : List ℕ) (i : ℕ) → Tested t i → is_entry (entry_at (entries_in t) i) ≡ true
tested_here t i p =
    (and_parts (list_all is_entry (take i (entries_in t))) _
    (sym (list_all_more is_entry (entries_in t) i [] (below_length t i p.below)) ∙ p.entries)).1

-- ---- the fingerprints met

pub met_snoc :
    (met : List Bool) (es : List (List ℕ)) (e : List ℕ) → All (IsMet met) es → IsMet met e → All (IsMet met) (es ++ e ∷ [])
met_snoc met es e m h = All-append (IsMet met) es (e ∷ []) m (All-cons (IsMet met) e [] h (All-nil (IsMet met)))

-- one more
pub met_stays : (met : List Bool) (i j : ℕ) → i < length met → get_or met j false ≡ true → get_or (set met i true) j false ≡ true
met_stays met i j h e = go (eqb j i) refl
  where
    go : (t : Bool) → eqb j i ≡ t → get_or (set met i true) j false ≡ true
    go true q = rw (eqb-true j i q) (get_or-set_same met i true false h)
    go false q = get_or-set_other met i j true false (eqb-false j i q) ∙ e

pub met_set : (met : List Bool) (i : ℕ) (es : List (List ℕ)) → i < length met → All (IsMet met) es → All (IsMet (set met i true)) es
met_set met i es h m = All-weaker (IsMet met) (IsMet (set met i true)) (λ e p f. met_stays met i (fingerprint (name_of e)) h (p f)) es m

free_is_met : (met : List Bool) (e : List ℕ) → name_length e ≡ 0 → is_free e ≡ false → get_or met (fingerprint (name_of e)) false ≡ true
free_is_met met e z g = cc (eq-eqb (name_length e) 0 z)

module _ (t : List ℕ) (i : ℕ) (h : i < 64) where
  grown : (met : List Bool) → All (IsMet met) (take i (entries_in t)) → IsMet met (entry_at (entries_in t) i)
      → All (IsMet met) (take (i + 1) (entries_in t))
  grown met m p =
      rw (take_more t i h) (met_snoc met (take i (entries_in t)) (entry_at (entries_in t) i) m p)

  pub met_more :
      (met : List Bool) (f : ℕ) → f ≡ fingerprint (name_of (entry_at (entries_in t) i)) → f < 256 →
      Met met (take i (entries_in t)) → Met (set met f true) (take (i + 1) (entries_in t))
  met_more met f q l m =
      let k : f < length met = omega (arith, m.size) in
      record {
        size = length-set met f true ∙ m.size;
        all = grown (set met f true) (met_set met f (take i (entries_in t)) k m.all)
            (λ g. rw (← q) (get_or-set_same met f true false k));
      }

  -- what is met after a free entry, and after one with a name
  pub free_met :
      (met : List Bool) → name_length (entry_at (entries_in t) i) ≡ 0 → Met met (take i (entries_in t)) →
      (true ≡ is_fresh (take i (entries_in t)) (entry_at (entries_in t) i)) × Met met (take (i + 1) (entries_in t))
  free_met met z m = (
    free_fresh (take i (entries_in t)) (entry_at (entries_in t) i) z,
    record { size = m.size; all = grown met m.all (free_is_met met (entry_at (entries_in t) i) z) },
  )

  module _ (z : name_length (entry_at (entries_in t) i) ≡ 0 → ⊥) (name : List ℕ) (p : name ≡ name_of (entry_at (entries_in t) i)) where
    pub unmet_met :
        (met : List Bool) (f : ℕ) → length t ≡ 6272 → f ≡ fingerprint name → f < 256 → get_or met f false ≡ false →
        Met met (take i (entries_in t)) →
        (true ≡ is_fresh (take i (entries_in t)) (entry_at (entries_in t) i)) × Met (set met f true) (take (i + 1) (entries_in t))
    unmet_met met f k q l u m = (
      unmet_fresh (take i (entries_in t)) (entry_at (entries_in t) i) z name p f (entry_size_lem t i h k) m q u,
      met_more met f (q ∙ ap fingerprint p) l m,
    )

    pub compared_met :
        (met : List Bool) (f : ℕ) {b : Bool} → f ≡ fingerprint name → f < 256 → b ≡ list_any (is_named name) (take i (entries_in t)) →
        Met met (take i (entries_in t)) →
        (not b ≡ is_fresh (take i (entries_in t)) (entry_at (entries_in t) i)) × Met (set met f true) (take (i + 1) (entries_in t))
    compared_met met f q l r m = (
      compared_fresh (take i (entries_in t)) (entry_at (entries_in t) i) z name p r,
      met_more met f (q ∙ ap fingerprint p) l m,
    )

-- ---- the pass

pub starts : (es : List (List ℕ)) (met : List Bool) → length met ≡ 256 → Progress es met 0
starts es met k = record { entries = refl; fresh = refl; fingerprints = record { size = k; all = All-nil (IsMet met) } }

-- a list of entries outside of the rules has no places
pub no_places : (name : List ℕ) (es : List (List ℕ)) → is_table es ≡ false → None ≡ survey_of name es
unfolding survey_of
no_places name es e = rw e

module _
    (t name : List ℕ) (met : List Bool) (seen : Seen) (i : ℕ) (p : Surveying name (entries_in t) met seen i) (h : i < 64) where
  pub broken : {b : Bool} → b ≡ is_entry (lent t i) → b ≡ false → None ≡ survey_of name (entries_in t)
  broken q r =
      let e : is_entry (entry_at (entries_in t) i) ≡ false = ap is_entry (sym (lent_entry t i h)) ∙ sym q ∙ r in
      no_places name (entries_in t) (law.surveying_broken name (entries_in t) met seen i p (below_length t i h) e)

  pub twice : {b : Bool} → b ≡ is_fresh (take i (entries_in t)) (entry_at (entries_in t) i) → b ≡ false
      → None ≡ survey_of name (entries_in t)
  twice q r = no_places name (entries_in t) (law.surveying_twice name (entries_in t) met seen i p (below_length t i h) (sym q ∙ r))

  pub tested : {b : Bool} → length t ≡ 6272 → b ≡ is_entry (lent t i) → b ≡ true → Tested t i
  tested k q r =
      let e : is_entry (entry_at (entries_in t) i) ≡ true = ap is_entry (sym (lent_entry t i h)) ∙ sym q ∙ r in
      record {
        size = k;
        below = h;
        entries = list_all_more is_entry (entries_in t) i [] (below_length t i h) ∙ rw (p.entries, e);
      }

-- ---- by what was found

-- a list of entries in the rules, and its places
pub record SeesIn (name : List ℕ) (es : List (List ℕ)) (seen : Seen) : Type 0 where
  pub table : is_table es ≡ true
  pub named : seen.named ≡ place_of name es
  pub free : seen.free ≡ position is_free es

module _ (name : List ℕ) (es : List (List ℕ)) where
  abbrev there : Seen
  there = record { named = place_of name es; free = position is_free es }

  pub sees_in : (seen : Seen) → survey_of name es ≡ Some seen → SeesIn name es seen
  unfolding survey_of
  sees_in seen e = go (is_table es) refl e
    where
      go : (b : Bool) → is_table es ≡ b → cond b (Some there) None ≡ Some seen → SeesIn name es seen
      go true q r =
          let s : seen ≡ there = cc in
          record { table = q; named = ap (λ (x : Seen). x.named) s; free = ap (λ (x : Seen). x.free) s }
      go false q r = cc

  pub no_table_in : survey_of name es ≡ None → is_table es ≡ false
  unfolding survey_of
  no_table_in e = go (is_table es) refl e
    where
      go : (b : Bool) → is_table es ≡ b → cond b (Some there) None ≡ None → b ≡ false
      go true q r = cc
      go false q r = refl
