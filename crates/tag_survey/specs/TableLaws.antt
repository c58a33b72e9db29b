-- Laws of `Tables`: where an entry lies in a table's bytes, and what a store changes.
-- Assumes nothing.
use Rattle.std.specs.Prelude.{
  ◌≡◌,
  refl,
  Bool,
  true,
  false,
  cond,
  List,
  [],
  ◌∷◌,
  ◌++◌,
  ℕ,
  zero,
  suc,
  Some,
  None,
  ◌+◌,
  ◌*◌,
  ◌≤◌,
  ◌<◌,
  eqb,
  ltb,
  length,
  take,
  drop,
  get_or,
  position,
  set,
}
use Rattle.std.specs.List.{position_or_len}
use Rattle.std.proofs.Common.{
  ap,
  ◌∙◌,
  add-suc,
  add-one,
  arith,
  length-append,
  length-drop,
  take-suc,
  take_at,
  drop_at,
  drop-drop,
  length-take-le,
}
use Rattle.std.proofs.lemmas.List.Folds.{position_or_len_push}
use Rattle.std.proofs.lemmas.List.Sums.{prefix_len-le-length}
use borrow.Author.Tests.{lt-ltb, le-ltb, eqb-true, eqb-false}
use Rattle.std.specs.Simd.{first_chunks}
use Rattle.std.proofs.lemmas.List.Edits.{sets, sets-eq}
use Rattle.std.proofs.lemmas.List.{take-set-le, drop-set-add}
use Rattle.pools.specs.Parts.{part}
use Rattle.tag_survey.specs.Tables.{entries_in, entry_at}
use Rattle.tag_survey.specs.Surveys.{stepped}

-- ---- entries in bytes

pub length_entries_of : (n : ℕ) (t : List ℕ) → length (first_chunks 98 n t) ≡ n
length_entries_of zero t = refl
length_entries_of (suc n) t = ap suc (length_entries_of n (drop 98 t))

pub length_entries : (t : List ℕ) → length (entries_in t) ≡ 64
unfolding entries_in
length_entries t = length_entries_of 64 t

-- an entry is a part of the bytes
entry_of_at : (n i : ℕ) (t : List ℕ) → i < n → entry_at (first_chunks 98 n t) i ≡ part t (98 * i) 98
entry_of_at zero i t h = absurd (omega arith)
entry_of_at (suc n) zero t h = refl
entry_of_at (suc n) (suc i) t h =
    let p : 98 * suc i ≡ 98 + 98 * i = omega arith in
    entry_of_at n i (drop 98 t) (omega arith) ∙ rw (p, ← drop-drop (98 * i) 98 t)

pub entry_at_lem : (t : List ℕ) (i : ℕ) → i < 64 → entry_at (entries_in t) i ≡ part t (98 * i) 98
unfolding entries_in
entry_at_lem t i h = entry_of_at 64 i t h

-- ---- stores

take_sets : (n : ℕ) (l : List ℕ) (i : ℕ) (vs : List ℕ) → n ≤ i → take n (sets l i vs) ≡ take n l
take_sets n l i [] h = refl
take_sets n l i (v ∷ vs) h = take_sets n (set l i v) (suc i) vs (omega arith) ∙ take-set-le n l i v h

drop_sets : (n : ℕ) (l : List ℕ) (i : ℕ) (vs : List ℕ) → drop n (sets l (n + i) vs) ≡ sets (drop n l) i vs
drop_sets n l i [] = refl
drop_sets n l i (v ∷ vs) = rw (← add-suc)
    (drop_sets n (set l (n + i) v) (suc i) vs ∙ ap (λ (k : List ℕ). sets k (suc i) vs) (drop-set-add n l i v))

-- an entry that is stored at its place replaces that entry, and no other
set_of_entry : (n i : ℕ) (t e : List ℕ) → i < n → 98 * n ≤ length t → length e ≡ 98
    → first_chunks 98 n (sets t (98 * i) e) ≡ set (first_chunks 98 n t) i e
set_of_entry zero i t e h k l = absurd (omega arith)
set_of_entry (suc n) zero t e h k l =
    let p : sets t 0 e ≡ e ++ drop (0 + length e) t = sets-eq e t 0 (omega arith) in
    let q : 0 + length e ≡ 98 = omega arith in
    rw (p, q, take_at e (drop 98 t) 98 l, drop_at e (drop 98 t) 98 l)
set_of_entry (suc n) (suc i) t e h k l =
    let p : 98 * suc i ≡ 98 + 98 * i = omega arith in
    rw (p, take_sets 98 t (98 + 98 * i) e (omega arith), drop_sets 98 t (98 * i) e)
    (ap (λ (es : List (List ℕ)). take 98 t ∷ es) (set_of_entry n i (drop 98 t) e (omega arith) (rw length-drop (omega arith)) l))

pub set_entry : (t : List ℕ) (i : ℕ) (e : List ℕ) → i < 64 → length t ≡ 6272 → length e ≡ 98
    → entries_in (sets t (98 * i) e) ≡ set (entries_in t) i e
unfolding entries_in
set_entry t i e h k l = set_of_entry 64 i t e h (omega arith) l

-- an entry has its size
pub entry_size_lem : (t : List ℕ) (i : ℕ) → i < 64 → length t ≡ 6272 → length (entry_at (entries_in t) i) ≡ 98
entry_size_lem t i h k = rw (entry_at_lem t i h) (length-take-le 98 (drop (98 * i) t) (rw length-drop (omega arith)))

-- ---- the first place of a test

-- by how many elements stand before it: k of n, and j with one element more
first_step : (here : Bool) (k n j : ℕ) → k ≤ n → j ≡ cond (eqb k n) (n + cond here 0 1) k
    → cond (ltb j (n + 1)) (Some j) None ≡ stepped here n (cond (ltb k n) (Some k) None)
first_step here k n j h q = go (eqb k n) refl here q
  where
    go : (t : Bool) → eqb k n ≡ t → (d : Bool) → j ≡ cond t (n + cond d 0 1) k
        → cond (ltb j (n + 1)) (Some j) None ≡ stepped d n (cond (ltb k n) (Some k) None)
    go true e true r =
        let i : j ≡ n = omega (arith, r) in
        rw (lt-ltb j (n + 1) (omega arith), le-ltb k n (omega (arith, eqb-true k n e))) (ap Some i)
    go true e false r = rw (le-ltb j (n + 1) (omega (arith, r)), le-ltb k n (omega (arith, eqb-true k n e)))
    go false e d r =
        rw (lt-ltb j (n + 1) (omega (arith, r)), lt-ltb k n (omega (arith, eqb-false k n e))) (ap Some r)

module _ {A : Type 0} (p : A → Bool) where
  pub first_snoc : (xs : List A) (x : A) → position p (xs ++ x ∷ []) ≡ stepped (p x) (length xs) (position p xs)
  first_snoc xs x =
      let n : length (xs ++ x ∷ []) ≡ length xs + 1 = length-append xs (x ∷ []) in
      rw n
      (first_step (p x) (position_or_len p xs) (length xs) (position_or_len p (xs ++ x ∷ [])) (prefix_len-le-length _ xs)
      (position_or_len_push p xs x))

  -- one element more
  pub first_more : (l : List A) (i : ℕ) (d : A) → i < length l
      → position p (take (i + 1) l) ≡ stepped (p (get_or l i d)) i (position p (take i l))
  first_more l i d h =
      ap (position p) (ap (λ (n : ℕ). take n l) (add-one i) ∙ take-suc l i d h)
      ∙ first_snoc (take i l) (get_or l i d)
      ∙ ap (λ (n : ℕ). stepped (p (get_or l i d)) n (position p (take i l))) (length-take-le i l (omega arith))
