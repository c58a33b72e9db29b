-- What a move within the front of a lent array leaves.
-- Assumes nothing.
use Rattle.std.proofs.Common.{◌≡◌, refl, sym, ap, ◌∙◌, subst, List, ◌∷◌, ◌++◌, ℕ, suc}
use Rattle.std.proofs.Common.{◌+◌, ◌-◌, ◌≤◌, ◌<◌, length, take, drop, get_or, set, arith, length-set, length-drop}
use lib.Seq.{paste, take-suc, take-set-lt, set_at, length-take-le, take-take, append_snoc}
use native.Mathlib.Numerals.{add-one}
use Rattle.std.proofs.lemmas.List.{get_or-drop}
use Rattle.std.proofs.lemmas.List.Edits.{take-paste, drop-paste, length-paste, paste_more}
use Rattle.std.proofs.lemmas.Slice.{between_is}
use Rattle.words.specs.Words.{Front}

module _ {A : Type 0} {size : ℕ} (l : List A) (n : ℕ) (e : length l ≡ size) where
  -- those from k on stand at the front
  pub front_moved : (k : ℕ) → n ≤ size → k ≤ n → Front size (paste l 0 (drop k l) (n - k)) (n - k) (drop k (take n l))
  front_moved k h g =
      let q : n - k ≡ 0 + (n - k) = omega arith in
      record {
        whole = length-paste l 0 (drop k l) (n - k) (omega arith) (omega (arith, length-drop k l)) ∙ e;
        fits = omega arith;
        list = ap (λ (m : ℕ). take m (paste l 0 (drop k l) (n - k))) q
            ∙ take-paste l 0 (drop k l) (n - k) (omega arith) (omega (arith, length-drop k l)) ∙ between_is l k n;
      }

  -- those from i on stand one place further, and a is put at i
  pub front_inserted : (i : ℕ) (a : A) → n < size → i ≤ n
      → Front size (set (paste l (i + 1) (drop i l) (n - i)) i a) (n + 1) (take i (take n l) ++ (a ∷ drop i (take n l)))
  front_inserted i a h g =
      let moved : List A = paste l (i + 1) (drop i l) (n - i) in
      let q : n + 1 ≡ i + 1 + (n - i) = omega arith in
      let rest : take (n - i) (drop i l) ≡ drop i (take n l) = between_is l i n in
      let front : take (n + 1) moved ≡ take (i + 1) l ++ take (n - i) (drop i l) =
      rw q (take-paste l (i + 1) (drop i l) (n - i) (omega arith) (omega (arith, length-drop i l))) in
      record {
        whole = length-set moved i a ∙ length-paste l (i + 1) (drop i l) (n - i) (omega arith) (omega (arith, length-drop i l)) ∙ e;
        fits = omega arith;
        list = take-set-lt (n + 1) moved i a (omega arith) ∙ ap (λ (x : List A). set x i a) front
            ∙ rw (
              add-one,
              take-suc l i a (omega arith),
              append_snoc,
              set_at (take i l) (get_or l i a) (take (n - i) (drop i l)) a i
                  (length-take-le i l (omega arith)),
              rest,
              ← take-take i n l g,
            ) refl;
      }

-- A loop that stores s from `at` on, and has stored i.
module _ {A : Type 0} (l : List A) (at : ℕ) (s : List A) (i : ℕ) (z : A) where
  -- behind that the list is as it was
  pub read_behind : (j : ℕ) → at + i ≤ j → at ≤ length l → i ≤ length s → get_or (paste l at s i) j z ≡ get_or l j z
  read_behind j h g k =
      let e : at + i + (j - (at + i)) ≡ j = omega arith in
      let same : get_or (drop (at + i) (paste l at s i)) (j - (at + i)) z ≡ get_or (drop (at + i) l) (j - (at + i)) z =
      ap (λ (x : List A). get_or x (j - (at + i)) z) (drop-paste l at s i g k) in
      subst (λ (m : ℕ). get_or (paste l at s i) m z ≡ get_or l m z) e
      (sym (get_or-drop (at + i) (paste l at s i) (j - (at + i)) z) ∙ same ∙ get_or-drop (at + i) l (j - (at + i)) z)

module _ {A : Type 0} (l₀ l : List A) (z : A) where
  -- the words from k on go to the front: one more
  pub moved_next : (k i : ℕ) → l ≡ paste l₀ 0 (drop k l₀) i → k + i < length l₀
      → set l i (get_or l (k + i) z) ≡ paste l₀ 0 (drop k l₀) (i + 1)
  moved_next k i e h =
      let long : i < length (drop k l₀) = rw (length-drop k l₀) (omega arith) in
      let there : get_or l (k + i) z ≡ get_or (drop k l₀) i z =
      rw e (read_behind l₀ 0 (drop k l₀) i z (k + i) (omega arith) (omega arith) (omega arith)) ∙ sym (get_or-drop k l₀ i z) in
      rw (there, e) (subst (λ (m : ℕ). set (paste l₀ 0 (drop k l₀) i) m (get_or (drop k l₀) i z) ≡ paste l₀ 0 (drop k l₀) (i + 1))
      (omega arith) (paste_more l₀ 0 (drop k l₀) i z (omega arith) long))

  -- the words from i on go one place further, a before them: what was carried is stored
  pub carried_stored : (i j : ℕ) (a carried : A) → i ≤ j → j < length l₀ → l ≡ paste l₀ i (a ∷ drop i l₀) (j - i)
      → carried ≡ get_or (a ∷ drop i l₀) (j - i) z → set l j carried ≡ paste l₀ i (a ∷ drop i l₀) (j + 1 - i)
  carried_stored i j a carried h g e c =
      let at : i + (j - i) ≡ j = omega arith in
      let more : j + 1 - i ≡ j - i + 1 = omega arith in
      let long : j - i < length (a ∷ drop i l₀) = omega (arith, length-drop i l₀) in
      rw (more, c, e) (subst (λ (m : ℕ). set (paste l₀ i (a ∷ drop i l₀) (j - i)) m (get_or (a ∷ drop i l₀) (j - i) z)
      ≡ paste l₀ i (a ∷ drop i l₀) (j - i + 1)) at (paste_more l₀ i (a ∷ drop i l₀) (j - i) z (omega arith) long))

  -- and the next one is carried
  pub carried_next : (i j : ℕ) (a : A) → i ≤ j → j < length l₀ → l ≡ paste l₀ i (a ∷ drop i l₀) (j - i)
      → get_or l j z ≡ get_or (a ∷ drop i l₀) (j + 1 - i) z
  carried_next i j a h g e =
      let at : i + (j - i) ≡ j = omega arith in
      let more : j + 1 - i ≡ suc (j - i) = omega arith in
      let here : get_or (drop i l₀) (j - i) z ≡ get_or l₀ j z =
      subst (λ (m : ℕ). get_or (drop i l₀) (j - i) z ≡ get_or l₀ m z) at (get_or-drop i l₀ (j - i) z) in
      rw (e, more) (read_behind l₀ i (a ∷ drop i l₀) (j - i) z j (omega arith) (omega arith) (omega (arith, length-drop i l₀)) ∙ sym here)

module _ {A : Type 0} {size : ℕ} (l : List A) (n : ℕ) (e : length l ≡ size) where
  -- all carried on, a stands at i
  pub front_carried_on : (i : ℕ) (a : A) → n < size → i ≤ n
      → Front size (paste l i (a ∷ drop i l) (n + 1 - i)) (n + 1) (take i (take n l) ++ (a ∷ drop i (take n l)))
  front_carried_on i a h g =
      let q : n + 1 ≡ i + (n + 1 - i) = omega arith in
      let more : n + 1 - i ≡ suc (n - i) = omega arith in
      let long : n + 1 - i ≤ length (a ∷ drop i l) = omega (arith, length-drop i l) in
      record {
        whole = length-paste l i (a ∷ drop i l) (n + 1 - i) (omega arith) long ∙ e;
        fits = omega arith;
        list = ap (λ (m : ℕ). take m (paste l i (a ∷ drop i l) (n + 1 - i))) q
            ∙ take-paste l i (a ∷ drop i l) (n + 1 - i) (omega arith) long
            ∙ rw (more, between_is l i n, ← take-take i n l g) refl;
      }
