-- Laws of lists, sums, counts and searches over places.
-- Assumes nothing.
use Rattle.std.specs.Prelude.{◌≡◌, Bool, ◌||◌}
use Rattle.std.proofs.Math.Path.{refl, sym, ap, ap₂}
use Rattle.std.proofs.Common.{◌∙◌, not-suc-le-zero, ext_get_or}
use Rattle.std.proofs.Math.Bool.{true, false, cond}
use mathlib.Core.List.{List, [], ◌∷◌, ◌++◌}
use Prim.Native.Nat.{ℕ, zero, suc, ◌+◌, ◌≤◌, ◌<◌}
use Rattle.std.proofs.Math.Numerals.{add-one}
use native.Mathlib.Omega.{arith}
use borrow.Author.Tests.{eqb-true, eqb-false, ltb-true, ltb-false}
use Rattle.std.proofs.Math.Dec.{eqb, ltb}
use Rattle.std.proofs.Math.ListN.{length, get_or, length-append, get_or-append}
use Rattle.std.proofs.Math.Seq.{get_or-append_seam}
use Rattle.galois.specs.Field.{plus}
use Rattle.galois.specs.FieldLaws.{plus_zero, zero_plus, plus_swap, plus_comm}
use Rattle.frames.specs.Lists.{listed, total, count, other}

-- ---- lists by places

module _ {A : Type 0} where
  pub length_listed : (f : ℕ → A) (n : ℕ) → length (listed f n) ≡ n
  unfolding listed
  length_listed f zero = refl
  length_listed f (suc n) =
      let e : length (listed f n) ≡ n = length_listed f n in
      simp length-append (omega arith)

  pub get_d_listed : (f : ℕ → A) (n i : ℕ) (d : A) → i < n → get_or (listed f n) i d ≡ f i
  unfolding listed
  get_d_listed f zero i d h = absurd (not-suc-le-zero h)
  get_d_listed f (suc n) i d h = go (ltb i n) refl (λ l. get_d_listed f n i d l)
    where
      go : (b : Bool) → ltb i n ≡ b → (i < n → get_or (listed f n) i d ≡ f i) → get_or (listed f n ++ (f n ∷ [])) i d ≡ f i
      go true e ih =
          let l : i < length (listed f n) = rw (length_listed f n) (ltb-true i n e) in
          get_or-append (listed f n) (f n ∷ []) d i l ∙ ih (ltb-true i n e)
      go false e ih =
          let l : n ≤ i = ltb-false i n e in
          let q : i ≡ n = omega arith in
          let m : i ≡ length (listed f n) = q ∙ sym (length_listed f n) in
          ap (λ (j : ℕ). get_or (listed f n ++ (f n ∷ [])) j d) m ∙ get_or-append_seam (listed f n) (f n) [] d ∙ ap f (sym q)

  pub listed_same : (f g : ℕ → A) (n : ℕ) → ((i : ℕ) → i < n → f i ≡ g i) → listed f n ≡ listed g n
  unfolding listed
  listed_same f g zero h = refl
  listed_same f g (suc n) h =
      ap₂ {C = List A} (λ l x. l ++ (x ∷ [])) (listed_same f g n (λ i l. h i (omega arith))) (h n (omega arith))

  pub listed_next : (f : ℕ → A) (n : ℕ) → listed f (n + 1) ≡ listed f n ++ (f n ∷ [])
  unfolding listed
  listed_next f n = rw add-one

pub listed_get_d : (l : List (List ℕ)) → listed (λ p. get_or l p []) (length l) ≡ l
listed_get_d l =
    ext_get_or [] (listed (λ p. get_or l p []) (length l)) l (length_listed (λ p. get_or l p []) (length l))
    (λ i h. get_d_listed (λ p. get_or l p []) (length l) i [] (rw (length_listed (λ p. get_or l p []) (length l)) at h))

pub listed_bytes : (l : List ℕ) → listed (λ p. get_or l p 0) (length l) ≡ l
listed_bytes l =
    ext_get_or 0 (listed (λ p. get_or l p 0) (length l)) l (length_listed (λ p. get_or l p 0) (length l))
    (λ i h. get_d_listed (λ p. get_or l p 0) (length l) i 0 (rw (length_listed (λ p. get_or l p 0) (length l)) at h))

-- ---- sums

pub total_same : (f g : ℕ → ℕ) (n : ℕ) → ((p : ℕ) → p < n → f p ≡ g p) → total f n ≡ total g n
unfolding total
total_same f g zero h = refl
total_same f g (suc n) h = ap₂ plus (total_same f g n (λ p l. h p (omega arith))) (h n (omega arith))

pub total_plus : (f g : ℕ → ℕ) (n : ℕ) → plus (total f n) (total g n) ≡ total (λ p. plus (f p) (g p)) n
unfolding total
total_plus f g zero = zero_plus 0
total_plus f g (suc n) = plus_swap (total f n) (f n) (total g n) (g n) ∙ ap (λ (x : ℕ). plus x (plus (f n) (g n))) (total_plus f g n)

pub total_none : (f : ℕ → ℕ) (n : ℕ) → ((p : ℕ) → p < n → f p ≡ 0) → total f n ≡ 0
unfolding total
total_none f zero h = refl
total_none f (suc n) h = ap₂ plus (total_none f n (λ p l. h p (omega arith))) (h n (omega arith)) ∙ zero_plus 0

-- only at i
pub total_one : (f : ℕ → ℕ) (n i : ℕ) → i < n → ((p : ℕ) → p < n → (p ≡ i → ⊥) → f p ≡ 0) → total f n ≡ f i
unfolding total
total_one f zero i l h = absurd (not-suc-le-zero l)
total_one f (suc n) i l h = go (eqb n i) refl (λ m. total_one f n i m (λ p q. h p (omega arith)))
  where
    go : (b : Bool) → eqb n i ≡ b → (i < n → total f n ≡ f i) → plus (total f n) (f n) ≡ f i
    go true e ih =
        let q : n ≡ i = eqb-true n i e in
        ap (λ (x : ℕ). plus x (f n)) (total_none f n (λ p m. h p (omega arith) (λ r. omega arith))) ∙ zero_plus (f n) ∙ ap f q
    go false e ih =
        let q : n ≡ i → ⊥ = eqb-false n i e in
        ap₂ plus (ih (lower q)) (h n (omega arith) q) ∙ plus_zero (f i)
      where
        lower : (n ≡ i → ⊥) → i < n
        lower q = omega arith

-- only at i and j
pub total_two : (f : ℕ → ℕ) (n i j : ℕ) → i < n → j < n → (i ≡ j → ⊥)
    → ((p : ℕ) → p < n → (p ≡ i → ⊥) → (p ≡ j → ⊥) → f p ≡ 0) → total f n ≡ plus (f i) (f j)
unfolding total
total_two f zero i j l m d h = absurd (not-suc-le-zero l)
total_two f (suc n) i j l m d h = go (eqb n i) refl (eqb n j) refl (λ li lj. total_two f n i j li lj d (λ p q. h p (omega arith)))
  where
    go : (b : Bool) → eqb n i ≡ b → (c : Bool) → eqb n j ≡ c → (i < n → j < n → total f n ≡ plus (f i) (f j))
        → plus (total f n) (f n) ≡ plus (f i) (f j)
    go true e c g ih =
        let q : n ≡ i = eqb-true n i e in
        let lj : j < n = omega arith in
        ap₂ plus (total_one f n j lj (λ p r s. h p (omega arith) (λ t. omega arith) s)) (ap f q) ∙ plus_comm (f j) (f i)
    go false e true g ih =
        let q : n ≡ j = eqb-true n j g in
        let li : i < n = omega arith in
        ap₂ plus (total_one f n i li (λ p r s. h p (omega arith) s (λ t. omega arith))) (ap f q)
    go false e false g ih =
        let qi : n ≡ i → ⊥ = eqb-false n i e in
        let qj : n ≡ j → ⊥ = eqb-false n j g in
        let li : i < n = omega arith in
        let lj : j < n = omega arith in
        ap₂ plus (ih li lj) (h n (omega arith) qi qj) ∙ plus_zero (plus (f i) (f j))

pub total_next : (f : ℕ → ℕ) (p : ℕ) → total f (p + 1) ≡ plus (total f p) (f p)
unfolding total
total_next f p = rw add-one

-- ---- counts: a place at which the test fails is not counted

pub count_none : (h : ℕ → Bool) → ((p : ℕ) → h p ≡ false) → (n : ℕ) → count h n ≡ 0
unfolding count
count_none h e zero = refl
count_none h e (suc n) = rw (e n) (count_none h e n)

module _ (h : ℕ → Bool) where
  count_le : (n : ℕ) → count h n ≤ n
  unfolding count
  count_le zero = omega arith
  count_le (suc n) = go (h n) (count_le n)
    where
      go : (b : Bool) → count h n ≤ n → cond b (suc (count h n)) (count h n) ≤ suc n
      go true l = omega arith
      go false l = omega arith

  count_one : (n i : ℕ) → i < n → h i ≡ false → count h n + 1 ≤ n
  unfolding count
  count_one zero i l e = absurd (not-suc-le-zero l)
  count_one (suc n) i l e = go (eqb n i) refl (count_le n) (λ m. count_one n i m e)
    where
      step : (b : Bool) (d : ℕ) → count h n + d ≤ n → cond b (suc (count h n)) (count h n) + d ≤ suc n
      step true d l = omega arith
      step false d l = omega arith

      go : (b : Bool) → eqb n i ≡ b → count h n ≤ n → (i < n → count h n + 1 ≤ n) → cond (h n) (suc (count h n)) (count h n) + 1 ≤ suc n
      go true q o ih =
          let r : n ≡ i = eqb-true n i q in
          let z : h n ≡ false = ap h r ∙ e in
          rw z (omega arith)
      go false q o ih =
          let r : n ≡ i → ⊥ = eqb-false n i q in
          step (h n) 1 (ih (omega arith))

  pub count_two : (n i j : ℕ) → i < n → j < n → (i ≡ j → ⊥) → h i ≡ false → h j ≡ false → count h n + 2 ≤ n
  unfolding count
  count_two zero i j l m d e f = absurd (not-suc-le-zero l)
  count_two (suc n) i j l m d e f = go (eqb n i) refl (eqb n j) refl (λ li lj. count_two n i j li lj d e f)
    where
      step : (b : Bool) (d : ℕ) → count h n + d ≤ n → cond b (suc (count h n)) (count h n) + d ≤ suc n
      step true d l = omega arith
      step false d l = omega arith

      go : (b : Bool) → eqb n i ≡ b → (c : Bool) → eqb n j ≡ c → (i < n → j < n → count h n + 2 ≤ n)
          → cond (h n) (suc (count h n)) (count h n) + 2 ≤ suc n
      go true q c g ih =
          let r : n ≡ i = eqb-true n i q in
          let lj : j < n = omega arith in
          let o : count h n + 1 ≤ n = count_one n j lj f in
          let z : h n ≡ false = ap h r ∙ e in
          rw z (omega arith)
      go false q true g ih =
          let r : n ≡ j = eqb-true n j g in
          let li : i < n = omega arith in
          let o : count h n + 1 ≤ n = count_one n i li e in
          let z : h n ≡ false = ap h r ∙ f in
          rw z (omega arith)
      go false q false g ih =
          let ri : n ≡ i → ⊥ = eqb-false n i q in
          let rj : n ≡ j → ⊥ = eqb-false n j g in
          let li : i < n = omega arith in
          let lj : j < n = omega arith in
          step (h n) 2 (ih li lj)

  pub count_three : (n a b c : ℕ) → a < n → b < n → c < n → (a ≡ b → ⊥) → (a ≡ c → ⊥) → (b ≡ c → ⊥)
      → h a ≡ false → h b ≡ false → h c ≡ false → count h n + 3 ≤ n
  unfolding count
  count_three zero a b c la lb lc x y z ea eb ec = absurd (not-suc-le-zero la)
  count_three (suc n) a b c la lb lc x y z ea eb ec =
      go (eqb n a) refl (eqb n b) refl (eqb n c) refl (λ p q r. count_three n a b c p q r x y z ea eb ec)
    where
      step : (b : Bool) (d : ℕ) → count h n + d ≤ n → cond b (suc (count h n)) (count h n) + d ≤ suc n
      step true d l = omega arith
      step false d l = omega arith

      last : (i : ℕ) → n ≡ i → h i ≡ false → count h n + 2 ≤ n → cond (h n) (suc (count h n)) (count h n) + 3 ≤ suc n
      last i r e o = let z : h n ≡ false = ap h r ∙ e in rw z (omega arith)

      go : (p : Bool) → eqb n a ≡ p → (q : Bool) → eqb n b ≡ q → (r : Bool) → eqb n c ≡ r
          → (a < n → b < n → c < n → count h n + 3 ≤ n) → cond (h n) (suc (count h n)) (count h n) + 3 ≤ suc n
      go true e q f r g ih =
          let s : n ≡ a = eqb-true n a e in
          let l : b < n = omega arith in
          let m : c < n = omega arith in
          last a s ea (count_two n b c l m z eb ec)
      go false e true f r g ih =
          let s : n ≡ b = eqb-true n b f in
          let l : a < n = omega arith in
          let m : c < n = omega arith in
          last b s eb (count_two n a c l m y ea ec)
      go false e false f true g ih =
          let s : n ≡ c = eqb-true n c g in
          let l : a < n = omega arith in
          let m : b < n = omega arith in
          last c s ec (count_two n a b l m x ea eb)
      go false e false f false g ih =
          let sa : n ≡ a → ⊥ = eqb-false n a e in
          let sb : n ≡ b → ⊥ = eqb-false n b f in
          let sc : n ≡ c → ⊥ = eqb-false n c g in
          let l : a < n = omega arith in
          let m : b < n = omega arith in
          let o : c < n = omega arith in
          step (h n) 3 (ih l m o)

  -- ---- what the search for another place finds

  pub other_none : (i n : ℕ) → n ≤ 12 → other h i n ≡ 12 → (p : ℕ) → p < n → (p ≡ i → ⊥) → h p ≡ true
  unfolding other
  other_none i zero m e p l d = absurd (not-suc-le-zero l)
  other_none i (suc n) m e p l d = go (h n) refl (eqb n i) refl (eqb p n) refl e (λ e' l'. other_none i n (omega arith) e' p l' d)
    where
      go : (b : Bool) → h n ≡ b → (c : Bool) → eqb n i ≡ c → (q : Bool) → eqb p n ≡ q → cond (b || c) (other h i n) n ≡ 12
          → (other h i n ≡ 12 → p < n → h p ≡ true) → h p ≡ true
      go true x c y true z e ih = ap h (eqb-true p n z) ∙ x
      go true x c y false z e ih = let s : p ≡ n → ⊥ = eqb-false p n z in ih e (omega arith)
      go false x true y true z e ih = absurd (d (eqb-true p n z ∙ eqb-true n i y))
      go false x true y false z e ih = let s : p ≡ n → ⊥ = eqb-false p n z in ih e (omega arith)
      go false x false y q z e ih = absurd (omega arith)

  pub record Lost (i n j : ℕ) : Type 0 where
    pub below : j < n
    pub apart : j ≡ i → ⊥
    pub none : h j ≡ false

  pub other_some : (i n : ℕ) → (other h i n ≡ 12 → ⊥) → Lost i n (other h i n)
  unfolding other
  other_some i zero d = absurd (d refl)
  other_some i (suc n) d = go (h n) refl (eqb n i) refl d (λ d'. other_some i n d')
    where
      up : (j : ℕ) → Lost i n j → Lost i (suc n) j
      up j l = let m : j < n = l.below in record { below = omega arith; apart = l.apart; none = l.none }

      go : (b : Bool) → h n ≡ b → (c : Bool) → eqb n i ≡ c → (cond (b || c) (other h i n) n ≡ 12 → ⊥)
          → ((other h i n ≡ 12 → ⊥) → Lost i n (other h i n)) → Lost i (suc n) (cond (b || c) (other h i n) n)
      go true x c y d ih = up (other h i n) (ih d)
      go false x true y d ih = up (other h i n) (ih d)
      go false x false y d ih = record { below = omega arith; apart = eqb-false n i y; none = x }
