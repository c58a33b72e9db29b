-- Laws of `All`: what holds of each of a list.
-- Assumes nothing.
use Rattle.std.specs.Prelude.{Bool, cond, ℕ, zero, suc, take, drop}
use Rattle.std.proofs.Math.Bool.{true, false}
use mathlib.Core.List.{List, [], ◌∷◌, ◌++◌, map}
use Rattle.lists.specs.Acknowledging.{select}
use Rattle.session.specs.Decides.{All}

-- ---- of each in two respects

module _ {A : Type 0} (P Q : A → Type 0) where
  pub all_both : (l : List A) → All P l → All Q l → All (λ (x : A). P x × Q x) l
  all_both [] p q = tt
  all_both (x ∷ l) p q = ((p.0, q.0), all_both l p.1 q.1)

  pub all_one : (l : List A) → All (λ (x : A). P x × Q x) l → All P l
  all_one [] h = tt
  all_one (x ∷ l) h = (h.0.0, all_one l h.1)

  pub all_other : (l : List A) → All (λ (x : A). P x × Q x) l → All Q l
  all_other [] h = tt
  all_other (x ∷ l) h = (h.0.1, all_other l h.1)

  pub all_weaker : ((x : A) → P x → Q x) → (l : List A) → All P l → All Q l
  all_weaker f [] h = tt
  all_weaker f (x ∷ l) h = (f x h.0, all_weaker f l h.1)

-- ---- of parts

module _ {A : Type 0} (P : A → Type 0) where
  pub all_any : ((x : A) → P x) → (l : List A) → All P l
  all_any f [] = tt
  all_any f (x ∷ l) = (f x, all_any f l)

  pub all_append : (l r : List A) → All P l → All P r → All P (l ++ r)
  all_append [] r h k = k
  all_append (x ∷ l) r h k = (h.0, all_append l r h.1 k)

  pub all_left : (l r : List A) → All P (l ++ r) → All P l
  all_left [] r h = tt
  all_left (x ∷ l) r h = (h.0, all_left l r h.1)

  pub all_right : (l r : List A) → All P (l ++ r) → All P r
  all_right [] r h = h
  all_right (x ∷ l) r h = all_right l r h.1

  pub all_take : (k : ℕ) (l : List A) → All P l → All P (take k l)
  all_take zero l h = tt
  all_take (suc k) [] h = tt
  all_take (suc k) (x ∷ l) h = (h.0, all_take k l h.1)

  pub all_drop : (k : ℕ) (l : List A) → All P l → All P (drop k l)
  all_drop zero l h = h
  all_drop (suc k) [] h = h
  all_drop (suc k) (x ∷ l) h = all_drop k l h.1

-- ---- of what a function gives

module _ {A B : Type 0} (P : B → Type 0) (f : A → B) where
  pub all_mapped : (l : List A) → All (λ (x : A). P (f x)) l → All P (map f l)
  all_mapped [] h = tt
  all_mapped (x ∷ l) h = (h.0, all_mapped l h.1)

  pub all_unmapped : (l : List A) → All P (map f l) → All (λ (x : A). P (f x)) l
  all_unmapped [] h = tt
  all_unmapped (x ∷ l) h = (h.0, all_unmapped l h.1)

-- ---- of those that pass a test

module _ {A : Type 0} (test : A → Bool) where
  pub all_select : (P : A → Type 0) (l : List A) → All P l → All P (select test l)
  unfolding select
  all_select P [] a = tt
  all_select P (x ∷ l) a = go (test x) (all_select P l a.1)
    where
      go : (b : Bool) → All P (select test l) → All P (cond b (x ∷ select test l) (select test l))
      go true i = (a.0, i)
      go false i = i
