-- Laws of `map`, `take` and `drop`.
-- Assumes nothing.
use Rattle.std.specs.Prelude.{◌≡◌, refl, List, [], ◌∷◌, ◌++◌, map, ℕ, zero, suc, take, drop}
use Rattle.std.proofs.Common.{ap}

module _ {A B : Type 0} (f : A → B) where
  pub map-append : (l r : List A) → map f (l ++ r) ≡ map f l ++ map f r
  map-append [] r = refl
  map-append (x ∷ l) r = ap {B = List B} (λ (t : List B). f x ∷ t) (map-append l r)

  pub map_take : (k : ℕ) (l : List A) → map f (take k l) ≡ take k (map f l)
  map_take zero l = refl
  map_take (suc k) [] = refl
  map_take (suc k) (x ∷ l) = ap {B = List B} (λ (t : List B). f x ∷ t) (map_take k l)

  pub map_drop : (k : ℕ) (l : List A) → map f (drop k l) ≡ drop k (map f l)
  map_drop zero l = refl
  map_drop (suc k) [] = refl
  map_drop (suc k) (x ∷ l) = map_drop k l

-- what a function leaves as it is
pub map_unchanged : {A B : Type 0} (f : A → B) (g : A → A) → ((x : A) → f (g x) ≡ f x) → (l : List A) → map f (map g l) ≡ map f l
map_unchanged f g same [] = refl
map_unchanged f g same (x ∷ l) = rw (same x, map_unchanged f g same l)
