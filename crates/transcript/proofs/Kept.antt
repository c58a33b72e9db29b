-- Laws that nothing here cites, kept since they stood.
-- Assumes nothing.
use Rattle.std.specs.Prelude.{◌≡◌, refl, List, [], ◌∷◌, ℕ, zero, suc, ◌+◌, ◌≤◌, ◌<◌, min, take, drop}
use Rattle.std.proofs.Common.{sym, ap, ◌∙◌, add-one, arith, take_all, drop-cons}
use Rattle.std.proofs.Math.Decide.{dec_le}
use Rattle.std.proofs.Math.ListN.{length, get_or}
use mathlib.Core.List.{map}
use Rattle.std.proofs.lemmas.List.{length-take, get_or-take}
use Rattle.transcript.specs.Lines.{each}

-- a list cut at its array's size
pub take_least : {A : Type 0} (l : List A) (count size n : ℕ) → length l ≡ size → n ≡ min count size → take n l ≡ take count l
take_least l count size n whole e = go (dec_le count size)
  where
    go : Dec (count ≤ size) → take n l ≡ take count l
    go (yes h) = let same : n ≡ count = omega arith in rw same
    go (no h) = take_all n l (omega arith) ∙ sym (take_all count l (omega arith))

pub map_take : {A B : Type 0} (f : A → B) (n : ℕ) (l : List A) → map f (take n l) ≡ take n (map f l)
map_take f zero l = refl
map_take f (suc n) [] = refl
map_take f (suc n) (x ∷ l) = ap (λ (r : List _). f x ∷ r) (map_take f n l)

pub each_none : {A : Type 0} (f : A → List ℕ) (l : List A) → each f (take 0 l) ≡ []
each_none f l = refl

pub next_length : (lengths : List ℕ) (n i : ℕ) → i < min n (length lengths)
    → drop i (take n lengths) ≡ get_or lengths i 0 ∷ drop (i + 1) (take n lengths)
next_length lengths n i h =
    let inside : i < length (take n lengths) = rw length-take (omega arith) in
    let cut : i < n = omega arith in
    rw (drop-cons (take n lengths) i 0, get_or-take n lengths i 0, add-one)
