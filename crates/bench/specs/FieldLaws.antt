-- Laws of the fields of a link.
-- Assumes nothing.
use Rattle.std.specs.Prelude.{◌≡◌, length, get_or}
use Rattle.std.proofs.Math.Path.{refl, ap}
use Rattle.std.proofs.Common.{sym, ◌∙◌, not-suc-le-zero, arith}
use mathlib.Core.List.{List, [], ◌∷◌, ◌++◌, map}
use Prim.Native.Nat.{ℕ, zero, suc, ◌≤◌, ◌<◌}
use Rattle.std.proofs.Math.ListN.{set}
use Rattle.std.proofs.lemmas.List.{set-append_left}
use Rattle.protocol.specs.declared.Settings.{Settings}
use Rattle.lists.specs.declared.Held.{Held}
use Rattle.words.specs.Words.{unpack, paired}
use Rattle.bench.specs.Fields.{settings_of, held_fields, stored_in, HasField, changed}

-- a field of the first three, of four
first_three : (a b : Held) (n field v : ℕ) → field < 3 → held_fields b ≡ set (held_fields a) field v → held_fields b
    ++ (n ∷ []) ≡ set (held_fields a ++ (n ∷ [])) field v
first_three a b n field v h e = ap (λ (l : List ℕ). l ++ (n ∷ [])) e ∙ sym (set-append_left (held_fields a) (n ∷ []) field v h)

-- one word of a list changed in a field
pub words_changed : (ws : List ℕ) (i word field v : ℕ)
    → (i < length ws → held_fields (unpack word) ≡ set (held_fields (unpack (get_or ws i 0))) field v)
    → map (λ (w : ℕ). held_fields (unpack w)) (set ws i word) ≡ changed (map (λ (w : ℕ). held_fields (unpack w)) ws) i field v
words_changed [] i word field v e = refl
words_changed (w ∷ ws) zero word field v e = ap (λ (s : List ℕ). s ∷ map (λ (x : ℕ). held_fields (unpack x)) ws) (e (omega arith))
words_changed (w ∷ ws) (suc i) word field v e =
    ap (λ (r : List (List ℕ)). held_fields (unpack w) ∷ r) (words_changed ws i word field v (λ h. e (omega arith)))

-- words and numbers side by side, the fields of an entry being those of its word, and its number
module _ {A : Type 0} (entry : ℕ → ℕ → A) (fields : A → List ℕ) (is : (w n : ℕ) → fields (entry w n) ≡ held_fields (unpack w) ++ (n ∷ []))
  where
    pub word_changed : (ws ns : List ℕ) (i word field v : ℕ) → field < 3
        → (i < length ws → held_fields (unpack word) ≡ set (held_fields (unpack (get_or ws i 0))) field v)
        → map fields (paired entry (set ws i word) ns) ≡ changed (map fields (paired entry ws ns)) i field v
    unfolding paired
    word_changed [] ns i word field v h e = refl
    word_changed (w ∷ ws) [] zero word field v h e = refl
    word_changed (w ∷ ws) [] (suc i) word field v h e = refl
    word_changed (w ∷ ws) (n ∷ ns) zero word field v h e =
        ap (λ (s : List ℕ). s ∷ map fields (paired entry ws ns))
        (is word n ∙ first_three (unpack w) (unpack word) n field v h (e (omega arith)) ∙ ap (λ (s : List ℕ). set s field v) (sym (is w n)))
    word_changed (w ∷ ws) (n ∷ ns) (suc i) word field v h e =
        ap (λ (r : List (List ℕ)). fields (entry w n) ∷ r) (word_changed ws ns i word field v h (λ g. e (omega arith)))

    pub number_changed : (ws ns : List ℕ) (i v : ℕ)
        → map fields (paired entry ws (set ns i v)) ≡ changed (map fields (paired entry ws ns)) i 3 v
    unfolding paired
    number_changed [] ns i v = refl
    number_changed (w ∷ ws) [] i v = refl
    number_changed (w ∷ ws) (n ∷ ns) zero v =
        ap (λ (s : List ℕ). s ∷ map fields (paired entry ws ns)) (is w v ∙ ap (λ (s : List ℕ). set s 3 v) (sym (is w n)))
    number_changed (w ∷ ws) (n ∷ ns) (suc i) v = ap (λ (r : List (List ℕ)). fields (entry w n) ∷ r) (number_changed ws ns i v)

-- what the first three fields store does not depend on the list
pub stored_three : (list field value : ℕ) → list < 4 → field < 3 → stored_in list field value ≡ stored_in 0 field value
stored_three list field value h g = go list field h g
  where
    go : (list field : ℕ) → list < 4 → field < 3 → stored_in list field value ≡ stored_in 0 field value
    go zero field h g = refl
    go (suc zero) zero h g = refl
    go (suc zero) (suc zero) h g = refl
    go (suc zero) (suc (suc zero)) h g = refl
    go (suc zero) (suc (suc (suc field))) h g = absurd (omega arith)
    go (suc (suc zero)) field h g = refl
    go (suc (suc (suc zero))) zero h g = refl
    go (suc (suc (suc zero))) (suc zero) h g = refl
    go (suc (suc (suc zero))) (suc (suc zero)) h g = refl
    go (suc (suc (suc zero))) (suc (suc (suc field))) h g = absurd (omega arith)
    go (suc (suc (suc (suc list)))) field h g = absurd (omega arith)

-- only four lists have fields
pub few_lists : (list field : ℕ) → HasField list field → list < 4
few_lists zero field h = omega arith
few_lists (suc zero) field h = omega arith
few_lists (suc (suc zero)) field h = omega arith
few_lists (suc (suc (suc zero))) field h = omega arith
few_lists (suc (suc (suc (suc list)))) field h = absurd (not-suc-le-zero h)
