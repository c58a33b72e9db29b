-- The segments of words, and the message at their front.
-- Assumes nothing.
use mathlib.Core.Path.{◌≡◌, refl, sym, ap, ◌∙◌}
use mathlib.Core.List.{List, [], ◌∷◌, map}
use Prim.Native.Nat.{ℕ, ◌+◌, ◌≤◌, ◌<◌}
use lib.ListN.{length, take, drop, get_or}
use Rattle.std.proofs.Common.{add-one, drop-cons, sum}
use Rattle.std.specs.List.{sum_by}
use Rattle.std.proofs.lemmas.List.{take-map, drop_all}
use Rattle.std.proofs.lemmas.List.Sums.{sum-map, sum_by-cons}
use Rattle.lists.specs.declared.Held.{Held}
use Rattle.session.specs.Reading.{front_count, length_of}
use Rattle.words.specs.Words.{unpack}
use Rattle.deliver.specs.Messages.{front_of}

module _ (ws : List ℕ) where
  -- the segments from index i on
  abbrev pub rest : ℕ → List Held
  rest i = map unpack (drop i ws)

  pub rest_next : (i : ℕ) → i < length ws → rest i ≡ unpack (get_or ws i 0) ∷ rest (i + 1)
  rest_next i h = rw (add-one, drop-cons ws i 0) refl

  pub rest_end : (i : ℕ) → length ws ≤ i → rest i ≡ []
  rest_end i h = ap (map unpack) (drop_all i ws h)

-- the length of all
pub length_sum : (ws : List ℕ) → sum (map (λ word. (unpack word).len) ws) ≡ length_of (map unpack ws)
unfolding length_of
length_sum ws = sum-map _ ws ∙ go ws
  where
    go : (ws : List ℕ) → sum_by (λ word. (unpack word).len) ws ≡ length_of (map unpack ws)
    go [] = refl
    go (w ∷ ws) = rw (sum_by-cons, go ws)

-- the message's segments
pub front_words : (ws : List ℕ) (k : ℕ) → k ≡ front_count (map unpack ws) → map unpack (take k ws) ≡ front_of (map unpack ws)
front_words ws k e = sym (take-map unpack k ws) ∙ ap (λ (j : ℕ). take j (map unpack ws)) e
