-- Laws of `Commands`: words and names letter by letter, and numbers word by word.
-- Assumes nothing.
use Rattle.std.specs.Prelude.{◌≡◌, refl, Bool, true, false, cond, Option, Some, None, List, [], ◌∷◌, ◌++◌, ℕ, ◌+◌, ◌≤◌, ◌<◌, eqb, length, take, drop}
use Rattle.std.proofs.Common.{sym, ap, append_assoc, append-nil, arith, length-append}
use Rattle.std.proofs.Math.Decide.{dec_lt}
use borrow.Author.Tests.{lt-leb, lt-ltb, le-ltb}
use Rattle.std.specs.List.{position, position_or_len}
use Rattle.std.specs.Option.{unwrap_or}
use Rattle.std.proofs.lemmas.List.{length-take}
use Rattle.std.proofs.lemmas.List.Recursion.{is_position_or_len}
use Rattle.notation.specs.Words.{number_of}
use Rattle.script.specs.Commands.{up_to, word, behind_word, on_first, words, arguments, one_more, numbers_of}
use Rattle.script.specs.Reading.{few}

-- ---- words

-- how long the front is: as many bytes as stand before the first that stops
pub up_to_position : (stop : ℕ) (l : List ℕ) → length (up_to stop l) ≡ position_or_len (λ c. eqb c stop) l
unfolding up_to
up_to_position stop l = is_position_or_len (λ (m : List ℕ). length (up_to stop m)) (λ c. eqb c stop) refl
    (λ c m. more (eqb c stop) c (up_to stop m)) l
  where
    more : (b : Bool) (c : ℕ) (m : List ℕ) → length (cond b [] (c ∷ m)) ≡ cond b 0 (1 + length m)
    more true c m = refl
    more false c m = omega arith

-- it is the front of the list
pub up_to_front : (stop : ℕ) (l : List ℕ) → take (length (up_to stop l)) l ≡ up_to stop l
unfolding up_to
up_to_front stop [] = refl
up_to_front stop (c ∷ l) = go (eqb c stop) (up_to_front stop l)
  where
    go : (b : Bool) → take (length (up_to stop l)) l ≡ up_to stop l
        → take (length (cond b [] (c ∷ up_to stop l))) (c ∷ l) ≡ cond b [] (c ∷ up_to stop l)
    go true e = refl
    go false e = ap (λ (w : List ℕ). c ∷ w) e

-- ---- the words of a line

pub up_to_short : (stop : ℕ) (l : List ℕ) → length (up_to stop l) ≤ length l
up_to_short stop l = omega (arith, simp length-take at (ap length (up_to_front stop l)))

-- what a search for the byte that stops it answers
pub up_to_found : (stop : ℕ) (l : List ℕ) (r : Option ℕ) → r ≡ position (λ c. eqb c stop) l → unwrap_or r (length l) ≡ length (up_to stop l)
up_to_found stop l r e = go (dec_lt (position_or_len (λ c. eqb c stop) l) (length l))
  where
    go : Dec (position_or_len (λ c. eqb c stop) l < length l) → unwrap_or r (length l) ≡ length (up_to stop l)
    go (yes h) = rw (e, lt-ltb _ _ h) (sym (up_to_position stop l))
    go (no h) =
        let past : length l ≤ position_or_len (λ c. eqb c stop) l = omega arith in
        rw (e, le-ltb _ _ past) (omega (arith, up_to_position stop l, up_to_short stop l))

pub words_first : (l : List ℕ) → words l ≡ word l ∷ arguments (behind_word l)
unfolding up_to words
words_first [] = refl
words_first (c ∷ l) = go (eqb c 32) (words_first l)
  where
    go : (b : Bool) → words l ≡ word l ∷ arguments (behind_word l) → cond b ([] ∷ words l) (on_first c (words l)) ≡ cond b [] (c ∷ word l)
        ∷ arguments (drop (length (cond b [] (c ∷ word l))) (c ∷ l))
    go true e = refl
    go false e = rw e

-- behind a space: the next word, and what is behind it
pub arguments_next : (c : ℕ) (rest words word behind : List ℕ) → rest ≡ c ∷ words → word ≡ up_to 32 words
    → behind ≡ drop (length (up_to 32 words)) words → arguments rest ≡ word ∷ arguments behind
arguments_next c rest words word behind e f g = rw (e, f, g) (words_first words)

-- ---- numbers

-- numbers in front of those that are left
abbrev pub prepend : List ℕ → Option (List ℕ) → Option (List ℕ)
prepend ns None = None
prepend ns (Some ms) = Some (ns ++ ms)

-- a word that is a number, and one that is none
pub numbers_next : (ns w : List ℕ) (n : ℕ) (ws : List (List ℕ)) → number_of w ≡ Some n
    → prepend ns (numbers_of (w ∷ ws)) ≡ prepend (ns ++ (n ∷ [])) (numbers_of ws)
unfolding numbers_of
numbers_next ns w n ws e = rw e (go (numbers_of ws))
  where
    go : (o : Option (List ℕ)) → prepend ns (one_more (Some n) o) ≡ prepend (ns ++ (n ∷ [])) o
    go None = refl
    go (Some ms) = ap Some (sym (append_assoc ns (n ∷ []) ms))

pub numbers_none : (ns w : List ℕ) (ws : List (List ℕ)) → number_of w ≡ None → prepend ns (numbers_of (w ∷ ws)) ≡ None
unfolding numbers_of
numbers_none ns w ws e = rw e

pub numbers_end : (ns : List ℕ) → prepend ns (numbers_of []) ≡ Some ns
unfolding numbers_of
numbers_end ns = ap Some (append-nil ns)

-- more numbers than there is room for
pub few_long : (most : ℕ) (ns : List ℕ) (o : Option (List ℕ)) → most < length ns → few most (prepend ns o) ≡ None
few_long most ns None h = refl
few_long most ns (Some ms) h = rw (lt-leb (length (ns ++ ms)) most (omega (arith, length-append ns ms)))
