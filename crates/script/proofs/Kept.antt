-- Laws that nothing here cites, kept since they stood.
-- Assumes nothing.
use Rattle.std.specs.Prelude.{◌≡◌, refl, Bool, true, false, cond, ◌||◌, Option, Some, None, List, [], ◌∷◌}
use Rattle.std.specs.Prelude.{ℕ, suc, ◌+◌, ◌*◌, ◌-◌, ◌≤◌, ◌<◌, leb, eqb, length, get_or, take, drop}
use Rattle.std.proofs.Common.{sym, ap, ◌∙◌, inl, inr, add-one, arith}
use Rattle.std.proofs.Common.{ne_eqb, eq-eqb, le-leb, length-drop, length-take-le, drop_of_length-le, drop-cons, take_all}
use Rattle.std.proofs.Math.Bool.{or-true}
use Rattle.std.proofs.Math.Decide.{dec_le}
use Rattle.std.proofs.lemmas.Bool.{lt-leb}
use types.Run.{OneOf}
use Rattle.script.specs.Commands.{is_one_of, up_to, word, arguments, letters, of_one, of_two, of_four, of_five, of_six, of_seven, of_numbers, with_numbers}
use Rattle.script.specs.CommandLaws.{prepend}
use Rattle.script.specs.Reading.{few}

module _ (stop : ℕ) (l : List ℕ) (i : ℕ) where
  pub up_to_next : i < length l → (get_or l i 0 ≡ stop → ⊥) → length (up_to stop (drop i l)) ≡ suc (length (up_to stop (drop (i + 1) l)))
  unfolding up_to
  up_to_next h d = rw (drop-cons l i 0 h, add-one, ne_eqb (get_or l i 0) stop d)

  pub up_to_here : i < length l → get_or l i 0 ≡ stop → length (up_to stop (drop i l)) ≡ 0
  unfolding up_to
  up_to_here h e = rw (drop-cons l i 0 h, eq-eqb (get_or l i 0) stop e)

  pub up_to_end : length l ≤ i → length (up_to stop (drop i l)) ≡ 0
  unfolding up_to
  up_to_end h = rw (drop_of_length-le l h)

-- ---- names

module _ (w : List ℕ) (i n : ℕ) where
  pub letters_next : i < length w → 256 * n + get_or w i 0 < 72057594037927936
      → letters n (drop i w) ≡ letters (256 * n + get_or w i 0) (drop (i + 1) w)
  unfolding letters
  letters_next h g = rw (drop-cons w i 0 h, add-one, lt-leb 72057594037927936 (256 * n + get_or w i 0) g)

  pub letters_many : i < length w → 72057594037927936 ≤ 256 * n + get_or w i 0 → letters n (drop i w) ≡ 0
  unfolding letters
  letters_many h g = rw (drop-cons w i 0 h, le-leb 72057594037927936 (256 * n + get_or w i 0) g)

  pub letters_end : length w ≤ i → letters n (drop i w) ≡ n
  unfolding letters
  letters_end h = rw (drop_of_length-le w h)

-- ---- the words of a line

-- the first word is the front of the line
pub word_front : (l : List ℕ) → take (length (word l)) l ≡ word l
unfolding up_to
word_front [] = refl
word_front (c ∷ l) = go (eqb c 32) (word_front l)
  where
    go : (b : Bool) → take (length (word l)) l ≡ word l → take (length (cond b [] (c ∷ word l))) (c ∷ l) ≡ cond b [] (c ∷ word l)
    go true e = refl
    go false e = ap (λ (w : List ℕ). c ∷ w) e

pub arguments_end : (line : List ℕ) (here : ℕ) → length line ≤ here → arguments (drop here line) ≡ []
arguments_end line here h = rw (drop_of_length-le line h)

pub prepend_none : (o : Option (List ℕ)) → prepend [] o ≡ o
prepend_none None = refl
prepend_none (Some ms) = refl

-- ---- one of some numbers, as the arms of a match test it

pub one_of : (k : ℕ) (ks : List ℕ) (n : ℕ) → OneOf (k ∷ ks) n → is_one_of n (k ∷ ks) ≡ true
one_of k [] n e = rw (eq-eqb n k e)
one_of k (m ∷ ks) n (inl e) = rw (eq-eqb n k e)
one_of k (m ∷ ks) n (inr h) = rw (one_of m ks n h, or-true)

pub none_of : (k : ℕ) (ks : List ℕ) (n : ℕ) → (OneOf (k ∷ ks) n → ⊥) → is_one_of n (k ∷ ks) ≡ false
none_of k [] n d = rw (ne_eqb n k d)
none_of k (m ∷ ks) n d = rw (ne_eqb n k (λ e. d (inl e)), none_of m ks n (λ h. d (inr h)))

-- four tests joined from the left, and as `is_one_of` joins them
pub or_four : (a b c d : Bool) → (((a || b) || c) || d) ≡ (a || (b || (c || (d || false))))
or_four true b c d = refl
or_four false true c d = refl
or_four false false true d = refl
or_four false false false true = refl
or_four false false false false = refl

-- ---- commands by how many numbers there are

module _ (name : ℕ) where
  pub one_number : (l : List ℕ) → 1 ≤ length l → of_numbers name (take 1 l) ≡ of_one name (get_or l 0 0)
  one_number [] h = absurd (omega arith)
  one_number (a ∷ l) h = refl

  pub two_numbers : (l : List ℕ) → 2 ≤ length l → of_numbers name (take 2 l) ≡ of_two name (get_or l 0 0) (get_or l 1 0)
  two_numbers [] h = absurd (omega arith)
  two_numbers (a ∷ []) h = absurd (omega arith)
  two_numbers (a ∷ b ∷ l) h = refl

  pub four_numbers : (l : List ℕ) → 4 ≤ length l
      → of_numbers name (take 4 l) ≡ of_four name (get_or l 0 0) (get_or l 1 0) (get_or l 2 0) (get_or l 3 0)
  four_numbers [] h = absurd (omega arith)
  four_numbers (a ∷ []) h = absurd (omega arith)
  four_numbers (a ∷ b ∷ []) h = absurd (omega arith)
  four_numbers (a ∷ b ∷ c ∷ []) h = absurd (omega arith)
  four_numbers (a ∷ b ∷ c ∷ d ∷ l) h = refl

  pub five_numbers : (l : List ℕ) → 5 ≤ length l
      → of_numbers name (take 5 l) ≡ of_five name (get_or l 0 0) (get_or l 1 0) (get_or l 2 0) (get_or l 3 0) (get_or l 4 0)
  five_numbers [] h = absurd (omega arith)
  five_numbers (a ∷ []) h = absurd (omega arith)
  five_numbers (a ∷ b ∷ []) h = absurd (omega arith)
  five_numbers (a ∷ b ∷ c ∷ []) h = absurd (omega arith)
  five_numbers (a ∷ b ∷ c ∷ d ∷ []) h = absurd (omega arith)
  five_numbers (a ∷ b ∷ c ∷ d ∷ e ∷ l) h = refl

  pub six_numbers : (l : List ℕ) → 6 ≤ length l →
      of_numbers name (take 6 l) ≡ of_six name (get_or l 0 0) (get_or l 1 0) (get_or l 2 0) (get_or l 3 0) (get_or l 4 0) (get_or l 5 0)
  six_numbers [] h = absurd (omega arith)
  six_numbers (a ∷ []) h = absurd (omega arith)
  six_numbers (a ∷ b ∷ []) h = absurd (omega arith)
  six_numbers (a ∷ b ∷ c ∷ []) h = absurd (omega arith)
  six_numbers (a ∷ b ∷ c ∷ d ∷ []) h = absurd (omega arith)
  six_numbers (a ∷ b ∷ c ∷ d ∷ e ∷ []) h = absurd (omega arith)
  six_numbers (a ∷ b ∷ c ∷ d ∷ e ∷ f ∷ l) h = refl

  pub seven_numbers : (l : List ℕ) → 7 ≤ length l →
      of_numbers name (take 7 l)
      ≡ of_seven name (get_or l 0 0) (get_or l 1 0) (get_or l 2 0) (get_or l 3 0) (get_or l 4 0) (get_or l 5 0) (get_or l 6 0)
  seven_numbers [] h = absurd (omega arith)
  seven_numbers (a ∷ []) h = absurd (omega arith)
  seven_numbers (a ∷ b ∷ []) h = absurd (omega arith)
  seven_numbers (a ∷ b ∷ c ∷ []) h = absurd (omega arith)
  seven_numbers (a ∷ b ∷ c ∷ d ∷ []) h = absurd (omega arith)
  seven_numbers (a ∷ b ∷ c ∷ d ∷ e ∷ []) h = absurd (omega arith)
  seven_numbers (a ∷ b ∷ c ∷ d ∷ e ∷ f ∷ []) h = absurd (omega arith)
  seven_numbers (a ∷ b ∷ c ∷ d ∷ e ∷ f ∷ g ∷ l) h = refl

  module _ (n : ℕ) (d₀ : n ≡ 0 → ⊥) (d₁ : n ≡ 1 → ⊥) (d₂ : n ≡ 2 → ⊥)
      (d₄ : n ≡ 4 → ⊥) (d₅ : n ≡ 5 → ⊥) (d₆ : n ≡ 6 → ⊥)
      (d₇ : n ≡ 7 → ⊥) where
    pub no_command : (l : List ℕ) → n ≡ length l → of_numbers name l ≡ None
    no_command [] q = absurd (d₀ q)
    no_command (a ∷ []) q = absurd (d₁ q)
    no_command (a ∷ b ∷ []) q = absurd (d₂ q)
    no_command (a ∷ b ∷ c ∷ []) q = refl
    no_command (a ∷ b ∷ c ∷ d ∷ []) q = absurd (d₄ q)
    no_command (a ∷ b ∷ c ∷ d ∷ e ∷ []) q = absurd (d₅ q)
    no_command (a ∷ b ∷ c ∷ d ∷ e ∷ f ∷ []) q = absurd (d₆ q)
    no_command (a ∷ b ∷ c ∷ d ∷ e ∷ f ∷ g ∷ []) q = absurd (d₇ q)
    no_command (a ∷ b ∷ c ∷ d ∷ e ∷ f ∷ g ∷ h ∷ l) q = refl

    pub other_numbers : (l : List ℕ) → length l ≡ 8 → None ≡ with_numbers name (cond (leb n 8) (Some (take n l)) None)
    other_numbers l whole = go (dec_le n 8)
      where
        go : Dec (n ≤ 8) → None ≡ with_numbers name (cond (leb n 8) (Some (take n l)) None)
        go (yes h) = rw (le-leb n 8 h) (sym (no_command (take n l) (sym (length-take-le n l (omega arith)))))
        go (no h) = rw (lt-leb n 8 (omega arith))

  -- the reader keeps no more than eight
  pub few_enough : (o : Option (List ℕ)) → with_numbers name (few 8 o) ≡ with_numbers name o
  few_enough None = refl
  few_enough (Some ns) = go (dec_le (length ns) 8)
    where
      go : Dec (length ns ≤ 8) → with_numbers name (cond (leb (length ns) 8) (Some ns) None) ≡ of_numbers name ns
      go (yes h) = rw (le-leb (length ns) 8 h)
      go (no h) = rw (lt-leb (length ns) 8 (omega arith))
          (sym (no_command (length ns) (λ e. omega arith) (λ e. omega arith) (λ e. omega arith) (λ e. omega arith) (λ e. omega arith)
          (λ e. omega arith) (λ e. omega arith) ns refl))

-- ---- bytes

-- what stands behind a space
pub behind_space : (line : List ℕ) (e : ℕ) → e < length line → drop e line ≡ get_or line e 0
    ∷ take (length line - (e + 1)) (drop (e + 1) line)
behind_space line e h =
    drop-cons line e 0 h ∙ ap (λ (k : ℕ). get_or line e 0 ∷ drop k line) (sym (add-one e))
    ∙ ap (λ (l : List ℕ). get_or line e 0
    ∷ l) (sym (take_all (length line - (e + 1)) (drop (e + 1) line) (omega (arith, length-drop (e + 1) line))))

-- what the answer of reading bytes tells
pub not_bytes : (b : Bool) (k : ℕ) → ◌≡◌ {A = Option ℕ} None (cond b (Some k) None) → b ≡ false
not_bytes true k e = absurd (cc)
not_bytes false k e = refl

pub are_bytes : (b : Bool) (k n : ℕ) → ◌≡◌ {A = Option ℕ} (Some n) (cond b (Some k) None) → (b ≡ true) × (n ≡ k)
are_bytes true k n e = (refl, cc)
are_bytes false k n e = absurd (cc)
