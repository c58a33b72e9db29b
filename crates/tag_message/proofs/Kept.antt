-- Laws that nothing here cites, kept since they stood.
-- Assumes nothing.
use Rattle.std.specs.Prelude.{◌≡◌, refl, Ok, Err, Bool, true, false, ◌&&◌, ℕ}
use Rattle.std.specs.Prelude.{◌+◌, ◌-◌, ◌≤◌, ◌<◌, eqb, leb, length, take, drop, get_or}
use mathlib.Core.List.{List, [], ◌∷◌, ◌++◌}
use Rattle.std.proofs.Common.{sym, ap, ◌∙◌, add-one, arith, take-suc}
use Rattle.std.specs.List.{list_all}
use Rattle.tag_message.specs.Tags.{is_name}
use Rattle.tag_message.specs.Messages.{name_length, value_length, name_in, is_message, lengths_of, read_from}
use Rattle.tag_message.specs.declared.TagRefusal.TheVariants.{NotATag}
use borrow.Author.Tests.{ne_eqb}

pub and-true : (b : Bool) → (b && true) ≡ b
and-true true = refl
and-true false = refl

pub and-false : (b : Bool) → (b && false) ≡ false
and-false true = refl
and-false false = refl

pub and_assoc : (a b d : Bool) → ((a && b) && d) ≡ (a && (b && d))
and_assoc true b d = refl
and_assoc false b d = refl

module _ {A : Type 0} (p : A → Bool) where
  -- one element more
  pub every_snoc : (xs : List A) (x : A) → list_all p (xs ++ x ∷ []) ≡ (list_all p xs && p x)
  every_snoc [] x = and-true (p x)
  every_snoc (y ∷ ys) x = rw (every_snoc ys x, and_assoc (p y) (list_all p ys) (p x))

  -- the first i + 1 elements: those before, and the one at i
  pub every_more :
      (l : List A) (i : ℕ) (d : A) → i < length l → list_all p (take (i + 1) l) ≡ (list_all p (take i l) && p (get_or l i d))
  every_more l i d h = rw (add-one, take-suc l i d) (every_snoc (take i l) (get_or l i d))

-- the test of its parts, in the code's terms
pub tested :
    (m : List ℕ) {b t : Bool} →
    b ≡ is_name (take (1 + name_length m - 1) (drop 1 m)) →
    (b && leb (value_length m) 64 && eqb (length m) (1 + name_length m + 1 + value_length m)) ≡ t →
    is_message m ≡ t
unfolding is_message name_in
tested m p q =
    let n : 1 + name_length m - 1 ≡ name_length m = omega arith in
    ap (λ (x : Bool). x && leb (value_length m) 64 && eqb (length m) (1 + name_length m + 1 + value_length m))
    (sym (p ∙ ap (λ (k : ℕ). is_name (take k (drop 1 m))) n))
    ∙ q

-- ---- reading

module _ (m : List ℕ) where
  -- no byte behind the name
  pub short_message : length m ≤ 1 + name_length m → Err NotATag ≡ read_from m
  unfolding read_from is_message
  short_message h = rw (ne_eqb (length m) (1 + name_length m + 1 + value_length m) (λ e. omega (arith, e)), and-false)

  pub no_message : is_message m ≡ false → Err NotATag ≡ read_from m
  unfolding read_from
  no_message e = rw e

  pub message : is_message m ≡ true → Ok (lengths_of m) ≡ read_from m
  unfolding read_from
  message e = rw e
