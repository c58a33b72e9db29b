-- Laws that nothing here cites, kept since they stood.
-- Assumes nothing.
use Rattle.std.specs.Prelude.{
  ◌≡◌,
  refl,
  Bool,
  true,
  false,
  List,
  ℕ,
  suc,
  ◌+◌,
  ◌-◌,
  ◌*◌,
  ◌%◌,
  ◌≤◌,
  ◌<◌,
  ◌&&◌,
  eqb,
  length,
  take,
  drop,
  get_or,
  set,
  replicate,
}
use Rattle.std.proofs.Common.{sym, ap, ◌∙◌, arith, add-one, add-suc, drop-cons, drop_of_length-le, length-drop, length-take-le}
use borrow.Author.Tests.{lt-leb, eq-eqb, ne_eqb}
use Rattle.std.proofs.lemmas.List.Edits.{sets}
use Rattle.std.proofs.lemmas.Slice.Eq.{bytes_eq-Decides}
use Rattle.std.proofs.Math.Bool.{and-false}
use Rattle.std.specs.List.{list_all}
use Rattle.std.specs.Str.{bytes_eq}
use Rattle.tag_entry.specs.Entries.{is_zero, name_length, name_of, value_length, is_used, is_entry, is_named}
use Rattle.tag_entry.specs.Fingerprints.{mixed}

-- ---- runs of bytes

module _ (a b : List ℕ) (i : ℕ) where
  -- the first of what is left, and the rest
  pub same_step : i < length a → i < length b
      → bytes_eq (drop i a) (drop i b) ≡ (eqb (get_or a i 0) (get_or b i 0) && bytes_eq (drop (i + 1) a) (drop (i + 1) b))
  same_step h k = rw (drop-cons a i 0 h, drop-cons b i 0 k, add-one i)

  pub same_end : length a ≤ i → length b ≤ i → bytes_eq (drop i a) (drop i b) ≡ true
  same_end h k = rw (drop_of_length-le a h, drop_of_length-le b k)

pub mixed_step : (l : List ℕ) (f i : ℕ) → i < length l → mixed f (drop i l) ≡ mixed ((31 * f + get_or l i 0) % 256) (drop (i + 1) l)
mixed_step l f i h = rw (drop-cons l i 0 h, add-one i)

pub mixed_end : (l : List ℕ) (f i : ℕ) → length l ≤ i → mixed f (drop i l) ≡ f
mixed_end l f i h = rw (drop_of_length-le l h)

-- a zero more
pub zeros_step : (out : List ℕ) (at len i : ℕ) → i < len
    → sets out (at + i) (replicate (len - i) 0) ≡ sets (set out (at + i) 0) (at + (i + 1)) (replicate (len - (i + 1)) 0)
zeros_step out at len i h =
    let n : len - i ≡ suc (len - (i + 1)) = omega arith in
    rw (n, add-one i, add-suc)

-- ---- equal bytes

pub same_refl : (l : List ℕ) → bytes_eq l l ≡ true
same_refl l = (bytes_eq-Decides l l).1 refl

pub same_equal : (a b : List ℕ) → bytes_eq a b ≡ true → a ≡ b
same_equal a b e = (bytes_eq-Decides a b).0 e

-- runs of other lengths are not the same
pub same_length : (a b : List ℕ) → (length a ≡ length b → ⊥) → bytes_eq a b ≡ false
same_length a b h = go (bytes_eq a b) refl
  where
    go : (t : Bool) → bytes_eq a b ≡ t → t ≡ false
    go true e = absurd (h (ap length (same_equal a b e)))
    go false e = refl

-- ---- an entry

module _ (e : List ℕ) where
  pub long_name : 32 < name_length e → false ≡ is_used e
  unfolding is_used
  long_name h = rw (lt-leb (name_length e) 32 h)

  pub long_value : 64 < value_length e → false ≡ is_used e
  unfolding is_used
  long_value h = rw (lt-leb (value_length e) 64 h, and-false)

  pub free_entry_lem : {a : Bool} → name_length e ≡ 0 → a ≡ list_all is_zero e → a ≡ is_entry e
  unfolding is_entry
  free_entry_lem h p = rw (eq-eqb (name_length e) 0 h) p

  pub used_entry : {a : Bool} → (name_length e ≡ 0 → ⊥) → a ≡ is_used e → a ≡ is_entry e
  unfolding is_entry
  used_entry h p = rw (ne_eqb (name_length e) 0 h) p

  pub length_name : length e ≡ 98 → name_length e ≤ 32 → length (name_of e) ≡ name_length e
  length_name h k = length-take-le (name_length e) (drop 1 e) (rw length-drop (omega arith))

  pub named_by : (name : List ℕ) {a : Bool} → a ≡ bytes_eq name (take (1 + name_length e - 1) (drop 1 e)) → a ≡ is_named name e
  unfolding is_named
  named_by name p =
      let i : 1 + name_length e - 1 ≡ name_length e = omega arith in
      p ∙ ap (λ (k : ℕ). bytes_eq name (take k (drop 1 e))) i

  pub other_length : (name : List ℕ) → length e ≡ 98 → name_length e ≤ 32 → (name_length e ≡ length name → ⊥) → false ≡ is_named name e
  unfolding is_named
  other_length name h k d = sym (same_length name (name_of e) (λ q. d (sym (q ∙ length_name h k))))
