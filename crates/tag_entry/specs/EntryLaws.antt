-- Laws of `Entries` and `Fingerprints`.
-- Assumes nothing.
use Rattle.std.specs.Prelude.{◌≡◌, Bool, false, ◌&&◌, List, ℕ, ◌+◌, ◌-◌, ◌≤◌, ◌<◌, length, take, drop, replicate}
use Rattle.std.proofs.Math.Path.{ap}
use Rattle.std.proofs.Common.{◌⊎◌, inl, inr, drop-drop, append_assoc, ◌∙◌, length-append, length-drop, length-take-le}
use native.Mathlib.Omega.{arith}
use borrow.Author.Tests.{le-leb, lt-leb}
use Rattle.std.proofs.lemmas.List.{length-replicate}
use Rattle.std.proofs.lemmas.List.Edits.{sets, sets-eq}
use borrow.Rule.Slice.PartMut.{put_mid}
use Rattle.wire.specs.Stores.{sets_append}
use Rattle.std.specs.List.{list_all}
use Rattle.std.proofs.Math.Bool.{and-false}
use Rattle.tag_message.specs.Tags.{is_name}
use Rattle.tag_message.specs.Messages.{counted}
use Rattle.tag_entry.specs.Entries.{is_zero, name_length, value_length, is_used, padded, entry_of}

-- ---- the tests of an entry, in turn

module _ (e : List ℕ) (n v : ℕ) (p : n ≡ name_length e) (q : v ≡ value_length e) where
  pub too_long : (32 < n) ⊎ ((n ≤ 32) × (64 < v)) → false ≡ is_used e
  unfolding is_used
  too_long (inl h) = rw (← p, lt-leb n 32 h)
  too_long (inr h) = rw (← q, lt-leb v 64 h.1, and-false)

  pub used :
      {a b d : Bool} →
      n ≤ 32 →
      v ≤ 64 →
      a ≡ is_name (take (1 + n - 1) (drop 1 e)) →
      b ≡ list_all is_zero (take (33 - (1 + n)) (drop (1 + n) e)) →
      d ≡ list_all is_zero (take (98 - (34 + v)) (drop (34 + v) e)) →
      (a && b && d) ≡ is_used e
  unfolding is_used
  used h k r s t =
      let i : 1 + n - 1 ≡ n = omega arith in
      let j : 33 - (1 + n) ≡ 32 - n = omega arith in
      let l : 98 - (34 + v) ≡ 64 - v = omega arith in
      rw (← p, ← q, le-leb n 32 h, le-leb v 64 k, r, s, t, i, j, l)

-- ---- what is stored, one behind the other

-- what was written to a part of k bytes from a on
pub part_stored : (a k : ℕ) (l xs ys : List ℕ) → a + k ≤ length l → xs ≡ ys → length ys ≡ k → put_mid a k l xs ≡ sets l a ys
part_stored a k l xs ys h e n = rw (e, sets-eq ys l a (omega (arith, n)), n, drop-drop, append_assoc)

-- a part that was filled with zeros
pub zeroed : (at len : ℕ) (l xs : List ℕ) → at + len ≤ length l → xs ≡ replicate (length (take (at + len - at) (drop at l))) 0
    → put_mid at (at + len - at) l xs ≡ sets l at (replicate len 0)
zeroed at len l xs h e =
    let n : at + len - at ≡ len = omega arith in
    let m : length (take (at + len - at) (drop at l)) ≡ len = rw n (length-take-le len (drop at l) (rw length-drop (omega arith))) in
    rw n (part_stored at len l xs (replicate len 0) h (e ∙ ap (λ (k : ℕ). replicate k 0) m) (length-replicate len 0))

pub padded_stored :
    (most at : ℕ) (bytes l : List ℕ) {x y : List ℕ} →
    x ≡ sets l at (counted bytes) →
    y ≡ sets x (at + 1 + length bytes) (replicate (most - length bytes) 0) →
    y ≡ sets l at (padded most bytes)
padded_stored most at bytes l p q =
    let i : at + length (counted bytes) ≡ at + 1 + length bytes = omega arith in
    rw (sets_append l at (counted bytes) (replicate (most - length bytes) 0), i, ← p) q

pub length_padded : (most : ℕ) (l : List ℕ) → length l ≤ most → length (padded most l) ≡ 1 + most
length_padded most l h = simp (length-append, length-replicate) (omega arith)

pub entry_stored :
    (at : ℕ) (name value l : List ℕ) {x y : List ℕ} →
    length name ≤ 32 →
    x ≡ sets l at (padded 32 name) →
    y ≡ sets x (at + 33) (padded 64 value) →
    y ≡ sets l at (entry_of name value)
unfolding entry_of
entry_stored at name value l h p q = rw (sets_append l at (padded 32 name) (padded 64 value), length_padded 32 name h, ← p) q

pub length_entry : (name value : List ℕ) → length name ≤ 32 → length value ≤ 64 → length (entry_of name value) ≡ 98
unfolding entry_of
length_entry name value h k = rw (length-append, length_padded 32 name h, length_padded 64 value k)
