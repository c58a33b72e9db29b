-- What `header_at` finds, as facts.
-- Assumes nothing.
use Rattle.std.specs.Prelude.{◌≡◌, Some, None, List, ℕ, ◌+◌, ◌≤◌, ◌<◌, length}
use Rattle.std.proofs.Common.{sym, ◌∙◌, arith, le-leb}
use Rattle.std.proofs.Math.Decide.{dec_le}
use Rattle.std.proofs.lemmas.Bool.{lt-leb}
use Rattle.wire.specs.Headers.{decode, header_at}
use Rattle.wire.specs.declared.Header.{Header}

-- a whole header at index i of s is h
pub record IsWhole (s : List ℕ) (i : ℕ) (h : Header) : Type 0 where
  pub inside : i + 24 ≤ length s
  pub header : h ≡ decode s i

module _ (s : List ℕ) (i : ℕ) where
  at_whole : i + 24 ≤ length s → header_at s i ≡ Some (decode s i)
  unfolding header_at
  at_whole h = rw (le-leb _ _ h)

  at_short : length s < i + 24 → header_at s i ≡ None
  unfolding header_at
  at_short h = rw (lt-leb _ _ h)

  pub found_whole : (h : Header) → header_at s i ≡ Some h → IsWhole s i h
  found_whole h e = go (dec_le (i + 24) (length s))
    where
      go : Dec (i + 24 ≤ length s) → IsWhole s i h
      go (yes p) = record { inside = p; header = let q = sym (at_whole p) ∙ e in cc }
      go (no p) = absurd (let q = sym (at_short (omega arith)) ∙ e in let z : ◌≡◌ {A = ℕ} 0 1 = cc in omega arith)

  pub found_short : header_at s i ≡ None → length s < i + 24
  found_short e = go (dec_le (i + 24) (length s))
    where
      go : Dec (i + 24 ≤ length s) → length s < i + 24
      go (yes p) = absurd (let q = sym (at_whole p) ∙ e in let z : ◌≡◌ {A = ℕ} 0 1 = cc in omega arith)
      go (no p) = omega arith
