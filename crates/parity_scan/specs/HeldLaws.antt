-- Laws of what is held: shards, their bytes and sizes.
-- Assumes nothing.
use Rattle.std.specs.Prelude.{◌≡◌, refl, Bool, true, false, ◌||◌, Option, None, Some, is_some, cond, List, ℕ, zero, suc, ◌+◌, ◌≤◌, ◌<◌, eqb, take, drop, set, slice_index_or}
use Rattle.std.specs.List.{count_by}
use Rattle.std.proofs.lemmas.List.{get_or_default}
use Rattle.std.proofs.lemmas.List.Sums.{count_by_more_yes, count_by_more_no}
use Rattle.parity_scan.specs.declared.held.Span.{Span}
use Rattle.std.proofs.Common.{sym, ap, ◌∙◌, add-one, arith, lt-ltb, le-ltb, length-take, length-drop}
use Rattle.std.proofs.Math.Dec.{ltb}
use Rattle.std.proofs.Math.ListN.{length, get_or, get_or-eq_default}
use Rattle.std.proofs.Math.Seq.{get_or-take, get_or-drop}
use Rattle.frames.specs.Lists.{count, other}
use Rattle.frames.specs.Reading.{has}
use Rattle.parity_scan.specs.Held.{Held, span_size, at_in, size_in, shard_in, sized, Inside, noted}

pub other_passed : (h : ℕ → Bool) (i p : ℕ) → (h p || eqb p i) ≡ true → other h i (p + 1) ≡ other h i p
unfolding other
other_passed h i p e = rw (add-one, e)

pub other_found : (h : ℕ → Bool) (i p : ℕ) → (h p || eqb p i) ≡ false → other h i (p + 1) ≡ p
unfolding other
other_found h i p e = rw (add-one, e)

pub count_more : (h : ℕ → Bool) (p : ℕ) → h p ≡ true → count h (p + 1) ≡ count h p + 1
unfolding count
count_more h p e = rw (add-one, e) (omega arith)

pub count_same : (h : ℕ → Bool) (p : ℕ) → h p ≡ false → count h (p + 1) ≡ count h p
unfolding count
count_same h p e = rw (add-one, e)

-- ---- what is held

module _ (s : List ℕ) (h : Held) (inside' : Inside s h) where
  pub length_shard_in : (p : ℕ) → length (shard_in s h p) ≡ size_in h p
  unfolding shard_in
  length_shard_in p = let i : at_in h p + size_in h p ≤ length s = inside'.inside p in
      simp (length-take, length-drop) (omega arith)

  pub has_sized : has (shard_in s h) ≡ sized h
  unfolding sized
  has_sized i p = ltb 0 (length_shard_in p i)

  pub byte_in_lem : (p x : ℕ) → x < size_in h p → get_or (shard_in s h p) x 0 ≡ get_or s (at_in h p + x) 0
  unfolding shard_in
  byte_in_lem p x l = get_or-take (size_in h p) (drop (at_in h p) s) x 0 l ∙ get_or-drop (at_in h p) s x 0

  pub byte_past : (p x : ℕ) → size_in h p ≤ x → get_or (shard_in s h p) x 0 ≡ 0
  byte_past p x l = get_or-eq_default (shard_in s h p) 0 (rw (length_shard_in p) l)

  pub sized_true : (p n : ℕ) → n ≡ size_in h p → 0 < n → has (shard_in s h) p ≡ true
  sized_true p n e l = ap (λ (m : ℕ). ltb 0 m) (length_shard_in p ∙ sym e) ∙ lt-ltb 0 n l

  pub sized_false : (p n : ℕ) → n ≡ size_in h p → n ≤ 0 → has (shard_in s h) p ≡ false
  sized_false p n e l = ap (λ (m : ℕ). ltb 0 m) (length_shard_in p ∙ sym e) ∙ le-ltb 0 n l

-- a test of the place itself
pub sized_is : (h : Held) (p : ℕ) → is_some (slice_index_or h p None) ≡ sized h p
unfolding sized
sized_is h p = go (slice_index_or h p None)
  where
    go : (o : Option Span) → is_some o ≡ ltb 0 (span_size o)
    go None = refl
    go (Some x) = sym (lt-ltb 0 x.size x.some)

-- the same, as a place is read
pub sized_at : (h : Held) (p : ℕ) (d : Option Span) → p < length h → is_some (slice_index_or h p d) ≡ sized h p
sized_at h p d l = ap is_some (get_or_default h p d None l) ∙ sized_is h p

pub count_is : (h : Held) (n : ℕ) → n ≤ length h → count_by is_some (take n h) ≡ count (sized h) n
unfolding count
count_is h zero l = refl
count_is h (suc n) l = go (is_some (slice_index_or h n None)) refl (count_is h n (omega arith))
  where
    go : (b : Bool) → is_some (slice_index_or h n None) ≡ b → count_by is_some (take n h) ≡ count (sized h) n
        → count_by is_some (take (suc n) h) ≡ cond (sized h n) (suc (count (sized h) n)) (count (sized h) n)
    go true e ih =
        let m : n < length h = omega arith in
        rw (← add-one n, ← sized_is h n, e, ← ih) (count_by_more_yes is_some h n None m e ∙ add-one (count_by is_some (take n h)))
    go false e ih =
        let m : n < length h = omega arith in
        rw (← add-one n, ← sized_is h n, e, ← ih) (count_by_more_no is_some h n None m e)

-- one more shard
module _ (h : Held) (p : ℕ) (x : Span) (d : Option Span) (l : p < length h) where
  pub noted_first : is_some (slice_index_or h p d) ≡ false → set h p (Some x) ≡ noted h p x
  unfolding noted
  noted_first e = rw (← sized_at h p d l, e)

  pub noted_later : is_some (slice_index_or h p d) ≡ true → h ≡ noted h p x
  unfolding noted
  noted_later e = rw (← sized_at h p d l, e)
