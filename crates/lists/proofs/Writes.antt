-- The turns of the loops that write a list: to move, to shift, to select, to change in place, to bring from another list.
-- Assumes nothing.
use mathlib.Core.Path.{◌≡◌, sym, ap, ◌∙◌}
use mathlib.Core.Bool.{Bool, true, false}
use mathlib.Core.List.{List, [], ◌∷◌, map}
use Prim.Native.Nat.{ℕ, ◌+◌, ◌≤◌, ◌<◌}
use lib.ListN.{length, take, drop, get_or, set}
use native.Mathlib.Numerals.{add-one}
use native.Mathlib.Omega.{arith}
use lib.Seq.{drop-cons}
use Rattle.lists.specs.declared.Outstanding.{Outstanding}
use Rattle.timing.specs.declared.Record.{Record}
use Rattle.lists.specs.Acknowledging.{select}
use Rattle.lists.specs.Joining.{with_record, joined}
use Rattle.lists.proofs.Loops.{Packed, packed_put, packed_skip, packed_next, view_next, view_end}

module _ {A : Type 0} {size n : ℕ} {l₀ l goal : List A} {i j : ℕ} (d : A) (h : i < n) where
  -- an element that passes a test stays, another does not
  pub packed_pass : (test : A → Bool) → test (get_or l i d) ≡ true → Packed size n l₀ l (select test (drop i (take n l₀))) goal i j
      → Packed size n l₀ (set l j (get_or l i d)) (select test (drop (i + 1) (take n l₀))) goal (i + 1) (j + 1)
  unfolding select
  packed_pass test t p = packed_put h (rw (packed_next d h p, t) at p)

  pub packed_fail : (test : A → Bool) → test (get_or l i d) ≡ false → Packed size n l₀ l (select test (drop i (take n l₀))) goal i j
      → Packed size n l₀ l (select test (drop (i + 1) (take n l₀))) goal (i + 1) j
  unfolding select
  packed_fail test t p = packed_skip h (rw (packed_next d h p, t) at p)

  -- an element is replaced by its image
  pub packed_map : (f : A → A) → Packed size n l₀ l (map f (drop i (take n l₀))) goal i j
      → Packed size n l₀ (set l j (f (get_or l i d))) (map f (drop (i + 1) (take n l₀))) goal (i + 1) (j + 1)
  packed_map f p = packed_put h (rw (packed_next d h p) at p)

pub select_end : {A : Type 0} (test : A → Bool) (l : List A) (n i : ℕ) → n ≤ i → select test (drop i (take n l)) ≡ []
unfolding select
select_end test l n i h = rw (view_end l n i h)

-- the next segment with its record
pub joined_next : (os : List Outstanding) (rs : List Record) (n i : ℕ) (o : Outstanding) (r : Record) → i < n → n ≤ length os
    → n ≤ length rs
    → joined (drop i (take n os)) (drop i rs) ≡ with_record (get_or os i o) (get_or rs i r) ∷ joined (drop (i + 1) (take n os)) (drop (i + 1) rs)
unfolding joined
joined_next os rs n i o r h g e =
    let q : i < length rs = omega arith in
    rw (view_next os n i o h g, drop-cons rs i r q ∙ ap (λ (k : ℕ). get_or rs i r ∷ drop k rs) (sym (add-one i)))
