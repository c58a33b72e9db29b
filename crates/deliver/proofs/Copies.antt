-- The loops over the first k words: the total length of their segments, and their payloads copied out.
-- Assumes nothing.
use mathlib.Core.Path.{◌≡◌, refl}
use mathlib.Core.List.{List, [], ◌∷◌}
use Prim.Native.Nat.{ℕ, zero, suc, ◌+◌, ◌*◌, ◌≤◌, ◌<◌}
use native.Mathlib.Nat.{mul-le-mul_right}
use native.Mathlib.Omega.{arith}
use lib.ListN.{length, take, drop, get_or, length-drop, length-append}
use lib.Seq.{sets, length-sets, length-take-le}
use Rattle.wire.specs.Stores.{sets_append}
use Rattle.lists.specs.declared.Held.{Held}
use Rattle.pools.specs.Parts.{part}
use Rattle.session.specs.Decides.{All}
use Rattle.session.specs.Reading.{length_of, joined_in}
use Rattle.words.specs.Words.{unpack}
use Rattle.deliver.specs.Messages.{InPool}
use Rattle.deliver.proofs.Fronts.{rest, rest_next, rest_end}

-- ---- the payloads

-- a payload fits its slot
pub in_slot : (mss s len size : ℕ) → s < 256 → len ≤ mss → 256 * mss ≤ size → s * mss + len ≤ size
in_slot mss s len size h g b = omega (arith, mul-le-mul_right {m = s + 1} {n = 256} mss (omega arith))

-- payloads are stored up to index at; with those of the rest, that is goal
pub record Copying (mss : ℕ) (pool : List ℕ) (left : List Held) (goal out : List ℕ) (at : ℕ) : Type 0 where
  pub inside : InPool mss pool left
  pub fits : at + length_of left ≤ length out
  pub whole : sets out at (joined_in mss pool left) ≡ goal

pub copying_start : (mss : ℕ) (pool : List ℕ) (l : List Held) (out : List ℕ) → InPool mss pool l → length_of l ≤ length out
    → Copying mss pool l (sets out 0 (joined_in mss pool l)) out 0
copying_start mss pool l out i h = record { inside = i; fits = omega arith; whole = refl }

-- a segment in front of the rest lies in its slot, and there is room for it
pub record Next (mss : ℕ) (pool : List ℕ) (out : List ℕ) (at slot len : ℕ) : Type 0 where
  pub low : slot < 256
  pub from : slot * mss + len ≤ length pool
  pub to : at + len ≤ length out

module _ (mss : ℕ) (pool : List ℕ) (h : Held) (left : List Held) (goal out : List ℕ) (at : ℕ) (c : Copying mss pool (h ∷ left) goal out at)
  where
    copying_next : Next mss pool out at h.slot h.len
    unfolding length_of
    copying_next = record {
      low = c.inside.each.slots.0;
      from = in_slot mss h.slot h.len (length pool) c.inside.each.slots.0 c.inside.each.lengths.0 c.inside.whole;
      to = omega (arith, c.fits);
    }

    -- the segment's payload is stored
    copying_put : Copying mss pool left goal (sets out at (part pool (h.slot * mss) h.len)) (at + h.len)
    unfolding length_of joined_in
    copying_put =
        let long : length (part pool (h.slot * mss) h.len) ≡ h.len =
        length-take-le h.len (drop (h.slot * mss) pool) (rw length-drop (omega (arith, copying_next.from))) in
        record {
          inside = record {
            each = record { lengths = c.inside.each.lengths.1; slots = c.inside.each.slots.1 };
            whole = c.inside.whole;
          };
          fits = rw length-sets (omega (arith, c.fits));
          whole = rw (sets_append, long) at c.whole;
        }

-- the loop stands at index i
module _ (ws : List ℕ) {mss : ℕ} {pool : List ℕ} {i : ℕ} {goal out : List ℕ} {at : ℕ} (c : Copying mss pool (rest ws i) goal out at) where
  module _ (h : i < length ws) where
    pub copying_at : Next mss pool out at (unpack (get_or ws i 0)).slot (unpack (get_or ws i 0)).len
    copying_at = copying_next mss pool (unpack (get_or ws i 0)) (rest ws (i + 1)) goal out at (rw (rest_next ws i h) at c)

    pub copying_more : Copying mss pool (rest ws (i + 1)) goal
        (sets out at (part pool ((unpack (get_or ws i 0)).slot * mss) (unpack (get_or ws i 0)).len)) (at + (unpack (get_or ws i 0)).len)
    copying_more = copying_put mss pool (unpack (get_or ws i 0)) (rest ws (i + 1)) goal out at (rw (rest_next ws i h) at c)

  pub copying_end : length ws ≤ i → out ≡ goal
  unfolding joined_in
  copying_end h = rw (rest_end ws i h) at c.whole

-- ---- the message's segments are among those ready

all_take : {A : Type 0} (P : A → Type 0) (k : ℕ) (l : List A) → All P l → All P (take k l)
all_take P zero l a = tt
all_take P (suc k) [] a = tt
all_take P (suc k) (x ∷ l) a = (a.0, all_take P k l a.1)

pub in_pool_take : (mss : ℕ) (pool : List ℕ) (k : ℕ) (l : List Held) → InPool mss pool l → InPool mss pool (take k l)
in_pool_take mss pool k l i = record {
  each = record {
    lengths = all_take (λ (h : Held). h.len ≤ mss) k l i.each.lengths;
    slots = all_take (λ (h : Held). h.slot < 256) k l i.each.slots;
  };
  whole = i.whole;
}

-- the message is as long as its segments together
pub joined_length : (mss : ℕ) (pool : List ℕ) (l : List Held) → InPool mss pool l → length (joined_in mss pool l) ≡ length_of l
unfolding joined_in length_of
joined_length mss pool [] i = refl
joined_length mss pool (h ∷ l) i =
    let left : InPool mss pool l = record {
      each = record { lengths = i.each.lengths.1; slots = i.each.slots.1 };
      whole = i.whole;
    } in
    let first : length (part pool (h.slot * mss) h.len) ≡ h.len =
    length-take-le h.len (drop (h.slot * mss) pool)
    (rw length-drop (omega (
      arith,
      in_slot mss h.slot h.len (length pool) i.each.slots.0 i.each.lengths.0
          i.whole,
    ))) in
    rw (length-append, first, joined_length mss pool l left)
