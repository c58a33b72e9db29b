-- The loop that places a message's payloads: what is still to be placed, placed from here, completes the whole.
-- Assumes nothing.
use mathlib.Core.Path.{◌≡◌, refl, sym, ◌∙◌}
use mathlib.Core.Bool.{Bool, cond}
use mathlib.Core.List.{List, ◌∷◌, ◌++◌, map}
use Prim.Native.Nat.{ℕ, suc, ◌+◌, ◌-◌, ◌*◌, ◌≤◌, ◌<◌}
use native.Mathlib.Omega.{arith}
use lib.ListN.{length, take, drop, set, length-map}
use lib.Seq.{sets}
use Rattle.std.proofs.lemmas.List.{take-map, map-set}
use Rattle.lists.specs.declared.Held.{Held}
use Rattle.lists.proofs.Loops.{Written, written_start, written_put, written_done}
use Rattle.session.specs.Slots.{lowest_free}
use Rattle.session.specs.Cutting.{pieces}
use Rattle.session.specs.Sending.{Placed, place}
use Rattle.words.specs.Words.{unpack, held_in}
use Rattle.marks.specs.Marks.{Free, next_free}
use Rattle.marks.proofs.Frees.{free_lowest_of, free_low_of, free_next}
use Rattle.enqueue.specs.Enqueueing.{Marked, Stored, Places}
use Rattle.enqueue.proofs.Payloads.{length_pieces, stored_rest}

-- ---- the loop

-- `goal` is what is to be placed in all, behind `front`. The marks are those of the slots held at first. n segments are in the array of
-- words, free slots are looked for from `from` on, and so many payloads of `rest` are left.
pub record Placing (stream : Bool) (m : ℕ) (marks : List ℕ) (goal : Placed) (front : List Held) (ws pool rest : List ℕ)
    (n from left : ℕ) : Type 0 where
  -- the slots held now
  pub now : List ℕ
  pub free : Free marks now from
  pub room : length now + left ≤ 128
  pub written : Written 128 (map unpack ws) (place stream m now pool (pieces m left rest)).segments (front ++ goal.segments) n
  pub pools : (place stream m now pool (pieces m left rest)).pool ≡ goal.pool

pub placing_start : {stream : Bool} {m : ℕ} {marks ws pool message : List ℕ} {n count : ℕ} (h : Marked marks (128 - count)) → count ≤ 128
    → length ws ≡ 128 → n ≤ 128
    → Placing stream m marks (place stream m h.now pool (pieces m count message)) (held_in ws n) ws pool message n 0 count
placing_start {stream = stream} {m = m} {ws = ws} {pool = pool} {message = message} {n = n} {count = count} h c e b =
    record {
      now = h.now;
      free = h.free;
      room = omega (arith, h.most);
      written = rw (take-map unpack n ws) at (written_start {l = map unpack ws}
          (place stream m h.now pool (pieces m count message)).segments n (length-map ws unpack ∙ e) b);
      pools = refl;
    }

module _ {stream : Bool} {m : ℕ} {marks : List ℕ} {goal : Placed} {front : List Held} {ws pool rest : List ℕ} {n from left : ℕ}
    (p : Placing stream m marks goal front ws pool rest n from left) where
  -- nothing is left
  pub placing_done : (before : List ℕ) (n₀ : ℕ) → front ≡ held_in before n₀ → left ≤ 0 → Places goal before n₀ ws n pool
  unfolding pieces place
  placing_done before n₀ f h =
      let e : left ≡ 0 = omega arith in
      let w = written_done (rw e) p.written in
      record {
        whole = sym (length-map ws unpack) ∙ p.written.whole;
        fits = w.fits;
        list = sym (take-map unpack n ws) ∙ w.list ∙ rw f refl;
        pool = rw e at p.pools;
      }

  -- the next slot
  module _ (some : 0 < left) where
    pub next_low : next_free marks from < 128
    next_low = free_low_of p.free 128 (omega arith) (omega (arith, p.room))

    module _ {slot : ℕ} (e : slot ≡ next_free marks from) where
      lowest : lowest_free p.now 128 ≡ slot
      lowest = sym (e ∙ free_lowest_of p.free 128 (omega arith) (omega (arith, p.room)))

      one : (k : ℕ) → left ≡ suc k → place stream m p.now pool (pieces m left rest) ≡ record {
        segments = record { slot = slot; len = length (take m rest); fragment = cond stream 0 k }
            ∷ (place stream m (slot ∷ p.now) (sets pool (slot * m) (take m rest)) (pieces m k (drop m rest))).segments;
        pool = (place stream m (slot ∷ p.now) (sets pool (slot * m) (take m rest)) (pieces m k (drop m rest))).pool;
      }
      unfolding pieces place
      one k q = rw (q, lowest, length_pieces m k (drop m rest))

      next : (word : ℕ) → unpack word ≡ record { slot = slot; len = length (take m rest); fragment = cond stream 0 (left - 1) } → n < 128
          → Placing stream m marks goal front (set ws n word) (sets pool (slot * m) (take m rest)) (drop m rest) (n + 1) (slot + 1)
          (left - 1)
      next word u h =
          let q = one (left - 1) (omega arith) in
          let low : slot < 128 = rw e next_low in
          record {
            now = slot ∷ p.now;
            free = free_next p.free slot e (omega arith) (slot ∷ p.now) (λ i. refl);
            room = omega (arith, p.room);
            written = rw (← u, ← map-set unpack ws n word) at (written_put h (rw q at p.written));
            pools = rw q at p.pools;
          }

-- a payload is stored in the next slot
pub placing_next : {stream : Bool} {m : ℕ} {marks : List ℕ} {goal : Placed} {front : List Held} {ws pool message pool' : List ℕ}
    {n left at from slot len : ℕ} (word : ℕ)
    → Placing stream m marks goal front ws pool (drop at message) n from left → 0 < left → slot ≡ next_free marks from → n < 128
    → Stored m message at slot pool len pool' → unpack word ≡ record { slot = slot; len = len; fragment = cond stream 0 (left - 1) }
    → Placing stream m marks goal front (set ws n word) pool' (drop (at + len) message) (n + 1) (slot + 1) (left - 1)
placing_next word p some e h s u = rw (stored_rest s, s.pool) (next p some e word (u ∙ rw s.size refl) h)

-- the same, counted another way
pub placing_as : {stream : Bool} {m : ℕ} {marks : List ℕ} {goal : Placed} {front : List Held} {ws pool rest : List ℕ} {n n' from left left' : ℕ}
    → n' ≡ n → left' ≡ left → Placing stream m marks goal front ws pool rest n from left
    → Placing stream m marks goal front ws pool rest n' from left'
placing_as e f p = rw (e, f) p
