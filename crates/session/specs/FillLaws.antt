-- Laws of filling, from any state: how many bytes are filled, and what stays.
-- Assumes nothing.
use Rattle.std.specs.Prelude.{◌≡◌, Bool, cond, length, take}
use Rattle.std.proofs.Math.Path.{refl}
use Rattle.std.proofs.Common.{sym, ap, ◌∙◌, true≢false, take-append-drop}
use Rattle.std.proofs.Math.Bool.{true, false}
use mathlib.Core.List.{List, [], ◌∷◌, ◌++◌}
use Prim.Native.Nat.{ℕ, ◌-◌, ◌<◌, min}
use native.Mathlib.Omega.{arith}
use borrow.Author.Tests.{ltb-false, lt-ltb, le-ltb}
use Rattle.std.proofs.Math.Dec.{ltb}
use Rattle.std.proofs.Math.ListN.{drop}
use Rattle.std.proofs.lemmas.List.{length-map}
use Rattle.std.proofs.Math.Seq.{length-sets}
use Rattle.lists.specs.declared.Held.{Held}
use Rattle.session.specs.State.{slots}
use Rattle.session.specs.Sending.{Filled, lengthened, fill_last, filled}

-- message mode fills nothing
pub fill_off : (stream : Bool) → stream ≡ false → (m : ℕ) (q : List Held) (pool b : List ℕ)
    → filled stream m q pool b ≡ record { queued = q; pool = pool; rest = b }
unfolding filled
fill_off false e m q pool b = refl
fill_off true e m q pool b = absurd (true≢false e)

-- what the last one is shorter than mss
abbrev pub last_room : ℕ → List Held → ℕ
last_room m [] = 0
last_room m (x ∷ l) = m - x.len

-- how many bytes the last queued segment can take in: none in message mode
unfoldable pub room_of : Bool → ℕ → List Held → ℕ
room_of stream m q = cond stream (last_room m (drop (length q - 1) q)) 0

module _ (m : ℕ) (q : List Held) (pool b : List ℕ) where
  -- what holds where nothing is filled, and where the last one is, holds of what filling gives
  pub filled_cases : (P : Filled → Type 0) → P (record { queued = q; pool = pool; rest = b })
      → ((x : Held) (l : List Held) → drop (length q - 1) q ≡ x ∷ l → P (lengthened m q x l (min (length b) (m - x.len)) pool b))
      → (stream : Bool) → P (filled stream m q pool b)
  unfolding filled
  filled_cases P same longer false = same
  filled_cases P same longer true = go (drop (length q - 1) q) refl
    where
      go : (l : List Held) → drop (length q - 1) q ≡ l → P (fill_last m q l pool b)
      go [] e = same
      go (x ∷ l) e = at (ltb x.len m)
        where
          at : (t : Bool) →
              P (cond t (lengthened m q x l (min (length b) (m - x.len)) pool b) (record { queued = q; pool = pool; rest = b }))
          at true = longer x l e
          at false = same

  -- the same slots, so no segment is added
  pub filled_slots : (stream : Bool) → slots (filled stream m q pool b).queued ≡ slots q
  filled_slots = filled_cases (λ (f : Filled). slots f.queued ≡ slots q) refl
      (λ x l e. split (take (length q - 1) q) x _ l ∙ ap slots (whole (x ∷ l) e))
    where
      whole : (l : List Held) → drop (length q - 1) q ≡ l → take (length q - 1) q ++ l ≡ q
      whole l e = ap (λ (l : List Held). take (length q - 1) q ++ l) (sym e) ∙ take-append-drop (length q - 1) q

      split : (a : List Held) (x : Held) (n : ℕ) (l : List Held)
          → slots (a ++ (record { slot = x.slot; len = n; fragment = 0 } ∷ l)) ≡ slots (a ++ (x ∷ l))
      split [] x n l = refl
      split (h ∷ a) x n l = ap {B = List ℕ} (λ (r : List ℕ). h.slot ∷ r) (split a x n l)

  pub filled_queue : (stream : Bool) → length (filled stream m q pool b).queued ≡ length q
  filled_queue stream = sym (length-map (filled stream m q pool b).queued (λ (h : Held). h.slot)) ∙ ap length
      (filled_slots stream) ∙ length-map q (λ (h : Held). h.slot)

  -- the pool keeps its length
  pub filled_length : (stream : Bool) → length (filled stream m q pool b).pool ≡ length pool
  filled_length = filled_cases (λ (f : Filled). length f.pool ≡ length pool) refl (λ x l e. simp length-sets)

  -- the bytes left are those behind the filled ones
  pub filled_rest : (stream : Bool) → (filled stream m q pool b).rest ≡ drop (min (length b) (room_of stream m q)) b
  unfolding filled room_of
  filled_rest false = let e : min (length b) 0 ≡ 0 = omega arith in rw e
  filled_rest true = go (drop (length q - 1) q)
    where
      go : (l : List Held) → (fill_last m q l pool b).rest ≡ drop (min (length b) (last_room m l)) b
      go [] = let e : min (length b) 0 ≡ 0 = omega arith in rw e
      go (x ∷ l) = at (ltb x.len m) refl
        where
          at : (t : Bool) → ltb x.len m ≡ t →
              (cond {A = Filled} t (lengthened m q x l (min (length b) (m - x.len)) pool b) (record { queued = q; pool = pool; rest = b })
              ).rest ≡ drop (min (length b) (m - x.len)) b
          at true e = refl
          at false e = let h = ltb-false x.len m e in let n : min (length b) (m - x.len) ≡ 0 = omega arith in rw n

  -- without room all stays
  pub filled_none : (stream : Bool) → room_of stream m q ≡ 0 → filled stream m q pool b ≡ record { queued = q; pool = pool; rest = b }
  unfolding filled room_of
  filled_none false e = refl
  filled_none true e = go (drop (length q - 1) q) e
    where
      go : (l : List Held) → last_room m l ≡ 0 → fill_last m q l pool b ≡ record { queued = q; pool = pool; rest = b }
      go [] e = refl
      go (x ∷ l) e = rw (le-ltb x.len m (omega arith))

  -- with room the last one is lengthened
  pub filled_some : (stream : Bool) (x : Held) (l : List Held) → drop (length q - 1) q ≡ x ∷ l → 0 < room_of stream m q
      → (room_of stream m q ≡ m - x.len) × (filled stream m q pool b ≡ lengthened m q x l (min (length b) (room_of stream m q)) pool b)
  unfolding filled room_of
  filled_some false x l e h = absurd (omega arith)
  filled_some true x l e h = rw e (go (rw e at h))
    where
      go : 0 < m - x.len →
          (m - x.len ≡ m - x.len) × (fill_last m q (x ∷ l) pool b ≡ lengthened m q x l (min (length b) (m - x.len)) pool b)
      go h = (refl, rw (lt-ltb x.len m (omega arith)))
