-- Laws of a group whose shards are held or restored: which place is which, and the bytes of each.
-- Assumes nothing.
use Rattle.std.specs.Prelude.{◌≡◌, refl, Bool, true, false, cond, ◌||◌, Option, None, Some, is_some, eqb, ◌-◌, take, drop, slice_index_or}
use Rattle.std.proofs.lemmas.List.{get_or_default}
use Rattle.parity_scan.specs.declared.held.Span.{Span}
use Rattle.std.proofs.Math.Path.{sym, ap, ap₂}
use Rattle.std.proofs.Common.{◌∙◌, subst}
use Prim.Native.Nat.{ℕ, zero, suc, ◌+◌, ◌*◌, ◌≤◌, ◌<◌}
use native.Mathlib.Omega.{arith}
use borrow.Author.Tests.{eqb-true, eqb-false, ne_eqb, lt-ltb}
use Rattle.std.proofs.Math.ListN.{length, get_or}
use Rattle.wire.specs.LittleEndian.{number_at}
use Rattle.frames.specs.Lists.{other}
use Rattle.frames.specs.Reading.{has, solved, byte_at, len_at}
use Rattle.frames.specs.PlaceLaws.{count_three, other_none, other_some, Lost}
use Rattle.frames.specs.PartLaws.{part_bytes}
use Rattle.parity_scan.specs.Held.{span_at, span_size, at_in, size_in, shard_in, sized}
use Rattle.parity_scan.specs.HeldLaws.{length_shard_in, has_sized, sized_at}
use Rattle.parity_found.specs.declared.found.Group.{Group}
use Rattle.parity_restore.specs.Restored.{place}
use Rattle.parity_found.specs.Ready.{shards_in, byte_in, len_in, Ready, Whole}

-- the last place lost is the other one of each lost place before it
other_last : (h : ℕ → Bool) (i j n : ℕ) → n ≤ 12 → other h 12 n ≡ i → (i ≡ 12 → ⊥) → (j ≡ i → ⊥) → other h j n ≡ i
unfolding other
other_last h i j zero l e d f = absurd (d (sym e))
other_last h i j (suc n) l e d f = go (h n) refl (rw (ne_eqb n 12 (λ q. omega arith)) at e) (λ q. other_last h i j n (omega arith) q d f)
  where
    go : (b : Bool) → h n ≡ b → cond (b || false) (other h 12 n) n ≡ i → (other h 12 n ≡ i → other h j n ≡ i)
        → cond (b || eqb n j) (other h j n) n ≡ i
    go true q e ih = ih e
    go false q e ih = last (eqb n j) refl
      where
        last : (c : Bool) → eqb n j ≡ c → cond c (other h j n) n ≡ i
        last true r = absurd (f (sym (eqb-true n j r) ∙ e))
        last false r = e

module _ (g : Group) (r : Ready g) where
  -- ---- which places are lost

  held_is : has (shards_in g) ≡ sized g.held
  held_is = has_sized g.frames.bytes.now g.held r.inside

  -- the second is lost only where the first is
  second_later : ((place g.second) ≡ 12 → ⊥) → (place g.first) ≡ 12 → ⊥
  second_later d e = d (r.second ∙ ap (λ (i : ℕ). other (sized g.held) i g.shape.k) e ∙ sym r.first ∙ e)

  first_lost : ((place g.first) ≡ 12 → ⊥) → Lost (sized g.held) 12 g.shape.k (place g.first)
  first_lost d =
      subst (Lost (sized g.held) 12 g.shape.k) (sym r.first) (other_some (sized g.held) 12 g.shape.k (λ q. d (r.first ∙ q)))

  second_lost : ((place g.second) ≡ 12 → ⊥) → Lost (sized g.held) (place g.first) g.shape.k (place g.second)
  second_lost d =
      subst (Lost (sized g.held) (place g.first) g.shape.k) (sym r.second)
      (other_some (sized g.held) (place g.first) g.shape.k (λ q. d (r.second ∙ q)))

  -- all else is held
  pub else_held : (p : ℕ) → p < g.shape.k → (p ≡ (place g.first) → ⊥) → (p ≡ (place g.second) → ⊥) → sized g.held p ≡ true
  else_held p l d e = go (eqb (place g.second) 12) refl
    where
      go : (c : Bool) → eqb (place g.second) 12 ≡ c → sized g.held p ≡ true
      go true q =
          other_none (sized g.held) (place g.first) g.shape.k (omega (arith, g.shape.few)) (sym r.second ∙ eqb-true (place g.second) 12 q) p l d
      go false q = by_count (sized g.held p) refl
        where
          two : (place g.second) ≡ 12 → ⊥
          two = eqb-false (place g.second) 12 q

          by_count : (t : Bool) → sized g.held p ≡ t → t ≡ true
          by_count true z = refl
          by_count false z =
              let u = first_lost (second_later two) in
              let v = second_lost two in
              let n = count_three (sized g.held) (g.shape.k + 2) (place g.first) (place g.second) p (omega (arith, u.below)) (omega (arith, v.below))
              (omega arith)
              (λ x. v.apart (sym x)) (λ x. d (sym x)) (λ x. e (sym x)) u.none v.none z in
              absurd (omega (arith, n, r.enough))

  -- ---- the bytes of each place

  byte_held : (p x : ℕ) → sized g.held p ≡ true → byte_in g p x ≡ get_or (shards_in g p) x 0
  unfolding byte_at
  byte_held p x e = rw (ap (λ (t : ℕ → Bool). t p) held_is ∙ e)

  byte_lost : (p q x : ℕ) → sized g.held p ≡ false → other (sized g.held) p g.shape.k ≡ q
      → byte_in g p x ≡ solved g.shape.k (shards_in g) p q x
  unfolding byte_at
  byte_lost p q x e f =
      rw (ap (λ (t : ℕ → Bool). t p) held_is ∙ e)
      (ap (λ (j : ℕ). solved g.shape.k (shards_in g) p j x) (ap (λ (t : ℕ → Bool). other t p g.shape.k) held_is ∙ f))

  lost_12 : (p i : ℕ) → p < g.shape.k → p ≡ i → i ≡ 12 → ⊥
  lost_12 p i l e f = omega (arith, g.shape.few)

  pub whole_first : (p : ℕ) → p < g.shape.k → p ≡ (place g.first) → Whole g p g.a.now
  whole_first p l e =
      let d : (place g.first) ≡ 12 → ⊥ = lost_12 p (place g.first) l e in
      let w = r.restored.first d in
      record {
        small = r.restored.bytes_a;
        two = omega (arith, r.restored.size_a);
        byte = λ x m.
            w.byte x (omega (arith, r.restored.size_a))
            ∙ sym (ap (λ (q : ℕ). byte_in g q x) e ∙ byte_lost (place g.first) (place g.second) x (first_lost d).none (sym r.second));
        fits = λ m. omega (arith, r.restored.size_a);
      }

  pub whole_second : (p : ℕ) → p < g.shape.k → p ≡ (place g.second) → Whole g p g.b.now
  whole_second p l e =
      let d : (place g.second) ≡ 12 → ⊥ = lost_12 p (place g.second) l e in
      let f : (place g.first) ≡ 12 → ⊥ = second_later d in
      let w = r.restored.second f d in
      let back = other_last (sized g.held) (place g.first) (place g.second) g.shape.k (omega (arith, g.shape.few)) (sym r.first) f
      (second_lost d).apart in
      record {
        small = r.restored.bytes_b;
        two = omega (arith, r.restored.size_b);
        byte = λ x m.
            w.byte x (omega (arith, r.restored.size_b))
            ∙ sym (ap (λ (q : ℕ). byte_in g q x) e ∙ byte_lost (place g.second) (place g.first) x (second_lost d).none back);
        fits = λ m. omega (arith, r.restored.size_b);
      }

  len_held : (p : ℕ) → p < g.shape.k → sized g.held p ≡ true → len_in g p ≡ size_in g.held p
  unfolding len_at number_at
  len_held p l e =
      ap₂ (λ (x y : ℕ). x + 256 * y) (byte_held p 0 e) (byte_held p 1 e) ∙ flat (get_or (shards_in g p) 0 0)
      (get_or (shards_in g p) 1 0) ∙ r.len p l e
    where
      flat : (x y : ℕ) → x + 256 * y ≡ x + 256 * (y + 256 * 0)
      flat x y = omega arith

  pub whole_held : (p n : ℕ) → p < g.shape.k → (p ≡ (place g.first) → ⊥) → (p ≡ (place g.second) → ⊥) → n ≡ size_in g.held p →
      Whole g p (take n (drop (at_in g.held p) g.frames.bytes.now))
  unfolding shard_in
  whole_held p n l d e en =
      let t = else_held p l d e in
      let z : length (take n (drop (at_in g.held p) g.frames.bytes.now)) ≡ size_in g.held p =
      ap (λ (m : ℕ). length (take m (drop (at_in g.held p) g.frames.bytes.now))) en ∙ length_shard_in g.frames.bytes.now g.held r.inside p in
      record {
        small = part_bytes g.frames.bytes.now (at_in g.held p) n g.frames.small;
        two = omega (arith, z, r.long p t);
        byte = λ x m. ap (λ (q : ℕ). get_or (take q (drop (at_in g.held p) g.frames.bytes.now)) x 0) en ∙ sym (byte_held p x t);
        fits = λ m. omega (arith, z, len_held p l t);
      }

  pub whole_span : (p : ℕ) (x : Span) (d : Option Span) → slice_index_or g.held p d ≡ Some x → p < g.shape.k
      → (p ≡ place g.first → ⊥) → (p ≡ place g.second → ⊥) → Whole g p (take (x.at + x.size - x.at) (drop x.at g.frames.bytes.now))
  whole_span p x d f l e q =
      let z : slice_index_or g.held p None ≡ Some x = get_or_default g.held p None d (omega (arith, r.places, g.shape.few)) ∙ f in
      subst (λ (o : Option Span). Whole g p (take (x.at + x.size - x.at) (drop (span_at o) g.frames.bytes.now))) z
      (whole_held p (x.at + x.size - x.at) l e q (let y : x.at + x.size - x.at ≡ x.size = omega arith in y ∙ sym (ap span_size z)))

  pub held_there : (p : ℕ) (d : Option Span) → p < g.shape.k → (p ≡ place g.first → ⊥) → (p ≡ place g.second → ⊥)
      → is_some (slice_index_or g.held p d) ≡ true
  held_there p d l e q = sized_at g.held p d (omega (arith, r.places, g.shape.few)) ∙ else_held p l e q

  -- ---- a place of which something is held

  sized_by : (p n : ℕ) → 0 < n → n ≡ size_in g.held p → sized g.held p ≡ true
  unfolding sized
  sized_by p n pos e = lt-ltb 0 (size_in g.held p) (omega arith)

  not_lost : (p i : ℕ) → sized g.held p ≡ true → (i ≡ 12 → ⊥) → ((i ≡ 12 → ⊥) → sized g.held i ≡ false) → p ≡ i → ⊥
  not_lost p i t d f e = let z : ◌≡◌ {A = ℕ} 0 1 = cc (f d) in omega arith

  pub whole_sized : (p n : ℕ) → p < g.shape.k → 0 < n → n ≡ size_in g.held p → Whole g p (take n (drop (at_in g.held p) g.frames.bytes.now))
  whole_sized p n l pos en =
      let t = sized_by p n pos en in
      whole_held p n l
      (λ e. not_lost p (place g.first) t (lost_12 p (place g.first) l e) (λ d. (first_lost d).none) e)
      (λ e. not_lost p (place g.second) t (lost_12 p (place g.second) l e) (λ d. (second_lost d).none) e) en

  pub len_sized : (p n : ℕ) → p < g.shape.k → 0 < n → n ≡ size_in g.held p → n ≡ len_in g p
  len_sized p n l pos en = en ∙ sym (len_held p l (sized_by p n pos en))
