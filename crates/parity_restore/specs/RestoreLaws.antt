-- Steps of restoring what is lost.
-- Assumes nothing.
use Rattle.std.specs.Prelude.{◌≡◌, refl, Bool, true, false, cond, not, ◌||◌, Option, None, Some, is_some, List, ℕ, zero, suc, ◌+◌, ◌-◌, ◌≤◌, ◌<◌, eqb, length, get_or, slice_index_or, take, drop}
use Rattle.std.proofs.Common.{sym, ◌∙◌, subst, add-one, arith, eqb-true, eq-eqb, ne_eqb}
use Rattle.std.specs.Option.{option_eq}
use Rattle.std.proofs.lemmas.Bool.{eqb-false}
use Rattle.std.proofs.lemmas.List.{get_or_default}
use Rattle.parity_scan.specs.declared.held.Span.{Span}
use Rattle.parity_restore.specs.Restored.{place, lost}
use Rattle.std.proofs.Math.Path.{ap, ap₂}
use Rattle.wire.specs.LittleEndian.{AllBytes}
use Rattle.galois.specs.Field.{plus, mul, power, inverse}
use Rattle.galois.specs.FieldLaws.{plus_zero, plus_comm, plus_assoc, plus_twice, plus_lt, mul_lt, mul_plus, mul_plus_left, power_lt}
use Rattle.galois.proofs.TableLaws.{power_differs, undo_mul}
use Rattle.rows.specs.Rows.{Row, behind, stepped}
use Rattle.frames.specs.Lists.{total, other}
use Rattle.frames.specs.Frames.{weight}
use Rattle.frames.specs.Reading.{rest, solved}
use Rattle.frames.specs.PartLaws.{part_bytes}
use Rattle.frames.specs.PlaceLaws.{other_some}
use Rattle.frames.specs.WeightLaws.{tail, added_from_0, steps_none, steps_next, steps_done}
use Rattle.parity_scan.specs.Held.{Held, at_in, size_in, shard_in, sized, Inside}
use Rattle.parity_scan.specs.HeldLaws.{has_sized, sized_at}

-- ---- the rest of a parity, from the last place to the first

-- byte x of the shard held at place q
abbrev pub held_byte : List ℕ → Held → ℕ → ℕ → ℕ
held_byte s h x q = get_or (shard_in s h q) x 0

-- a row of another name of its length, or of the other place
pub row_sized : (f : ℕ → ℕ) (m n : ℕ) (row : List ℕ) → m ≡ n → Row f m row → Row f n row
row_sized f m n row e r = record { size = r.size ∙ e; byte = λ x l. r.byte x (rw e l) }

pub row_only : (k : ℕ) (shards : ℕ → List ℕ) (i j n : ℕ) (row : List ℕ) → j ≡ 12 → Row (solved k shards i 12) n row
    → Row (solved k shards i j) n row
row_only k shards i j n row e r = record { size = r.size; byte = λ x l. r.byte x l ∙ ap (λ (q : ℕ). solved k shards i q x) (sym e) }

module _ (w : ℕ) (s : List ℕ) (h : Held) (bytes : AllBytes s) where
  small : (x q : ℕ) → held_byte s h x q < 256
  unfolding shard_in
  small x q = part_bytes s (at_in h q) (size_in h q) bytes x

  pub rest_none : (k n : ℕ) (row : List ℕ) → Row (λ x. 0) n row → Row (λ x. tail w (held_byte s h x) k k) (length row) row
  rest_none k n row r = steps_none w (held_byte s h) small k n (length row) row (sym r.size) r

  pub rest_next :
      (k p q n : ℕ) (row row₁ row₂ : List ℕ) →
      p ≡ q + 1 →
      q < k →
      Row (λ x. tail w (held_byte s h x) p k) n row →
      Row (λ x. stepped w (get_or row x 0)) (length row) row₁ →
      Row (λ x. plus (get_or row₁ x 0) (held_byte s h x q)) (length row₁) row₂ →
      Row (λ x. tail w (held_byte s h x) q k) n row₂
  rest_next = steps_next w (held_byte s h) small

  pub rest_done :
      (k p m n : ℕ) (row row₁ : List ℕ) →
      p ≤ 0 →
      m ≡ n →
      Row (λ x. tail w (held_byte s h x) p k) m row →
      Row (λ x. plus (get_or row x 0) (held_byte s h x (k + w))) (length row) row₁ →
      Row (rest w k (shard_in s h)) n row₁
  unfolding rest
  rest_done k p m n row row₁ l e r r₁ =
      let d = steps_done w (held_byte s h) small k p m n row l e r in
      record {
        size = r₁.size ∙ d.size;
        byte = λ x i.
            r₁.byte x (omega (arith, d.size))
            ∙ plus_comm (get_or row x 0) (held_byte s h x (k + w))
            ∙ ap (plus (held_byte s h x (k + w))) (d.byte x i);
      }

-- ---- a shard that is held, or none

module _ (s : List ℕ) (h : Held) (p : ℕ) (d : Option Span) (row : List ℕ) (l : p < length h) where
  pub held_added : (x : Span) (row₁ : List ℕ) → slice_index_or h p d ≡ Some x
      → Row (λ y. plus (get_or row y 0) (behind 0 (take (x.at + x.size - x.at) (drop x.at s)) y)) (length row) row₁
      → Row (λ y. plus (get_or row y 0) (get_or (shard_in s h p) y 0)) (length row) row₁
  unfolding shard_in
  held_added x row₁ e r =
      let z : x.at + x.size - x.at ≡ x.size = omega arith in
      rw (get_or_default h p None d l, e) (added_from_0 row (take x.size (drop x.at s)) row₁ (rw z at r))

  pub none_added : slice_index_or h p d ≡ None → Row (λ y. plus (get_or row y 0) (get_or (shard_in s h p) y 0)) (length row) row
  unfolding shard_in
  none_added e = record { size = refl; byte = λ y m. rw (get_or_default h p None d l, e) (sym (plus_zero (get_or row y 0))) }

-- ---- the other place that is lost

pub other_passed : (h : ℕ → Bool) (i p : ℕ) → (h p || eqb p i) ≡ true → other h i (p + 1) ≡ other h i p
unfolding other
other_passed h i p e = rw (add-one, e)

pub other_found : (h : ℕ → Bool) (i p : ℕ) → (h p || eqb p i) ≡ false → other h i (p + 1) ≡ p
unfolding other
other_found h i p e = rw (add-one, e)

-- a place that was lost, and is found to be
pub lost_some : (p n : ℕ) → Some p ≡ lost n → (p ≡ n) × (n ≡ 12 → ⊥)
lost_some p n e = go (eqb n 12) refl e
  where
    go : (b : Bool) → eqb n 12 ≡ b → Some p ≡ cond b None (Some n) → (p ≡ n) × (n ≡ 12 → ⊥)
    go true q f = absurd (cc)
    go false q f = (cc, eqb-false n 12 q)

pub place_lost : (o : Option ℕ) (n : ℕ) → o ≡ lost n → place o ≡ n
place_lost None n e = go (eqb n 12) refl e
  where
    go : (b : Bool) → eqb n 12 ≡ b → None ≡ cond b None (Some n) → 12 ≡ n
    go true q f = sym (eqb-true n 12 q)
    go false q f = absurd (cc)
place_lost (Some p) n e = (lost_some p n e).0

pub lost_is : (t p : ℕ) → t ≡ p → p < 12 → Some p ≡ lost t
lost_is t p e l = rw (e, ne_eqb p 12 (λ q. omega arith))

pub lost_none : (h : ℕ → Bool) (i t p : ℕ) → t ≡ other h i p → p ≤ 0 → None ≡ lost t
unfolding other
lost_none h i t zero e l = rw e
lost_none h i t (suc p) e l = absurd (omega arith)

same_place : (o : Option ℕ) (p : ℕ) → p < 12 → option_eq eqb o (Some p) ≡ eqb p (place o)
same_place None p l = sym (ne_eqb p 12 (λ q. omega arith))
same_place (Some q) p l = go (eqb q p) refl
  where
    go : (b : Bool) → eqb q p ≡ b → eqb q p ≡ eqb p q
    go true e = e ∙ sym (eq-eqb p q (sym (eqb-true q p e)))
    go false e = e ∙ sym (ne_eqb p q (λ f. eqb-false q p e (sym f)))

-- whether p is the place o
pub is_place : (o : Option ℕ) (p : ℕ) → p < 12 → true ≡ option_eq eqb o (Some p) → p ≡ place o
is_place o p l e = eqb-true p (place o) (sym (same_place o p l) ∙ sym e)

pub not_place : (o : Option ℕ) (p : ℕ) → p < 12 → false ≡ option_eq eqb o (Some p) → p ≡ place o → ⊥
not_place o p l e = eqb-false p (place o) (sym (same_place o p l) ∙ sym e)

false_of : (b : Bool) → true ≡ not b → b ≡ false
false_of true e = cc
false_of false e = refl

true_of : (b : Bool) → false ≡ not b → b ≡ true
true_of true e = refl
true_of false e = cc

-- place p - 1, as it is tested
module _ (h : Held) (i : Option ℕ) (p : ℕ) (d : Option Span) (pos : 0 < p) (l : p ≤ 10) (z : length h ≡ 12) where
  here : is_some (slice_index_or h (p - 1) d) ≡ sized h (p - 1)
  here = sized_at h (p - 1) d (omega arith)

  there : option_eq eqb i (Some (p - 1)) ≡ eqb (p - 1) (place i)
  there = same_place i (p - 1) (omega arith)

  back : p - 1 + 1 ≡ p
  back = omega arith

  pub found_here : is_some (slice_index_or h (p - 1) d) ≡ false → true ≡ not (option_eq eqb i (Some (p - 1)))
      → other (sized h) (place i) p ≡ p - 1
  found_here a b = subst (λ (q : ℕ). other (sized h) (place i) q ≡ p - 1) back
      (other_found (sized h) (place i) (p - 1) (rw (← here, a, ← there) (false_of _ b)))

  pub passed_held : is_some (slice_index_or h (p - 1) d) ≡ true → other (sized h) (place i) p ≡ other (sized h) (place i) (p - 1)
  passed_held a = subst (λ (q : ℕ). other (sized h) (place i) q ≡ other (sized h) (place i) (p - 1)) back
      (other_passed (sized h) (place i) (p - 1) (rw (← here, a)))

  pub passed_other : is_some (slice_index_or h (p - 1) d) ≡ false → false ≡ not (option_eq eqb i (Some (p - 1)))
      → other (sized h) (place i) p ≡ other (sized h) (place i) (p - 1)
  passed_other a b = subst (λ (q : ℕ). other (sized h) (place i) q ≡ other (sized h) (place i) (p - 1)) back
      (other_passed (sized h) (place i) (p - 1) (rw (← here, a, ← there) (true_of _ b)))

-- ---- one lost

module _ (s : List ℕ) (h : Held) (inside : Inside s h) where
  pub solved_first : (k i n : ℕ) (row : List ℕ) → sized h k ≡ true → Row (rest 0 k (shard_in s h)) n row →
      Row (solved k (shard_in s h) i 12) n row
  unfolding solved
  solved_first k i n row e r = record { size = r.size; byte = λ x m. rw (ap (λ (t : ℕ → Bool). t k) (has_sized s h inside) ∙ e) (r.byte x m) }

  pub solved_second :
      (k i n c d : ℕ) (row row₁ : List ℕ) →
      sized h k ≡ false →
      c ≡ power i →
      d ≡ inverse c →
      Row (rest 1 k (shard_in s h)) n row →
      Row (λ x. mul d (get_or row x 0)) (length row) row₁ →
      Row (solved k (shard_in s h) i 12) n row₁
  unfolding solved
  solved_second k i n c d row row₁ e ec ed r r₁ =
      record {
        size = r₁.size ∙ r.size;
        byte = λ x m.
            rw (ap (λ (t : ℕ → Bool). t k) (has_sized s h inside) ∙ e)
            (r₁.byte x (omega (arith, r.size)) ∙ ap₂ mul (ed ∙ ap inverse ec) (r.byte x m));
      }

-- ---- two lost

-- weights of two places differ
apart : (i j : ℕ) → i < 10 → j < 10 → (i ≡ j → ⊥) → 0 < plus (power i) (power j)
apart i j li lj d = positive (plus (power i) (power j)) (λ e. d (power_differs i j (omega arith) (omega arith) (equal e)))
  where
    equal : plus (power i) (power j) ≡ 0 → power i ≡ power j
    equal e = sym (plus_zero (power i)) ∙ ap (plus (power i)) (sym e) ∙ plus_twice (power i) (power j)

    positive : (n : ℕ) → (n ≡ 0 → ⊥) → 0 < n
    positive zero d = absurd (d refl)
    positive (suc n) d = omega arith

-- p + (q + g p) / (f + g) = (q + f p) / (f + g)
turned : (f g p q : ℕ) → f < 256 → g < 256 → p < 256 → q < 256 → 0 < plus f g →
    plus p (mul (inverse (plus f g)) (plus q (mul g p))) ≡ mul (inverse (plus g f)) (plus q (mul f p))
turned f g p q hf hg hp hq pos =
    ap (λ (y : ℕ). plus y (mul (inverse (plus f g)) (plus q (mul g p)))) (sym (undo_mul (plus f g) p pos (plus_lt f g hf hg) hp))
    ∙ sym (mul_plus (inverse (plus f g)) (mul (plus f g) p) (plus q (mul g p)) (mul_lt (plus f g) p hp)
    (plus_lt q (mul g p) hq (mul_lt g p hp)))
    ∙ ap₂ (λ (u v : ℕ). mul (inverse u) v) (plus_comm f g) inner
  where
    inner : plus (mul (plus f g) p) (plus q (mul g p)) ≡ plus q (mul f p)
    inner =
        ap (λ (y : ℕ). plus y (plus q (mul g p))) (mul_plus_left f g p)
        ∙ ap (plus (plus (mul f p) (mul g p))) (plus_comm q (mul g p))
        ∙ plus_assoc (mul f p) (mul g p) (plus (mul g p) q)
        ∙ ap (plus (mul f p)) (plus_twice (mul g p) q)
        ∙ plus_comm (mul f p) q

module _ (k : ℕ) (shards : ℕ → List ℕ) (i j n f g u d : ℕ) (li : i < 10) (lj : j < 10) (differ : i ≡ j → ⊥)
    (ef : f ≡ power i) (eg : g ≡ power j) (eu : u ≡ plus f g) (ed : d ≡ inverse u) where
  far : eqb j 12 ≡ false
  far = ne_eqb j 12 (λ q. omega arith)

  near : eqb i 12 ≡ false
  near = ne_eqb i 12 (λ q. omega arith)

  pub both_first :
      (a b a₁ a₂ : List ℕ) →
      Row (rest 1 k shards) n a →
      Row (rest 0 k shards) n b →
      Row (λ x. plus (get_or a x 0) (mul g (get_or b x 0))) (length a) a₁ →
      Row (λ x. mul d (get_or a₁ x 0)) (length a₁) a₂ →
      Row (solved k shards i j) n a₂
  unfolding solved
  both_first a b a₁ a₂ ra rb r₁ r₂ =
      record {
        size = r₂.size ∙ r₁.size ∙ ra.size;
        byte = λ x m.
            rw far
            (r₂.byte x (omega (arith, r₁.size, ra.size))
            ∙ ap₂ mul (ed ∙ ap inverse (eu ∙ ap₂ plus ef eg))
            (r₁.byte x (omega (arith, ra.size)) ∙ ap₂ plus (ra.byte x m) (ap₂ mul eg (rb.byte x m))));
      }

  pub both_second :
      (a b b₁ : List ℕ) →
      ((w x : ℕ) → rest w k shards x < 256) →
      Row (rest 0 k shards) n b →
      Row (solved k shards i j) n a →
      Row (λ x. plus (get_or b x 0) (behind 0 a x)) (length b) b₁ →
      Row (solved k shards j i) n b₁
  unfolding solved
  both_second a b b₁ small rb ra sum =
      let r₁ = added_from_0 b a b₁ sum in
      record {
        size = r₁.size ∙ rb.size;
        byte = λ x m.
            rw near
            (r₁.byte x (omega (arith, rb.size)) ∙ ap₂ plus (rb.byte x m) (ra.byte x m ∙ rw far refl)
            ∙ turned (power i) (power j) (rest 0 k shards x) (rest 1 k shards x) (power_lt i) (power_lt j) (small 0 x) (small 1 x)
            (apart i j li lj differ));
      }

-- the rest of a parity is a byte
pub rest_small : (k : ℕ) (s : List ℕ) (h : Held) → AllBytes s → (w x : ℕ) → rest w k (shard_in s h) x < 256
unfolding rest total
rest_small k s h bytes w x =
    plus_lt (held_byte s h x (k + w)) (total (λ p. mul (weight w p) (held_byte s h x p)) k) (small w s h bytes x (k + w)) (sum k)
  where
    sum : (m : ℕ) → total (λ p. mul (weight w p) (held_byte s h x p)) m < 256
    sum zero = omega arith
    sum (suc m) = plus_lt (total (λ p. mul (weight w p) (held_byte s h x p)) m) (mul (weight w m) (held_byte s h x m)) (sum m)
        (mul_lt (weight w m) (held_byte s h x m) (small w s h bytes x m))

-- ---- which places are lost

-- a place that the search finds is below 10
pub other_lt : (h : ℕ → Bool) (i k : ℕ) → k ≤ 10 → (other h i k ≡ 12 → ⊥) → other h i k < 10
other_lt h i k l d = omega (arith, (other_some h i k d).below)

pub other_apart : (h : ℕ → Bool) (i k : ℕ) → (other h i k ≡ 12 → ⊥) → other h i k ≡ i → ⊥
other_apart h i k d = (other_some h i k d).apart
