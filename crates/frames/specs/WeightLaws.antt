-- Laws of weighed sums: from the last place to the first, each step doubles what the later places give.
-- Assumes nothing.
use Rattle.std.specs.Prelude.{◌≡◌, refl, List, length, get_or}
use Rattle.std.proofs.Common.{sym, ◌∙◌, add-zero, zero-add, ext_get_or, le-ltb}
use Rattle.std.proofs.Math.Path.{ap, ap₂}
use Prim.Native.Nat.{ℕ, zero, suc, ◌+◌, ◌-◌, ◌≤◌, ◌<◌}
use native.Mathlib.Omega.{arith}
use Rattle.galois.specs.Field.{plus, double, mul, doubled, power}
use Rattle.galois.specs.FieldLaws.{plus_comm, plus_assoc, plus_lt, double_plus, double_small, mul_lt, one-mul, double_mul, power_lt}
use Rattle.rows.specs.Rows.{Row, behind, stepped}
use Rattle.frames.specs.Lists.{listed, total}
use Rattle.frames.specs.Frames.{weight}
use Rattle.frames.specs.PlaceLaws.{length_listed, get_d_listed, total_same}

-- what the places from p to k - 1 give, p weighed as place 0
unfoldable pub tail : ℕ → (ℕ → ℕ) → ℕ → ℕ → ℕ
tail w f p k = total (λ q. mul (weight w q) (f (p + q))) (k - p)

-- ---- sums

total_first : (g : ℕ → ℕ) (n : ℕ) → total g (suc n) ≡ plus (total (λ q. g (suc q)) n) (g 0)
unfolding total
total_first g zero = refl
total_first g (suc n) =
    ap (λ (x : ℕ). plus x (g (suc n))) (total_first g n)
    ∙ plus_assoc (total (λ q. g (suc q)) n) (g 0) (g (suc n))
    ∙ ap (plus (total (λ q. g (suc q)) n)) (plus_comm (g 0) (g (suc n)))
    ∙ sym (plus_assoc (total (λ q. g (suc q)) n) (g (suc n)) (g 0))

total_lt : (g : ℕ → ℕ) → ((q : ℕ) → g q < 256) → (n : ℕ) → total g n < 256
unfolding total
total_lt g h zero = omega arith
total_lt g h (suc n) = plus_lt (total g n) (g n) (total_lt g h n) (h n)

total_double : (g : ℕ → ℕ) → ((q : ℕ) → g q < 256) → (n : ℕ) → double (total g n) ≡ total (λ q. double (g q)) n
unfolding total
total_double g h zero = double_small 0 (omega arith)
total_double g h (suc n) =
    double_plus (total g n) (g n) (total_lt g h n) (h n) ∙ ap (λ (x : ℕ). plus x (double (g n))) (total_double g h n)

-- ---- weights

-- the first place weighs 1
weight_first : (w x : ℕ) → mul (weight w 0) x ≡ x
unfolding weight power doubled
weight_first zero x = one-mul x
weight_first (suc w) x = one-mul x

power_next : (q : ℕ) → power (suc q) ≡ double (power q)
unfolding power doubled
power_next q = refl

-- each next one weighs a step more
weight_next : (w : ℕ) (f : ℕ → ℕ) → ((q : ℕ) → f q < 256) → (n : ℕ) →
    total (λ q. mul (weight w (suc q)) (f q)) n ≡ stepped w (total (λ q. mul (weight w q) (f q)) n)
unfolding weight stepped
weight_next zero f h n = refl
weight_next (suc w) f h n =
    total_same (λ q. mul (power (suc q)) (f q)) (λ q. double (mul (power q) (f q))) n
    (λ q l. ap (λ (g : ℕ). mul g (f q)) (power_next q) ∙ double_mul (power q) (f q) (power_lt q) (h q))
    ∙ sym (total_double (λ q. mul (power q) (f q)) (λ q. mul_lt (power q) (f q) (h q)) n)

-- ---- from the last place to the first

module _ (w : ℕ) (f : ℕ → ℕ) where
  pub tail_none : (k : ℕ) → tail w f k k ≡ 0
  unfolding tail total
  tail_none k = let e : k - k ≡ 0 = omega arith in rw e

  pub tail_all : (k : ℕ) → tail w f 0 k ≡ total (λ q. mul (weight w q) (f q)) k
  unfolding tail
  tail_all k =
      let e : k - 0 ≡ k = omega arith in
      ap (total (λ q. mul (weight w q) (f (0 + q)))) e
      ∙ total_same (λ q. mul (weight w q) (f (0 + q))) (λ q. mul (weight w q) (f q)) k
      (λ q l. ap (λ (x : ℕ). mul (weight w q) (f x)) (zero-add q))

  pub tail_next : ((q : ℕ) → f q < 256) → (p k : ℕ) → p < k → tail w f p k ≡ plus (stepped w (tail w f (p + 1) k)) (f p)
  unfolding tail
  tail_next h p k l =
      let e : k - p ≡ suc (k - (p + 1)) = omega arith in
      ap (total (λ q. mul (weight w q) (f (p + q)))) e
      ∙ total_first (λ q. mul (weight w q) (f (p + q))) (k - (p + 1))
      ∙ ap₂ plus
      (total_same (λ q. mul (weight w (suc q)) (f (p + suc q))) (λ q. mul (weight w (suc q)) (f (p + 1 + q))) (k - (p + 1))
      (λ q m. ap (λ (x : ℕ). mul (weight w (suc q)) (f x)) (shift q))
      ∙ weight_next w (λ q. f (p + 1 + q)) (λ q. h (p + 1 + q)) (k - (p + 1)))
      (weight_first w (f (p + 0)) ∙ ap f (add-zero p))
    where
      shift : (q : ℕ) → p + suc q ≡ p + 1 + q
      shift q = omega arith

-- ---- rows

-- a row is the list of its bytes
pub row_listed : (f : ℕ → ℕ) (n : ℕ) (row : List ℕ) → Row f n row → row ≡ listed f n
row_listed f n row r =
    ext_get_or 0 row (listed f n) (r.size ∙ sym (length_listed f n))
    (λ x l. r.byte x (rw r.size at l) ∙ sym (get_d_listed f n x 0 (rw r.size at l)))

pub row_same : (f g : ℕ → ℕ) (n : ℕ) (row : List ℕ) → ((x : ℕ) → x < n → f x ≡ g x) → Row f n row → Row g n row
row_same f g n row h r = record { size = r.size; byte = λ x l. r.byte x l ∙ h x l }

-- a list added from its first byte on
pub added_from_0 : (was l row : List ℕ) → Row (λ x. plus (get_or was x 0) (behind 0 l x)) (length was) row
    → Row (λ x. plus (get_or was x 0) (get_or l x 0)) (length was) row
unfolding behind
added_from_0 was l row r =
    record { size = r.size; byte = λ x m. r.byte x m ∙ (let e : x - 0 ≡ x = omega arith in rw (le-ltb x 0 (omega arith), e)) }

-- a row that goes from the last place to the first: byte x of what stands at place q is f x q
module _ (w : ℕ) (f : ℕ → ℕ → ℕ) (small : (x q : ℕ) → f x q < 256) (k : ℕ) where
  pub steps_none : (m n : ℕ) (row : List ℕ) → m ≡ n → Row (λ x. 0) m row → Row (λ x. tail w (f x) k k) n row
  steps_none m n row e r = record { size = r.size ∙ e; byte = λ x l. r.byte x (rw e l) ∙ sym (tail_none w (f x) k) }

  pub steps_next :
      (p q n : ℕ) (row row₁ row₂ : List ℕ) →
      p ≡ q + 1 →
      q < k →
      Row (λ x. tail w (f x) p k) n row →
      Row (λ x. stepped w (get_or row x 0)) (length row) row₁ →
      Row (λ x. plus (get_or row₁ x 0) (f x q)) (length row₁) row₂ →
      Row (λ x. tail w (f x) q k) n row₂
  steps_next p q n row row₁ row₂ ep l r r₁ r₂ =
      record {
        size = r₂.size ∙ r₁.size ∙ r.size;
        byte = λ x m.
            r₂.byte x (omega (arith, r₁.size, r.size))
            ∙ ap (λ (y : ℕ). plus y (f x q))
            (r₁.byte x (omega (arith, r.size)) ∙ ap (stepped w) (r.byte x m ∙ ap (λ (i : ℕ). tail w (f x) i k) ep))
            ∙ sym (tail_next w (f x) (small x) q k l);
      }

  pub steps_done : (p m n : ℕ) (row : List ℕ) → p ≤ 0 → m ≡ n → Row (λ x. tail w (f x) p k) m row
      → Row (λ x. total (λ q. mul (weight w q) (f x q)) k) n row
  steps_done p m n row l e r =
      let z : p ≡ 0 = omega arith in
      record { size = r.size ∙ e; byte = λ x i. r.byte x (rw e i) ∙ ap (λ (q : ℕ). tail w (f x) q k) z ∙ tail_all w (f x) k }
