-- The rule of the two tables, computed once over all entries; products and inverses by powers.
-- Assumes nothing.
use Rattle.std.specs.Prelude.{◌≡◌, refl, Bool, true, false, cond, List, [], ◌∷◌, ℕ, zero, suc, ◌+◌, ◌*◌, ◌-◌, ◌%◌, ◌<◌, T, eqb, ltb, length, get_or}
use Rattle.std.proofs.Common.{sym, ap, ap₂, ◌∙◌, subst, add-zero, zero-add, add-suc, suc-add, le_of_suc-le-suc, not-suc-le-zero, suc-mul, arith, eqb→eq, ltb→lt}
use Rattle.galois.specs.Field.{plus, double, doubled, power, mul, raised, inverse, LogOf}
use Rattle.galois.specs.FieldLaws.{power_mod, power_add, power_rounds, mul_assoc, one-mul, mul_lt, zero_mul}
use Rattle.galois.specs.Tables.{powers, logs}

-- ---- the power table: each entry is twice the one before it

ladder : ℕ → ℕ → List ℕ
ladder zero x = []
ladder (suc n) x = x ∷ ladder n (double x)

climbed : powers ≡ ladder 255 1
unfolding powers ladder double plus
climbed = refl

doubled_first : (n x : ℕ) → doubled n (double x) ≡ double (doubled n x)
unfolding doubled
doubled_first zero x = refl
doubled_first (suc n) x = ap double (doubled_first n x)

rung : (n i x : ℕ) → i < n → get_or (ladder n x) i 0 ≡ doubled i x
unfolding ladder doubled
rung zero i x h = absurd (not-suc-le-zero h)
rung (suc n) zero x h = refl
rung (suc n) (suc i) x h = rung n i (double x) (le_of_suc-le-suc h) ∙ doubled_first i x

pub power_entry : (n : ℕ) → n < 255 → get_or powers n 0 ≡ power n
unfolding power
power_entry n h = ap (λ (l : List ℕ). get_or l n 0) climbed ∙ rung 255 n 1 h

-- ---- the logarithm table: a test that is computed at each entry

-- the test f passes at each entry of the list and its place, counted from i
every : (ℕ → ℕ → Bool) → ℕ → List ℕ → Bool
every f i [] = true
every f i (x ∷ xs) = cond (f i x) (every f (suc i) xs) false

both_left : (a b : Bool) → T (cond a b false) → T a
both_left true b t = tt
both_left false b t = t

both_right : (a b : Bool) → T (cond a b false) → T b
both_right true b t = t
both_right false b t = absurd t

from : (f : ℕ → ℕ → Bool) (xs : List ℕ) (i : ℕ) → T (every f i xs) → (k : ℕ) → k < length xs → T (f (i + k) (get_or xs k 0))
unfolding every
from f [] i t k h = absurd (not-suc-le-zero h)
from f (x ∷ xs) i t zero h = subst (λ (m : ℕ). T (f m x)) (sym (add-zero i)) (both_left (f i x) (every f (suc i) xs) t)
from f (x ∷ xs) i t (suc k) h =
    subst (λ (m : ℕ). T (f m (get_or xs k 0))) (suc-add i k ∙ sym (add-suc i k))
    (from f xs (suc i) (both_right (f i x) (every f (suc i) xs) t) k (le_of_suc-le-suc h))

right : ℕ → ℕ → Bool
right zero n = true
right (suc a) n = cond (ltb n 255) (eqb (get_or powers n 0) (suc a)) false

all_right : T (every right 0 logs)
unfolding every right logs powers
all_right = tt

size : length logs ≡ 256
unfolding logs
size = refl

carry : (b n : ℕ) → T (right (suc b) n) → (n < 255) × (power n ≡ suc b)
unfolding right
carry b n t =
    let l : n < 255 = ltb→lt n 255 (both_left (ltb n 255) (eqb (get_or powers n 0) (suc b)) t) in
    (l, sym (power_entry n l) ∙ eqb→eq (get_or powers n 0) (suc b) (both_right (ltb n 255) (eqb (get_or powers n 0) (suc b)) t))

-- each entry of the logarithm table
pub log_entry : (a : ℕ) → a < 256 → LogOf a (get_or logs a 0)
unfolding logs
log_entry zero l = record { below = omega arith; is = λ h. absurd (omega arith) }
log_entry (suc a) l =
    let t : T (right (0 + suc a) (get_or logs (suc a) 0)) = from right logs 0 all_right (suc a) (rw size l) in
    let c : (get_or logs (suc a) 0 < 255) × (power (get_or logs (suc a) 0) ≡ suc a) = carry a (get_or logs (suc a) 0) (rw zero-add at t) in
    record { below = c.0; is = λ h. c.1 }

-- ---- powers of 2 below 255 differ, and none is 0

-- the logarithm of 2 to the power n is n
undo : ℕ → ℕ → Bool
undo n x = cond (ltb 0 x) (eqb (get_or logs x 0) n) false

all_undone : T (every undo 0 powers)
unfolding every undo logs powers
all_undone = tt

powers_size : length powers ≡ 255
unfolding powers
powers_size = refl

undone : (n : ℕ) → n < 255 → (0 < power n) × (get_or logs (power n) 0 ≡ n)
unfolding undo
undone n h =
    let t : T (undo n (get_or powers n 0)) = (rw zero-add at (from undo powers 0 all_undone n (rw powers_size h))) in
    let e : get_or powers n 0 ≡ power n = power_entry n h in
    rw (← e) (
      ltb→lt 0 (get_or powers n 0) (both_left (ltb 0 (get_or powers n 0)) (eqb (get_or logs (get_or powers n 0) 0) n) t),
      eqb→eq (get_or logs (get_or powers n 0) 0) n (both_right (ltb 0 (get_or powers n 0)) (eqb (get_or logs (get_or powers n 0) 0) n) t),
    )

pub power_positive : (n : ℕ) → n < 255 → 0 < power n
power_positive n h = (undone n h).0

pub power_differs : (m n : ℕ) → m < 255 → n < 255 → power m ≡ power n → m ≡ n
power_differs m n hm hn e = sym (undone m hm).1 ∙ ap (λ (x : ℕ). get_or logs x 0) e ∙ (undone n hn).1

-- ---- products and inverses by powers

pub product_of : (a b m n : ℕ) → LogOf a m → LogOf b n → 0 < a → 0 < b → power (m + n) ≡ mul a b
product_of a b m n la lb pa pb = sym (power_add m n) ∙ ap₂ mul (la.is pa) (lb.is pb)

start : 1 ≡ power 0
unfolding power doubled
start = refl

raised_lt : (a n : ℕ) → a < 256 → raised a n < 256
unfolding raised
raised_lt a zero h = omega arith
raised_lt a (suc n) h = mul_lt a (raised a n) (raised_lt a n h)

raised_power : (m n : ℕ) → raised (power m) n ≡ power (n * m)
unfolding raised
raised_power m zero = let e : 0 ≡ 0 * m = omega arith in start ∙ ap power e
raised_power m (suc n) =
    let e : m + n * m ≡ suc n * m = omega (arith, suc-mul n m) in
    ap (mul (power m)) (raised_power m n) ∙ power_add m (n * m) ∙ ap power e

pub inverse_of : (a m : ℕ) → LogOf a m → 0 < a → power (255 - m) ≡ inverse a
unfolding inverse
inverse_of a m la pa =
    let h : m < 255 = la.below in
    let e : (255 - m) % 255 ≡ 254 * m % 255 = omega arith in
    sym (power_mod (255 - m)) ∙ ap power e ∙ power_mod (254 * m) ∙ sym (raised_power m 254) ∙ ap (λ (x : ℕ). raised x 254) (la.is pa)

pub inverse_zero : inverse 0 ≡ 0
unfolding inverse raised
inverse_zero = zero_mul (raised 0 253)

pub inverse_lt : (a : ℕ) → a < 256 → inverse a < 256
unfolding inverse
inverse_lt a h = raised_lt a 254 h

pub inverse_mul : (a : ℕ) → 0 < a → a < 256 → mul (inverse a) a ≡ 1
inverse_mul a pa ha =
    let la : LogOf a (get_or logs a 0) = log_entry a ha in
    let h : get_or logs a 0 < 255 = la.below in
    let e : 255 - get_or logs a 0 + get_or logs a 0 ≡ 0 + 1 * 255 = omega arith in
    ap₂ mul (sym (inverse_of a (get_or logs a 0) la pa)) (sym (la.is pa))
    ∙ power_add (255 - get_or logs a 0) (get_or logs a 0) ∙ ap power e ∙ power_rounds 0 1 ∙ sym start

-- what was multiplied with an element other than 0 comes back
pub undo_mul : (a x : ℕ) → 0 < a → a < 256 → x < 256 → mul (inverse a) (mul a x) ≡ x
undo_mul a x pa ha hx =
    sym (mul_assoc (inverse a) a x (inverse_lt a ha) ha hx) ∙ ap (λ (y : ℕ). mul y x) (inverse_mul a pa ha) ∙ one-mul x
