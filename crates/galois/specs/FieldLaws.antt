-- The laws of the field.
-- Assumes nothing.
use Rattle.std.specs.Prelude.{◌≡◌, refl, Bool, true, false, cond, ℕ, zero, suc, ◌+◌, ◌*◌, ◌/◌, ◌%◌, ◌-◌, ◌^◌, ◌≤◌, ◌<◌, ltb}
use Rattle.std.proofs.Common.{sym, ap, ap₂, ◌∙◌, subst, mod-lt, zero-lt-suc, zero-add, suc-add, arith, ltb-true, ltb-false, lt-ltb, le-ltb}
use Rattle.std.proofs.Math.Nat.{pow-succ'}
use Rattle.std.proofs.Math.Arith.{bin_ind}
use Rattle.std.specs.Int.Bits.{bit_xor, differ, xor_step, xor_self, xor_zero_r, xor_shifted}
use Rattle.std.proofs.lemmas.Nat.{xor_shr, xor_mod, xor_comm, xor_lt, xor_block}
use Rattle.galois.specs.Field.{plus, double, times, mul, doubled, power}

-- ---- sums

differ_assoc : (x y z : ℕ) → x < 2 → y < 2 → z < 2 → differ (differ x y) z ≡ differ x (differ y z)
differ_assoc zero y z hx hy hz = refl
differ_assoc (suc zero) zero z hx hy hz = refl
differ_assoc (suc zero) (suc zero) zero hx hy hz = refl
differ_assoc (suc zero) (suc zero) (suc zero) hx hy hz = refl
differ_assoc (suc (suc x)) y z hx hy hz = absurd (omega arith)
differ_assoc (suc zero) (suc (suc y)) z hx hy hz = absurd (omega arith)
differ_assoc (suc zero) (suc zero) (suc (suc z)) hx hy hz = absurd (omega arith)

differ_lt : (x y : ℕ) → x < 2 → y < 2 → differ x y < 2
differ_lt zero y hx hy = hy
differ_lt (suc zero) zero hx hy = hx
differ_lt (suc zero) (suc zero) hx hy = omega arith
differ_lt (suc (suc x)) y hx hy = absurd (omega arith)
differ_lt (suc zero) (suc (suc y)) hx hy = absurd (omega arith)

xor_half : (a b : ℕ) → bit_xor a b / 2 ≡ bit_xor (a / 2) (b / 2)
xor_half a b = xor_shr a b 1

low : (a : ℕ) → a % 2 < 2
low a = mod-lt a (zero-lt-suc 1)

xor_odd : (a b : ℕ) → bit_xor a b % 2 ≡ differ (a % 2) (b % 2)
xor_odd a b = ap (λ (x : ℕ). x % 2) (xor_step a b) ∙ last (bit_xor (a / 2) (b / 2)) (differ (a % 2) (b % 2))
    (differ_lt (a % 2) (b % 2) (low a) (low b))
  where
    last : (h d : ℕ) → d < 2 → (h * 2 + d) % 2 ≡ d
    last h d hd = omega arith

pub xor_assoc : (a b c : ℕ) → bit_xor (bit_xor a b) c ≡ bit_xor a (bit_xor b c)
xor_assoc =
    bin_ind (λ (n : ℕ). (b c : ℕ) → bit_xor (bit_xor n b) c ≡ bit_xor n (bit_xor b c)) (λ b c. refl)
    (λ n ih b c.
    xor_step (bit_xor n b) c
    ∙ ap₂ (λ (x y : ℕ). bit_xor x (c / 2) * 2 + differ y (c % 2)) (xor_half n b) (xor_odd n b)
    ∙ ap₂ (λ (x y : ℕ). x * 2 + y) (ih (b / 2) (c / 2)) (differ_assoc (n % 2) (b % 2) (c % 2) (low n) (low b) (low c))
    ∙ ap₂ (λ (x y : ℕ). bit_xor (n / 2) x * 2 + differ (n % 2) y) (sym (xor_half b c)) (sym (xor_odd b c))
    ∙ sym (xor_step n (bit_xor b c)))

odd : (a b : ℕ) → plus a b % 2 ≡ plus (a % 2) (b % 2)
unfolding plus
odd a b = xor_mod a b 1

pub plus_comm : (a b : ℕ) → plus a b ≡ plus b a
unfolding plus
plus_comm a b = xor_comm a b

pub plus_assoc : (a b c : ℕ) → plus (plus a b) c ≡ plus a (plus b c)
unfolding plus
plus_assoc a b c = xor_assoc a b c

pub plus_self : (a : ℕ) → plus a a ≡ 0
unfolding plus
plus_self a = xor_self a

pub zero_plus : (a : ℕ) → plus 0 a ≡ a
unfolding plus
zero_plus a = refl

pub plus_zero : (a : ℕ) → plus a 0 ≡ a
unfolding plus
plus_zero a = xor_zero_r a

pub plus_lt : (a b : ℕ) → a < 256 → b < 256 → plus a b < 256
unfolding plus
plus_lt a b ha hb = xor_lt 8 a b ha hb

-- what is added twice is gone
pub plus_twice : (a b : ℕ) → plus a (plus a b) ≡ b
plus_twice a b = sym (plus_assoc a a b) ∙ ap (λ (x : ℕ). plus x b) (plus_self a) ∙ zero_plus b

pub plus_swap : (a b c d : ℕ) → plus (plus a b) (plus c d) ≡ plus (plus a c) (plus b d)
plus_swap a b c d =
    plus_assoc a b (plus c d) ∙ ap (plus a) (sym (plus_assoc b c d) ∙ ap (λ (x : ℕ). plus x d) (plus_comm b c) ∙ plus_assoc c b d)
    ∙ sym (plus_assoc a c (plus b d))

-- ---- doubling

half_of_plus : (a b : ℕ) → plus a b / 2 ≡ plus (a / 2) (b / 2)
unfolding plus
half_of_plus a b = xor_half a b

twice_plus : (a b : ℕ) → 2 * plus a b ≡ plus (2 * a) (2 * b)
unfolding plus
twice_plus a b =
    let e : 2 * bit_xor a b ≡ bit_xor a b * 2 = omega arith in
    let f : a * 2 + 0 ≡ 2 * a = omega arith in
    let g : b * 2 + 0 ≡ 2 * b = omega arith in
    let h : bit_xor a b * 2 + 0 ≡ bit_xor a b * 2 = omega arith in
    e ∙ sym h ∙ sym (xor_block 1 a b 0 0 (omega arith) (omega arith)) ∙ ap₂ bit_xor f g

top_plus : (a b : ℕ) → plus a b / 128 ≡ plus (a / 128) (b / 128)
unfolding plus
top_plus a b = xor_shr a b 7

-- a bit, times c, over a sum of bits
bit_plus : (u v c : ℕ) → u < 2 → v < 2 → plus u v * c ≡ plus (u * c) (v * c)
unfolding plus
bit_plus zero v c hu hv = let e : 0 * c ≡ 0 = omega arith in sym (ap (λ (x : ℕ). bit_xor x (v * c)) e)
bit_plus (suc zero) zero c hu hv =
    let e : 0 * c ≡ 0 = omega arith in
    sym (ap (λ (x : ℕ). bit_xor (1 * c) x) e ∙ xor_zero_r (1 * c))
bit_plus (suc zero) (suc zero) c hu hv = let e : 0 * c ≡ 0 = omega arith in e ∙ sym (xor_self (1 * c))
bit_plus (suc (suc u)) v c hu hv = absurd (omega arith)
bit_plus (suc zero) (suc (suc v)) c hu hv = absurd (omega arith)

double_is : (x : ℕ) → x < 256 → double x ≡ plus (2 * x) (x / 128 * 285)
unfolding double
double_is x h = go (ltb x 128) refl
  where
    go : (b : Bool) → ltb x 128 ≡ b → cond b (2 * x) (plus (2 * x) 285) ≡ plus (2 * x) (x / 128 * 285)
    go true e =
        let l : x < 128 = ltb-true x 128 e in
        let z : x / 128 * 285 ≡ 0 = omega arith in
        rw z (sym (plus_zero (2 * x)))
    go false e =
        let l : 128 ≤ x = ltb-false x 128 e in
        let z : x / 128 * 285 ≡ 285 = omega arith in
        rw z refl

pub double_plus : (a b : ℕ) → a < 256 → b < 256 → double (plus a b) ≡ plus (double a) (double b)
double_plus a b ha hb =
    double_is (plus a b) (plus_lt a b ha hb)
    ∙ ap₂ plus (twice_plus a b) (ap (λ (x : ℕ). x * 285) (top_plus a b) ∙ bit_plus (a / 128) (b / 128) 285 (omega arith) (omega arith))
    ∙ plus_swap (2 * a) (2 * b) (a / 128 * 285) (b / 128 * 285)
    ∙ sym (ap₂ plus (double_is a ha) (double_is b hb))

pub double_small : (x : ℕ) → x < 128 → double x ≡ 2 * x
unfolding double
double_small x h = rw (lt-ltb x 128 h)

high_double : (r : ℕ) → r < 256 → plus (256 + r) 285 ≡ plus r 29
unfolding plus
high_double r h = ap (λ (x : ℕ). bit_xor x 285) e ∙ xor_block 8 1 1 r 29 h (omega arith) ∙ f
  where
    e : 256 + r ≡ 1 * 2 ^ 8 + r
    e = omega arith

    f : 0 + bit_xor r 29 ≡ bit_xor r 29
    f = omega arith

pub double_large : (x : ℕ) → 128 ≤ x → x < 256 → double x ≡ plus (2 * x - 256) 29
unfolding double
double_large x l h =
    let e : 2 * x ≡ 256 + (2 * x - 256) = omega arith in
    rw (le-ltb x 128 l) (ap (λ (y : ℕ). plus y 285) e ∙ high_double (2 * x - 256) (omega arith))

pub double_lt : (x : ℕ) → x < 256 → double x < 256
double_lt x h = go (ltb x 128) refl
  where
    go : (b : Bool) → ltb x 128 ≡ b → double x < 256
    go true e = let l : x < 128 = ltb-true x 128 e in rw (double_small x l) (omega arith)
    go false e =
        let l : 128 ≤ x = ltb-false x 128 e in
        rw (double_large x l h) (plus_lt (2 * x - 256) 29 (omega arith) (omega arith))

pub doubled_lt : (n x : ℕ) → x < 256 → doubled n x < 256
unfolding doubled
doubled_lt zero x h = h
doubled_lt (suc n) x h = double_lt (doubled n x) (doubled_lt n x h)

whole : (n : ℕ) → n < 256 → plus (double (n / 2)) (n % 2) ≡ n
unfolding plus
whole n h =
    let s : n / 2 < 128 = omega arith in
    let e : 2 * (n / 2) ≡ n / 2 * 2 ^ 1 = omega arith in
    let f : n / 2 * 2 ^ 1 + n % 2 ≡ n = omega arith in
    ap (λ (x : ℕ). bit_xor x (n % 2)) (double_small (n / 2) s ∙ e) ∙ xor_shifted (n / 2) 1 (n % 2) (low n) ∙ f

-- what holds of 0 and 1, and goes through doubling and sums, holds of each element
pub element : (P : ℕ → Type 0) → P 0 → P 1 → ((a : ℕ) → a < 256 → P a → P (double a))
    → ((a b : ℕ) → a < 256 → b < 256 → P a → P b → P (plus a b)) → (x : ℕ) → x < 256 → P x
element P p0 p1 pd pp =
    bin_ind (λ (n : ℕ). n < 256 → P n) (λ h. p0)
    (λ n ih h. subst P (whole n h) (pp (double (n / 2)) (n % 2) (double_lt (n / 2) (omega arith)) (omega arith)
    (pd (n / 2) (omega arith) (ih (omega arith))) (bit (n % 2) (low n))))
  where
    bit : (b : ℕ) → b < 2 → P b
    bit zero h = p0
    bit (suc zero) h = p1
    bit (suc (suc b)) h = absurd (omega arith)

-- ---- products

times_none : (n x : ℕ) → times n 0 x ≡ 0
unfolding times
times_none zero x = refl
times_none (suc n) x = let e : 0 * x ≡ 0 = omega arith in rw (e, times_none n (double x), zero_plus)

times_lt : (n a x : ℕ) → x < 256 → times n a x < 256
unfolding times
times_lt zero a x h = omega arith
times_lt (suc n) a x h = plus_lt (a % 2 * x) (times n (a / 2) (double x)) (bit (a % 2) (low a))
    (times_lt n (a / 2) (double x) (double_lt x h))
  where
    bit : (b : ℕ) → b < 2 → b * x < 256
    bit zero l = omega arith
    bit (suc zero) l = omega arith
    bit (suc (suc b)) l = absurd (omega arith)

times_plus_left : (n a b x : ℕ) → times n (plus a b) x ≡ plus (times n a x) (times n b x)
unfolding times
times_plus_left zero a b x = sym (zero_plus 0)
times_plus_left (suc n) a b x =
    ap₂ plus (ap (λ (y : ℕ). y * x) (odd a b) ∙ bit_plus (a % 2) (b % 2) x (low a) (low b))
    (ap (λ (y : ℕ). times n y (double x)) (half_of_plus a b) ∙ times_plus_left n (a / 2) (b / 2) (double x))
    ∙ plus_swap (a % 2 * x) (b % 2 * x) (times n (a / 2) (double x)) (times n (b / 2) (double x))

bit_right : (u x y : ℕ) → u < 2 → u * plus x y ≡ plus (u * x) (u * y)
bit_right zero x y h =
    let e : 0 * plus x y ≡ 0 = omega arith in
    let f : 0 * x ≡ 0 = omega arith in
    let g : 0 * y ≡ 0 = omega arith in
    e ∙ sym (ap₂ plus f g ∙ zero_plus 0)
bit_right (suc zero) x y h =
    let e : 1 * plus x y ≡ plus x y = omega arith in
    let f : 1 * x ≡ x = omega arith in
    let g : 1 * y ≡ y = omega arith in
    e ∙ sym (ap₂ plus f g)
bit_right (suc (suc u)) x y h = absurd (omega arith)

times_plus_right : (n a x y : ℕ) → x < 256 → y < 256 → times n a (plus x y) ≡ plus (times n a x) (times n a y)
unfolding times
times_plus_right zero a x y hx hy = sym (zero_plus 0)
times_plus_right (suc n) a x y hx hy =
    ap₂ plus (bit_right (a % 2) x y (low a))
    (ap (times n (a / 2)) (double_plus x y hx hy) ∙ times_plus_right n (a / 2) (double x) (double y) (double_lt x hx) (double_lt y hy))
    ∙ plus_swap (a % 2 * x) (a % 2 * y) (times n (a / 2) (double x)) (times n (a / 2) (double y))

bit_double : (u x : ℕ) → u < 2 → u * double x ≡ double (u * x)
bit_double zero x h =
    let e : 0 * double x ≡ 0 = omega arith in
    let f : 0 * x ≡ 0 = omega arith in
    e ∙ sym (ap double f ∙ double_small 0 (omega arith))
bit_double (suc zero) x h =
    let e : 1 * double x ≡ double x = omega arith in
    let f : 1 * x ≡ x = omega arith in
    e ∙ sym (ap double f)
bit_double (suc (suc u)) x h = absurd (omega arith)

bit_lt : (u x : ℕ) → u < 2 → x < 256 → u * x < 256
bit_lt zero x l h = omega arith
bit_lt (suc zero) x l h = omega arith
bit_lt (suc (suc b)) x l h = absurd (omega arith)

times_double : (n a x : ℕ) → x < 256 → times n a (double x) ≡ double (times n a x)
unfolding times
times_double zero a x h = sym (double_small 0 (omega arith))
times_double (suc n) a x h =
    ap₂ plus (bit_double (a % 2) x (low a)) (times_double n (a / 2) (double x) (double_lt x h))
    ∙ sym (double_plus (a % 2 * x) (times n (a / 2) (double x)) (bit_lt (a % 2) x (low a) h)
    (times_lt n (a / 2) (double x) (double_lt x h)))

-- a number of n bits has no more bits to go through
times_short : (n a x : ℕ) → a < 2 ^ n → times (suc n) a x ≡ times n a x
unfolding times
times_short zero a x h =
    let e : a ≡ 0 = omega arith in
    rw e (ap₂ plus (ap (λ (y : ℕ). y) (none x)) refl ∙ zero_plus 0)
  where
    none : (y : ℕ) → 0 * y ≡ 0
    none y = omega arith
times_short (suc n) a x h =
    ap (plus (a % 2 * x)) (times_short n (a / 2) (double x) (omega (arith, pow-succ' 2 n)))

-- 2 a times x, where 2 a is a byte
times_twice : (n a x : ℕ) → times (suc n) (2 * a) x ≡ times n a (double x)
unfolding times
times_twice n a x =
    let e : 2 * a % 2 * x ≡ 0 = none (2 * a % 2) (omega arith) in
    let f : 2 * a / 2 ≡ a = omega arith in
    rw (e, f) (zero_plus (times n a (double x)))
  where
    none : (y : ℕ) → y ≡ 0 → y * x ≡ 0
    none y e = ap (λ (z : ℕ). z * x) e ∙ nil x
      where
        nil : (y : ℕ) → 0 * y ≡ 0
        nil y = omega arith

pub mul_lt : (a x : ℕ) → x < 256 → mul a x < 256
unfolding mul
mul_lt a x h = times_lt 8 a x h

pub zero_mul : (x : ℕ) → mul 0 x ≡ 0
unfolding mul
zero_mul x = times_none 8 x

pub one-mul : (x : ℕ) → mul 1 x ≡ x
unfolding mul times
one-mul x =
    let e : 1 * x ≡ x = omega arith in
    ap₂ plus e (times_none 7 (double x)) ∙ plus_zero x

-- a product goes through sums on either side
pub mul_plus_left : (a b x : ℕ) → mul (plus a b) x ≡ plus (mul a x) (mul b x)
unfolding mul
mul_plus_left a b x = times_plus_left 8 a b x

pub mul_plus : (a x y : ℕ) → x < 256 → y < 256 → mul a (plus x y) ≡ plus (mul a x) (mul a y)
unfolding mul
mul_plus a x y hx hy = times_plus_right 8 a x y hx hy

pub mul_double : (a x : ℕ) → x < 256 → mul a (double x) ≡ double (mul a x)
unfolding mul
mul_double a x h = times_double 8 a x h

pub mul_zero : (a : ℕ) → mul a 0 ≡ 0
unfolding mul times
mul_zero a = none 8 a
  where
    none : (n a : ℕ) → times n a 0 ≡ 0
    none zero a = refl
    none (suc n) a = ap₂ plus (nil (a % 2)) (ap (times n (a / 2)) (double_small 0 (omega arith)) ∙ none n (a / 2)) ∙ zero_plus 0
      where
        nil : (y : ℕ) → y * 0 ≡ 0
        nil y = omega arith

-- 8 doublings are a product with 29, which is what the polynomial says
eight : (x : ℕ) → x < 256 → mul 29 x ≡ double (mul 128 x)
unfolding mul times double plus
eight = element (λ (x : ℕ). mul 29 x ≡ double (mul 128 x)) none one
    (λ a h e. mul_double 29 a h ∙ ap double e ∙ sym (ap double (mul_double 128 a h)))
    (λ a b ha hb ea eb.
    mul_plus 29 a b ha hb ∙ ap₂ plus ea eb
    ∙ sym (ap double (mul_plus 128 a b ha hb) ∙ double_plus (mul 128 a) (mul 128 b) (mul_lt 128 a ha) (mul_lt 128 b hb)))
  where
    none : mul 29 0 ≡ double (mul 128 0)
    none = mul_zero 29 ∙ sym (ap double (mul_zero 128) ∙ double_small 0 (omega arith))

    one : mul 29 1 ≡ double (mul 128 1)
    one = refl

small_double : (a x : ℕ) → a < 128 → x < 256 → mul (double a) x ≡ double (mul a x)
unfolding mul
small_double a x ha hx =
    ap (λ (y : ℕ). times 8 y x) (double_small a ha) ∙ times_twice 7 a x ∙ times_double 7 a x hx
    ∙ ap double (sym (times_short 7 a x ha))

with_top : (a : ℕ) → a < 128 → plus a 128 ≡ a + 128
unfolding plus
with_top a h = xor_comm a 128 ∙ xor_shifted 1 7 a h ∙ swap
  where
    swap : 1 * 2 ^ 7 + a ≡ a + 128
    swap = omega arith

pub double_mul : (a x : ℕ) → a < 256 → x < 256 → mul (double a) x ≡ double (mul a x)
double_mul a x ha hx = go (ltb a 128) refl
  where
    go : (b : Bool) → ltb a 128 ≡ b → mul (double a) x ≡ double (mul a x)
    go true e = small_double a x (ltb-true a 128 e) hx
    go false e =
        let l : 128 ≤ a = ltb-false a 128 e in
        let s : a - 128 < 128 = omega arith in
        let t : 2 * a - 256 ≡ 2 * (a - 128) = omega arith in
        ap (λ (y : ℕ). mul y x) (double_large a l ha ∙ ap (λ (y : ℕ). plus y 29) (t ∙ sym (double_small (a - 128) s)))
        ∙ mul_plus_left (double (a - 128)) 29 x
        ∙ ap₂ plus (small_double (a - 128) x s hx) (eight x hx)
        ∙ sym (double_plus (mul (a - 128) x) (mul 128 x) (mul_lt (a - 128) x hx) (mul_lt 128 x hx))
        ∙ ap double (sym (mul_plus_left (a - 128) 128 x) ∙ ap (λ (y : ℕ). mul y x) (with_top (a - 128) s ∙ omega arith))

pub mul_one : (a : ℕ) → a < 256 → mul a 1 ≡ a
mul_one = element (λ (a : ℕ). mul a 1 ≡ a) (zero_mul 1) (one-mul 1)
    (λ a h e. double_mul a 1 h (omega arith) ∙ ap double e)
    (λ a b ha hb ea eb. mul_plus_left a b 1 ∙ ap₂ plus ea eb)

pub mul_comm : (a b : ℕ) → a < 256 → b < 256 → mul a b ≡ mul b a
mul_comm a b ha hb = element (λ (a : ℕ). mul a b ≡ mul b a)
    (zero_mul b ∙ sym (mul_zero b))
    (one-mul b ∙ sym (mul_one b hb))
    (λ a h e. double_mul a b h hb ∙ ap double e ∙ sym (mul_double b a h))
    (λ x y hx hy ex ey. mul_plus_left x y b ∙ ap₂ plus ex ey ∙ sym (mul_plus b x y hx hy)) a ha

pub mul_assoc : (a b c : ℕ) → a < 256 → b < 256 → c < 256 → mul (mul a b) c ≡ mul a (mul b c)
mul_assoc a b c ha hb hc = element (λ (a : ℕ). mul (mul a b) c ≡ mul a (mul b c))
    (ap (λ (y : ℕ). mul y c) (zero_mul b) ∙ zero_mul c ∙ sym (zero_mul (mul b c)))
    (ap (λ (y : ℕ). mul y c) (one-mul b) ∙ sym (one-mul (mul b c)))
    (λ a h e.
    ap (λ (y : ℕ). mul y c) (double_mul a b h hb) ∙ double_mul (mul a b) c (mul_lt a b hb) hc ∙ ap double e
    ∙ sym (double_mul a (mul b c) h (mul_lt b c hc)))
    (λ x y hx hy ex ey.
    ap (λ (z : ℕ). mul z c) (mul_plus_left x y b) ∙ mul_plus_left (mul x b) (mul y b) c ∙ ap₂ plus ex ey
    ∙ sym (mul_plus_left x y (mul b c))) a ha

-- ---- powers of 2

pub doubled_add : (m n x : ℕ) → doubled (m + n) x ≡ doubled m (doubled n x)
unfolding doubled
doubled_add zero n x = rw zero-add
doubled_add (suc m) n x = rw suc-add (ap double (doubled_add m n x))

pub power_lt : (n : ℕ) → power n < 256
unfolding power
power_lt n = doubled_lt n 1 (omega arith)

-- a product with 2 to the power n doubles n times
pub power_mul : (n x : ℕ) → x < 256 → mul (power n) x ≡ doubled n x
unfolding power doubled
power_mul zero x h = one-mul x
power_mul (suc n) x h = double_mul (doubled n 1) x (doubled_lt n 1 (omega arith)) h ∙ ap double (power_mul n x h)

pub power_of_sum : (m n : ℕ) → power (m + n) ≡ doubled m (power n)
unfolding power
power_of_sum m n = doubled_add m n 1

pub power_add : (m n : ℕ) → mul (power m) (power n) ≡ power (m + n)
power_add m n = power_mul m (power n) (power_lt n) ∙ sym (power_of_sum m n)

-- 255 doublings change nothing
round : power 255 ≡ 1
unfolding power doubled double plus
round = refl

is_power : (m : ℕ) → doubled m 1 ≡ power m
unfolding power
is_power m = refl

pub power_round : (m : ℕ) → power (m + 255) ≡ power m
power_round m = power_of_sum m 255 ∙ ap (doubled m) round ∙ is_power m

pub power_rounds : (r q : ℕ) → power (r + q * 255) ≡ power r
power_rounds r zero = let e : r + 0 * 255 ≡ r = omega arith in ap power e
power_rounds r (suc q) =
    let e : r + suc q * 255 ≡ r + q * 255 + 255 = omega arith in
    ap power e ∙ power_round (r + q * 255) ∙ power_rounds r q

pub power_mod : (n : ℕ) → power (n % 255) ≡ power n
power_mod n =
    let e : n % 255 + n / 255 * 255 ≡ n = omega arith in
    sym (power_rounds (n % 255) (n / 255)) ∙ ap power e
