-- The tests of `Serial` as tests on the unsigned difference, which `omega` reads.
-- Assumes nothing.
use Rattle.std.specs.Prelude.{◌≡◌, ℕ, suc, ◌-◌, ◌^◌, ◌<◌, ◌≤◌, ◌&&◌, pos, negsuc, int_le, int_lt, nat_le, nat_lt}
use Rattle.std.proofs.Math.Decide.{dec_lt}
use Rattle.std.proofs.Common.{arith, lt-ltb, le-ltb, le-leb}
use Rattle.std.proofs.lemmas.Bool.{lt-leb}
use Rattle.protocol.specs.Serial.{minus, signed, is_before, is_after, is_due}

pub signed_low : (x : ℕ) → x < 2 ^ 31 → signed x ≡ pos x
unfolding signed
signed_low x h = rw (lt-ltb _ _ h)

pub signed_high : (x : ℕ) → 2 ^ 31 ≤ x → signed x ≡ negsuc (2 ^ 32 - suc x)
unfolding signed
signed_high x h = rw (le-ltb _ _ h)

-- negative: 2^31 or more
pub before_test : (a b : ℕ) → is_before a b ≡ nat_le (2 ^ 31) (minus a b)
unfolding is_before
before_test a b = go (minus a b) (dec_lt (minus a b) (2 ^ 31))
  where
    go : (x : ℕ) → Dec (x < 2 ^ 31) → int_lt (signed x) (pos 0) ≡ nat_le (2 ^ 31) x
    go x (yes h) = rw (signed_low x h, lt-leb _ _ h, le-ltb x 0 (omega arith))
    go x (no h) = rw (signed_high x (omega arith), le-leb (2 ^ 31) x (omega arith))

-- 0 or more: below 2^31
pub due_test : (t d : ℕ) → is_due t d ≡ nat_lt (minus t d) (2 ^ 31)
unfolding is_due
due_test t d = go (minus t d) (dec_lt (minus t d) (2 ^ 31))
  where
    go : (x : ℕ) → Dec (x < 2 ^ 31) → int_le (pos 0) (signed x) ≡ nat_lt x (2 ^ 31)
    go x (yes h) = rw (signed_low x h, lt-ltb _ _ h, le-leb 0 x (omega arith))
    go x (no h) = rw (signed_high x (omega arith), le-ltb x (2 ^ 31) (omega arith))

-- positive: not 0, and below 2^31
pub after_test : (a b : ℕ) → is_after a b ≡ (nat_lt 0 (minus a b) && nat_lt (minus a b) (2 ^ 31))
unfolding is_after
after_test a b = go (minus a b) (dec_lt (minus a b) (2 ^ 31)) (dec_lt 0 (minus a b))
  where
    go : (x : ℕ) → Dec (x < 2 ^ 31) → Dec (0 < x) → int_lt (pos 0) (signed x) ≡ (nat_lt 0 x && nat_lt x (2 ^ 31))
    go x (yes h) (yes p) = rw (signed_low x h, lt-ltb x (2 ^ 31) h, lt-ltb 0 x p)
    go x (yes h) (no p) = rw (signed_low x h, lt-ltb x (2 ^ 31) h, le-ltb 0 x (omega arith))
    go x (no h) p = rw (signed_high x (omega arith), le-ltb x (2 ^ 31) (omega arith), lt-ltb 0 x (omega arith))
