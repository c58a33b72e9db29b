-- Sequence numbers and times: 32-bit numbers that wrap. Definitions.
-- Assumes nothing.
use Rattle.std.specs.Prelude.{ℕ, suc, ◌+◌, ◌-◌, ◌%◌, ◌^◌, Bool, cond, ℤ, pos, negsuc, int_le, int_lt, nat_lt}

-- a + b, modulo 2^32
abbrev pub plus : ℕ → ℕ → ℕ
plus a b = (a + b) % 2 ^ 32

-- a - b, modulo 2^32
abbrev pub minus : ℕ → ℕ → ℕ
minus a b = (a + (2 ^ 32 - b)) % 2 ^ 32

-- a number below 2^32 read as signed, -2^31 to 2^31 - 1: from 2^31 on it is the number less 2^32 (`negsuc n` is -1 - n)
unfoldable pub signed : ℕ → ℤ
signed x = cond (nat_lt x (2 ^ 31)) (pos x) (negsuc (2 ^ 32 - suc x))

-- a is before b: a - b is negative
unfoldable pub is_before : ℕ → ℕ → Bool
is_before a b = int_lt (signed (minus a b)) (pos 0)

-- a is after b: a - b is positive
unfoldable pub is_after : ℕ → ℕ → Bool
is_after a b = int_lt (pos 0) (signed (minus a b))

-- a time d is due at t: t - d is 0 or more
unfoldable pub is_due : ℕ → ℕ → Bool
is_due t d = int_le (pos 0) (signed (minus t d))
