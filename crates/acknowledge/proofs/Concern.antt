-- A segment whose una is not ahead, and that names no outstanding number, acknowledges none.
-- Assumes nothing.
use mathlib.Core.Path.{◌≡◌, refl, sym, ◌∙◌}
use mathlib.Core.Logic.{◌⊎◌, inl, inr, ⊎_elim}
use mathlib.Core.Bool.{Bool, true, false, not, ◌&&◌, ◌||◌, true≢false, and-false}
use Prim.Native.Nat.{ℕ, ◌+◌, ◌^◌, ◌≤◌, ◌<◌}
use native.Mathlib.Decide.{dec_lt}
use native.Mathlib.Omega.{arith}
use borrow.Author.Tests.{lt-ltb, le-ltb, ne_eqb, ltb-false, leb-false}
use lib.Dec.{leb, ltb, eqb}
use Rattle.protocol.specs.Protocol.{ack, send_window}
use Rattle.protocol.specs.Serial.{minus, is_after}
use Rattle.protocol.specs.SerialLaws.{after_test}
use Rattle.wire.specs.declared.Header.{Header}
use Rattle.acknowledge.specs.Hearing.{Concerns}

-- where not one of two tests holds neither does
either : (a b : Bool) → (a || b) ≡ false → (a ≡ false) × (b ≡ false)
either false b e = (refl, e)
either true b e = absurd (true≢false e)

-- where two tests do not both hold one fails
fails : (a b : Bool) → (a && b) ≡ false → (a ≡ false) ⊎ (b ≡ false)
fails false b e = inl refl
fails true b e = inr e

-- the way from una over n, where n is not past x
by_way : (x n una : ℕ) → x < 2 ^ 32 → n < 2 ^ 32 → una < 2 ^ 32 → minus n una ≤ minus x una → minus x n + minus n una ≡ minus x una
by_way x n una a b c h = omega arith

-- one that is not ahead of una is after no number from una on, less than half way round
behind : (x n una : ℕ) → x < 2 ^ 32 → n < 2 ^ 32 → una < 2 ^ 32 → minus n una ≤ send_window → minus x una ≡ 0
    → (ltb 0 (minus x n) && ltb (minus x n) (2 ^ 31)) ≡ false
behind x n una a b c h e = go (dec_lt (minus x n) (2 ^ 31)) (dec_lt 0 (minus x n))
  where
    go : Dec (minus x n < 2 ^ 31) → Dec (0 < minus x n) → (ltb 0 (minus x n) && ltb (minus x n) (2 ^ 31)) ≡ false
    go (no k) l = rw (le-ltb (minus x n) (2 ^ 31) (omega arith)) (and-false (ltb 0 (minus x n)))
    go (yes k) (no l) = rw (le-ltb 0 (minus x n) (omega arith))
    go (yes k) (yes l) = absurd (omega arith)

-- x is ahead of next by p, and of n by q, where n is before next: half way round from next is more than that from n
past : (p q : ℕ) → p < q → (not (ltb 0 p && ltb p (2 ^ 31)) && (ltb 0 q && ltb q (2 ^ 31))) ≡ false ⊎ (p ≡ 0)
past p q h = go (dec_lt 0 p) (dec_lt p (2 ^ 31)) (dec_lt q (2 ^ 31))
  where
    go : Dec (0 < p) → Dec (p < 2 ^ 31) → Dec (q < 2 ^ 31)
        → ((not (ltb 0 p && ltb p (2 ^ 31)) && (ltb 0 q && ltb q (2 ^ 31))) ≡ false) ⊎ (p ≡ 0)
    go (no a) b c = inr (omega arith)
    go (yes a) (yes b) c = inl (rw (lt-ltb 0 p a, lt-ltb p (2 ^ 31) b))
    go (yes a) (no b) c = inl (rw (le-ltb q (2 ^ 31) (omega arith), lt-ltb 0 q (omega arith)) (and-false (not (ltb 0 p && ltb p (2 ^ 31)))))

ahead : (p d x : ℕ) → p + d ≡ x → d < x → p ≡ 0 → ⊥
ahead p d x e h z = omega arith

less : {p d q k x : ℕ} → p + d ≡ x → q + k ≡ x → k < d → p < q
less e f h = omega arith

module _ (una next n : ℕ) (una32 : una < 2 ^ 32) (next32 : next < 2 ^ 32) (n32 : n < 2 ^ 32)
    (apart : minus next una ≤ send_window) (near : minus n una < minus next una) where
  -- a una that is not from behind una up to next is after next, or not after n
  not_after : (x : ℕ) → x < 2 ^ 32 → (ltb 0 (minus x una) && leb (minus x una) (minus next una)) ≡ false
      → (not (is_after x next) && is_after x n) ≡ false
  not_after x x32 e = rw (after_test x next, after_test x n) (go (fails (ltb 0 (minus x una)) (leb (minus x una) (minus next una)) e))
    where
      go : (ltb 0 (minus x una) ≡ false) ⊎ (leb (minus x una) (minus next una) ≡ false)
          → (not (ltb 0 (minus x next) && ltb (minus x next) (2 ^ 31)) && (ltb 0 (minus x n) && ltb (minus x n) (2 ^ 31))) ≡ false
      go (inl f) = rw (behind x n una x32 n32 una32 (omega arith) (omega (arith, ltb-false 0 (minus x una) f)))
          (and-false (not (ltb 0 (minus x next) && ltb (minus x next) (2 ^ 31))))
      go (inr f) =
          let h : minus next una < minus x una = leb-false (minus x una) (minus next una) f in
          let p = by_way x next una x32 next32 una32 (omega arith) in
          let q = by_way x n una x32 n32 una32 (omega arith) in
          ⊎_elim (λ r. r) (λ r. absurd (ahead (minus x next) (minus next una) (minus x una) p h r))
          (past (minus x next) (minus x n) (less p q near))

  -- an ack that names none of them
  not_named : (x : ℕ) (b : Bool) → (b && ltb (minus x una) (minus next una)) ≡ false → (b && eqb n x) ≡ false
  not_named x false e = refl
  not_named x true e = ne_eqb n x (λ q. let f = rw (← q) at e in omega (arith, ltb-false (minus n una) (minus next una) f))

neither : (a b : Bool) → a ≡ false → b ≡ false → not (a || b) ≡ true
neither a b e f = rw (e, f)

pub concerns_is : (h : Header) (una next : ℕ) (r : Bool) → una < 2 ^ 32 → next < 2 ^ 32 → h.una < 2 ^ 32
    → r ≡ (ltb 0 (minus h.una una) && leb (minus h.una una) (minus next una)
    || (eqb h.cmd ack && ltb (minus h.sn una) (minus next una)))
    → Concerns h una next r
concerns_is h una next r una32 next32 h32 e = record {
  none = λ f apart n n32 near.
      let p = either _ _ (sym e ∙ f) in
      neither _ _ (not_after una next n una32 next32 n32 apart near h.una h32 p.0)
      (not_named una next n una32 next32 n32 apart near h.sn (eqb h.cmd ack) p.1);
}
