-- Waiting numbers ascend exactly where each is 1 to 127 after the one before, and the first and the last are less than 128 after the number
-- expected: there are at most 128, so that no sum of such steps goes round.
-- Assumes nothing.
use mathlib.Core.Path.{◌≡◌, refl, sym, ap, ◌∙◌}
use mathlib.Core.Bool.{Bool, true, false, not, ◌&&◌}
use mathlib.Core.List.{List, [], ◌∷◌}
use Prim.Native.Nat.{ℕ, suc, ◌+◌, ◌-◌, ◌*◌, ◌^◌, ◌≤◌, ◌<◌}
use native.Mathlib.Omega.{arith}
use borrow.Author.Tests.{lt-ltb, ltb-true, le-leb, leb-true, ne_eqb}
use lib.Dec.{leb, ltb, eqb}
use lib.ListN.{length, get_or}
use Rattle.protocol.specs.Serial.{minus}
use Rattle.lists.specs.Orders.{ascending, waiting_offset}
use Rattle.lists.specs.Receiving.{starts_at}
use Rattle.session.specs.Decides.{and_parts}
use Rattle.session.specs.Ascending.{Ascends, ascends_decides}
use Rattle.words.specs.Words.{paired, waiting_at}
use Rattle.checking.specs.Tests.{ahead, follows, neighbours, ahead_fits}

-- two tests that pass together are one
pub same : (a b : Bool) → (a ≡ true → b ≡ true) → (b ≡ true → a ≡ true) → a ≡ b
same true b f g = sym (f refl)
same false true f g = g refl
same false false f g = refl

pub both : (a b : Bool) → a ≡ true → b ≡ true → (a && b) ≡ true
both a b e f = rw (e, f) refl

-- the last of a list that begins with x
abbrev last : ℕ → List ℕ → ℕ
last x [] = x
last x (y ∷ l) = last y l

module _ (base : ℕ) (fits : base < 2 ^ 32) where
  abbrev pub off : ℕ → ℕ
  off x = minus x base

  -- y is d after x
  up : (x y : ℕ) → off x + ahead x y < 2 ^ 32 → off y ≡ off x + ahead x y
  up x y h = omega arith

  down : (x y : ℕ) → off x ≤ off y → ahead x y + off x ≡ off y
  down x y h = omega arith

  record Near (x y : ℕ) : Type 0 where
    least : 1 ≤ ahead x y
    most : ahead x y ≤ 127

  near : (x y : ℕ) → follows x y ≡ true → Near x y
  near x y e = let p = and_parts (leb 1 (ahead x y)) (leb (ahead x y) 127) e in
      record { least = leb-true _ _ p.0; most = leb-true _ _ p.1 }

  climbs : (x : ℕ) (l : List ℕ) → neighbours (x ∷ l) ≡ true → off x + 127 * length l < 2 ^ 32 → off x ≤ off (last x l)
  unfolding neighbours
  climbs x [] e h = omega arith
  climbs x (y ∷ l) e h =
      let p = and_parts (follows x y) (neighbours (y ∷ l)) e in
      let n = near x y p.0 in
      let u = up x y (omega (arith, n.most)) in
      let ih = climbs y l p.1 (omega (arith, n.most, u)) in
      omega (arith, n.least, u, ih)

  ascends : (least limit x : ℕ) (l : List ℕ) → neighbours (x ∷ l) ≡ true → off x + 127 * length l < 2 ^ 32 → least ≤ off x
      → off (last x l) < limit → Ascends off least limit (x ∷ l)
  unfolding neighbours
  ascends least limit x [] e h a b = (a, b, tt)
  ascends least limit x (y ∷ l) e h a b =
      let p = and_parts (follows x y) (neighbours (y ∷ l)) e in
      let n = near x y p.0 in
      let u = up x y (omega (arith, n.most)) in
      let m : off y + 127 * length l < 2 ^ 32 = omega (arith, n.most, u) in
      (a, omega (arith, n.least, u, climbs y l p.1 m), ascends (off x + 1) limit y l p.1 m (omega (arith, n.least, u)) b)

  stepwise : (least limit x : ℕ) (l : List ℕ) → limit ≤ 128 → Ascends off least limit (x ∷ l)
      → (neighbours (x ∷ l) ≡ true) × (off (last x l) < limit)
  unfolding neighbours
  stepwise least limit x [] h a = (refl, a.1)
  stepwise least limit x (y ∷ l) h a =
      let d = down x y (omega (arith, a.2.0)) in
      let ih = stepwise (off x + 1) limit y l h a.2 in (
        both (follows x y) (neighbours (y ∷ l)) (both _ _ (le-leb 1 (ahead x y) (omega (arith, a.2.0, d)))
            (le-leb (ahead x y) 127 (omega (arith, a.2.1, d)))) ih.0,
        ih.1,
      )

  ends_ascending : (x : ℕ) (l : List ℕ) → length l ≤ 127
      → (ltb (off x) 128 && ltb (off (last x l)) 128 && neighbours (x ∷ l)) ≡ ascending off 0 128 (x ∷ l)
  ends_ascending x l h = same _ _ there back
    where
      there : (ltb (off x) 128 && ltb (off (last x l)) 128 && neighbours (x ∷ l)) ≡ true → ascending off 0 128 (x ∷ l) ≡ true
      there e =
          let p = and_parts (ltb (off x) 128 && ltb (off (last x l)) 128) (neighbours (x ∷ l)) e in
          let q = and_parts (ltb (off x) 128) (ltb (off (last x l)) 128) p.0 in
          (ascends_decides off 0 128 (x ∷ l)).passes
          (ascends 0 128 x l p.1 (omega (arith, ltb-true (off x) 128 q.0)) (omega arith) (ltb-true _ _ q.1))

      back : ascending off 0 128 (x ∷ l) ≡ true → (ltb (off x) 128 && ltb (off (last x l)) 128 && neighbours (x ∷ l)) ≡ true
      back e =
          let a = (ascends_decides off 0 128 (x ∷ l)).holds e in
          let s = stepwise 0 128 x l (omega arith) a in
          both _ _ (both _ _ (lt-ltb _ _ a.1) (lt-ltb _ _ s.1)) s.0

  -- does the list begin with the number expected?
  abbrev pub begins : List ℕ → Bool
  begins [] = false
  begins (x ∷ l) = eqb (off x) 0

  last_at : (x : ℕ) (l : List ℕ) → get_or (x ∷ l) (length l) 0 ≡ last x l
  last_at x [] = refl
  last_at x (y ∷ l) = last_at y l

  pub ahead_ascending : (ready : ℕ) (numbers : List ℕ) → length numbers ≤ 128
      → ahead_fits base ready numbers ≡ (ascending off 0 128 numbers && not (begins numbers && ltb ready 128))
  unfolding ascending
  ahead_ascending ready [] h = refl
  ahead_ascending ready (x ∷ l) h =
      let q : suc (length l) - 1 ≡ length l = omega arith in
      let z : eqb (suc (length l)) 0 ≡ false = ne_eqb (suc (length l)) 0 (λ e. omega arith) in
      rw (z, q, last_at x l) (swap (ltb (off x) 128 && ltb (off (last x l)) 128)
      (not (eqb (off x) 0 && ltb ready 128)) (neighbours (x ∷ l)) ∙ ap (λ (b : Bool). b && not (eqb (off x) 0 && ltb ready 128))
      (ends_ascending x l (omega arith)))
    where
      swap : (a b c : Bool) → (a && b && c) ≡ (a && c && b)
      swap true true true = refl
      swap true true false = refl
      swap true false true = refl
      swap true false false = refl
      swap false b c = refl

-- ---- of segments that wait, words and numbers side by side

pub paired_ascending : (base least limit : ℕ) (ws ns : List ℕ) → length ws ≡ length ns
    → ascending (waiting_offset base) least limit (paired waiting_at ws ns) ≡ ascending (λ (x : ℕ). minus x base) least limit ns
unfolding ascending paired
paired_ascending base least limit [] [] e = refl
paired_ascending base least limit [] (n ∷ ns) e = absurd (omega arith)
paired_ascending base least limit (w ∷ ws) [] e = absurd (omega arith)
paired_ascending base least limit (w ∷ ws) (n ∷ ns) e =
    ap (λ (b : Bool). leb least (minus n base) && ltb (minus n base) limit && b)
    (paired_ascending base (minus n base + 1) limit ws ns (omega arith))

pub paired_starts : (base : ℕ) (fits : base < 2 ^ 32) (ws ns : List ℕ) → length ws ≡ length ns
    → starts_at base (paired waiting_at ws ns) ≡ begins base fits ns
unfolding starts_at paired
paired_starts base fits [] [] e = refl
paired_starts base fits [] (n ∷ ns) e = absurd (omega arith)
paired_starts base fits (w ∷ ws) [] e = absurd (omega arith)
paired_starts base fits (w ∷ ws) (n ∷ ns) e = refl
