-- Laws of `Orders`: an ascending list is no longer than its span, and stays ascending where one is inserted, some are
-- dropped, or the base moves on.
-- Assumes nothing.
use Rattle.std.specs.Prelude.{◌≡◌, Bool, ◌&&◌, ◌||◌, leb, ltb}
use Rattle.std.proofs.Math.Path.{refl, sym, ap}
use Rattle.std.proofs.Math.Bool.{true, false, cond, or_self_left, or-true}
use Rattle.std.proofs.lemmas.Bool.{false≢true}
use Rattle.std.proofs.Common.{true≢false}
use mathlib.Core.List.{List, [], ◌∷◌, ◌++◌, map}
use Prim.Native.Nat.{ℕ, suc, ◌+◌, ◌-◌, ◌≤◌, ◌<◌, ◌^◌}
use native.Mathlib.Omega.{arith}
use borrow.Author.Tests.{leb-true, ltb-true, ltb-false, eqb-true, le-leb, lt-ltb, le-ltb, eq-eqb, ne_eqb}
use Rattle.std.proofs.Math.Dec.{eqb}
use Rattle.std.proofs.Math.ListN.{length}
use Rattle.protocol.specs.Serial.{plus, minus}
use Rattle.lists.specs.Orders.{ascending, is_held, insert}

-- a against b
data Order (a b : ℕ) : Type 0 where
  same : a ≡ b → Order a b
  under : a < b → Order a b
  over : b < a → Order a b

order : (a b : ℕ) → Order a b
order a b = go (ltb a b) (ltb b a) refl refl
  where
    go : (t u : Bool) → ltb a b ≡ t → ltb b a ≡ u → Order a b
    go true u e f = under (ltb-true a b e)
    go false true e f = over (ltb-true b a f)
    go false false e f = same (omega (arith, ltb-false a b e, ltb-false b a f))

-- r is l with a somewhere in it
pub record Between {A : Type 0} (a : A) (l r : List A) : Type 0 where
  pub front : List A
  pub back : List A
  pub was : l ≡ front ++ back
  pub is : r ≡ front ++ (a ∷ back)

-- what an ascending list says of its first entry, with offset o
pub record First (least o limit : ℕ) (rest : Bool) : Type 0 where
  pub low : least ≤ o
  pub high : o < limit
  pub later : rest ≡ true

first_of_lem : (least o limit : ℕ) (rest : Bool) → leb least o && ltb o limit && rest ≡ true → First least o limit rest
first_of_lem least o limit rest h = go (leb least o) (ltb o limit) refl refl h
  where
    go : (p q : Bool) → leb least o ≡ p → ltb o limit ≡ q → p && q && rest ≡ true → First least o limit rest
    go true true e f h = record { low = leb-true least o e; high = ltb-true o limit f; later = h }
    go true false e f h = absurd (false≢true h)
    go false q e f h = absurd (false≢true h)

of_first : (least o limit : ℕ) (rest : Bool) → First least o limit rest → leb least o && ltb o limit && rest ≡ true
of_first least o limit rest f = rw (le-leb least o f.low, lt-ltb o limit f.high) f.later

module _ {A : Type 0} (offset : A → ℕ) where
  pub ascending_first : (least limit : ℕ) (x : A) (l : List A) → ascending offset least limit (x ∷ l) ≡ true
      → First least (offset x) limit (ascending offset (offset x + 1) limit l)
  unfolding ascending
  ascending_first least limit x l h = first_of_lem least (offset x) limit (ascending offset (offset x + 1) limit l) h

  pub ascending_cons : (least limit : ℕ) (x : A) (l : List A) → First least (offset x) limit (ascending offset (offset x + 1) limit l)
      → ascending offset least limit (x ∷ l) ≡ true
  unfolding ascending
  ascending_cons least limit x l f = of_first least (offset x) limit (ascending offset (offset x + 1) limit l) f

  pub ascending_none : (least limit : ℕ) → ascending offset least limit [] ≡ true
  unfolding ascending
  ascending_none least limit = refl

  -- it is no longer than its span
  pub ascending_length : (least limit : ℕ) (l : List A) → least ≤ limit → ascending offset least limit l ≡ true → least + length l ≤ limit
  ascending_length least limit [] b h = omega arith
  ascending_length least limit (x ∷ l) b h =
      let f = ascending_first least limit x l h in
      omega (arith, f.low, ascending_length (offset x + 1) limit l (omega (arith, f.high)) f.later)

  -- every offset that it has is of the span
  pub ascending_held : (k least limit : ℕ) (l : List A) → ascending offset least limit l ≡ true → is_held offset k l ≡ true
      → (least ≤ k) × (k < limit)
  unfolding is_held
  ascending_held k least limit [] h n = absurd (false≢true n)
  ascending_held k least limit (x ∷ l) h n =
      let f = ascending_first least limit x l h in
      go (eqb (offset x) k) refl n f (ascending_held k (offset x + 1) limit l f.later)
    where
      go : (t : Bool) → eqb (offset x) k ≡ t → (t || is_held offset k l) ≡ true
          → First least (offset x) limit (ascending offset (offset x + 1) limit l)
          → (is_held offset k l ≡ true → (offset x + 1 ≤ k) × (k < limit)) → (least ≤ k) × (k < limit)
      go true e n f ih = rw (← eqb-true (offset x) k e) (f.low, f.high)
      go false e n f ih = let r = ih n in (omega (arith, f.low, r.0), r.1)

  -- where it lacks an offset of the span, it has room
  pub ascending_room : (k least limit : ℕ) (l : List A) → least ≤ k → k < limit → ascending offset least limit l ≡ true
      → is_held offset k l ≡ false → least + length l < limit
  unfolding is_held
  ascending_room k least limit [] b c h n = omega arith
  ascending_room k least limit (x ∷ l) b c h n =
      go (order k (offset x)) n (ascending_first least limit x l h) (ascending_room k (offset x + 1) limit l)
    where
      go : Order k (offset x) → (eqb (offset x) k || is_held offset k l) ≡ false
          → First least (offset x) limit (ascending offset (offset x + 1) limit l)
          → (offset x + 1 ≤ k → k < limit → ascending offset (offset x + 1) limit l ≡ true → is_held offset k l ≡ false → offset x + 1
          + length l < limit) → least + suc (length l) < limit
      go (same e) n f ih = absurd (true≢false (rw (eq-eqb (offset x) k (sym e)) at n))
      go (under p) n f ih = omega (arith, f.low, f.high, ascending_length (offset x + 1) limit l (omega (arith, f.high)) f.later)
      go (over p) n f ih = omega (arith, f.low, ih (omega arith) c f.later (rw (ne_eqb (offset x) k (λ e. omega arith)) at n))

  -- a lower start
  pub ascending_lower : (m least limit : ℕ) (l : List A) → m ≤ least → ascending offset least limit l ≡ true
      → ascending offset m limit l ≡ true
  ascending_lower m least limit [] b h = ascending_none m limit
  ascending_lower m least limit (x ∷ l) b h =
      let f = ascending_first least limit x l h in
      ascending_cons m limit x l (record { low = omega (arith, f.low); high = f.high; later = f.later })

  -- an entry of the span is inserted
  module _ (a : A) where
    pub insert_ascending : (least limit : ℕ) (l : List A) → least ≤ offset a → offset a < limit → ascending offset least limit l ≡ true
        → ascending offset least limit (insert offset a l) ≡ true
    unfolding insert
    insert_ascending least limit [] b c h =
        ascending_cons least limit a [] (record { low = b; high = c; later = ascending_none (offset a + 1) limit })
    insert_ascending least limit (x ∷ l) b c h =
        go (order (offset a) (offset x)) (ascending_first least limit x l h) (insert_ascending (offset x + 1) limit l)
      where
        go : Order (offset a) (offset x) → First least (offset x) limit (ascending offset (offset x + 1) limit l)
            → (offset x + 1 ≤ offset a → offset a < limit → ascending offset (offset x + 1) limit l ≡ true
            → ascending offset (offset x + 1) limit (insert offset a l) ≡ true)
            → ascending offset least limit (cond (eqb (offset x) (offset a)) (x ∷ l)
            (cond (ltb (offset a) (offset x)) (a ∷ x ∷ l) (x ∷ insert offset a l))) ≡ true
        go (same e) f ih = rw (eq-eqb (offset x) (offset a) (sym e)) h
        go (under p) f ih =
            rw (ne_eqb (offset x) (offset a) (λ e. omega arith), lt-ltb (offset a) (offset x) p)
            (ascending_cons least limit a (x
            ∷ l) (record {
              low = b;
              high = c;
              later = ascending_cons (offset a + 1) limit x l (record { low = omega arith; high = f.high; later = f.later });
            }))
        go (over p) f ih =
            rw (ne_eqb (offset x) (offset a) (λ e. omega arith), le-ltb (offset a) (offset x) (omega arith))
            (ascending_cons least limit x (insert offset a l)
            (record { low = f.low; high = f.high; later = ih (omega arith) c f.later }))

    -- so that it fits where the list did
    pub insert_fits : (limit : ℕ) (l : List A) → offset a < limit → ascending offset 0 limit l ≡ true → length (insert offset a l) ≤ limit
    insert_fits limit l c h = omega (
      arith,
      ascending_length 0 limit (insert offset a l) (omega arith) (insert_ascending 0 limit l (omega arith) c h),
    )

    -- one whose offset is held is not
    pub insert_held : (least limit : ℕ) (l : List A) → ascending offset least limit l ≡ true → is_held offset (offset a) l ≡ true
        → insert offset a l ≡ l
    unfolding insert is_held
    insert_held least limit [] h n = absurd (false≢true n)
    insert_held least limit (x ∷ l) h n =
        go (eqb (offset x) (offset a)) n (ascending_first least limit x l h) (insert_held (offset x + 1) limit l)
      where
        go : (t : Bool) → (t || is_held offset (offset a) l) ≡ true → First least (offset x) limit (ascending offset (offset x + 1) limit l)
            → (ascending offset (offset x + 1) limit l ≡ true → is_held offset (offset a) l ≡ true → insert offset a l ≡ l)
            → cond t (x ∷ l) (cond (ltb (offset a) (offset x)) (a ∷ x ∷ l) (x ∷ insert offset a l)) ≡ x ∷ l
        go true n f ih = refl
        go false n f ih =
            let r = ascending_held (offset a) (offset x + 1) limit l f.later n in
            rw (le-ltb (offset a) (offset x) (omega (arith, r.0)), ih f.later n)

    -- one whose offset is not held goes in somewhere
    pub insert_between : (l : List A) → is_held offset (offset a) l ≡ false → Between a l (insert offset a l)
    unfolding insert is_held
    insert_between [] n = record { front = []; back = []; was = refl; is = refl }
    insert_between (x ∷ l) n = go (eqb (offset x) (offset a)) (ltb (offset a) (offset x)) n (insert_between l)
      where
        go : (t u : Bool) → (t || is_held offset (offset a) l) ≡ false
            → (is_held offset (offset a) l ≡ false → Between a l (insert offset a l))
            → Between a (x ∷ l) (cond t (x ∷ l) (cond u (a ∷ x ∷ l) (x ∷ insert offset a l)))
        go true u n ih = absurd (true≢false n)
        go false true n ih = record { front = []; back = x ∷ l; was = refl; is = refl }
        go false false n ih = let b = ih n in
            record {
              front = x ∷ b.front;
              back = b.back;
              was = ap (λ (r : List A). x ∷ r) b.was;
              is = ap (λ (r : List A). x ∷ r) b.is;
            }

    -- what is held afterwards
    pub held_insert : (k : ℕ) (l : List A) → is_held offset k (insert offset a l) ≡ (eqb (offset a) k || is_held offset k l)
    unfolding insert is_held
    held_insert k [] = refl
    held_insert k (x ∷ l) = go (eqb (offset x) (offset a)) refl (ltb (offset a) (offset x)) (held_insert k l)
      where
        go : (t : Bool) → eqb (offset x) (offset a) ≡ t → (u : Bool)
            → is_held offset k (insert offset a l) ≡ (eqb (offset a) k || is_held offset k l)
            → is_held offset k (cond t (x ∷ l) (cond u (a ∷ x ∷ l) (x ∷ insert offset a l))) ≡
            (eqb (offset a) k || (eqb (offset x) k || is_held offset k l))
        go true e u ih = rw (eqb-true (offset x) (offset a) e) (sym (or_self_left (eqb (offset a) k) (is_held offset k l)))
        go false e true ih = refl
        go false e false ih = rw ih (swap (eqb (offset x) k) (eqb (offset a) k) (is_held offset k l))
          where
            swap : (p q r : Bool) → (p || (q || r)) ≡ (q || (p || r))
            swap true q r = sym (or-true q)
            swap false q r = refl

-- the same list by offsets from a base that is j further on
module _ {A : Type 0} (offset offset' : A → ℕ) (j : ℕ) (moved : (x : A) → j ≤ offset x → offset' x ≡ offset x - j) where
  pub ascending_moved : (least limit limit' : ℕ) (l : List A) → j ≤ least → limit ≤ limit' + j → ascending offset least limit l ≡ true
      → ascending offset' (least - j) limit' l ≡ true
  ascending_moved least limit limit' [] b c h = ascending_none offset' (least - j) limit'
  ascending_moved least limit limit' (x ∷ l) b c h =
      let f = ascending_first offset least limit x l h in
      let low = f.low in
      let high = f.high in
      let e : offset' x ≡ offset x - j = moved x (omega arith) in
      let q : offset x + 1 - j ≡ offset' x + 1 = omega arith in
      let ih = rw q at (ascending_moved (offset x + 1) limit limit' l (omega arith) c f.later) in
      ascending_cons offset' (least - j) limit' x l (record { low = omega arith; high = omega arith; later = ih })

-- a change that keeps each offset
pub ascending_map : {A : Type 0} (offset : A → ℕ) (f : A → A) → ((x : A) → offset (f x) ≡ offset x) → (least limit : ℕ) (l : List A)
    → ascending offset least limit (map f l) ≡ ascending offset least limit l
unfolding ascending
ascending_map offset f e least limit [] = refl
ascending_map offset f e least limit (x ∷ l) = rw (e x, ascending_map offset f e (offset x + 1) limit l)

-- offsets from another base: one that is j further on, and one that is a number's own
pub offset_plus : (base j n : ℕ) → base < 2 ^ 32 → j ≤ minus n base → minus n (plus base j) ≡ minus n base - j
offset_plus base j n h g = omega arith

pub offset_from : (base b n : ℕ) → base < 2 ^ 32 → b < 2 ^ 32 → minus b base ≤ minus n base → minus n b ≡ minus n base - minus b base
offset_from base b n h g e = omega arith

-- numbers with one offset are one number
pub offset_same : (base m n : ℕ) → base < 2 ^ 32 → m < 2 ^ 32 → n < 2 ^ 32 → minus m base ≡ minus n base → m ≡ n
offset_same base m n h g b e = omega arith
