-- Any k shards of a group of k datagrams give every byte of its data shards.
-- Assumes nothing.
use Rattle.std.specs.Prelude.{◌≡◌, ◌⊎◌, Bool, cond, ℕ, zero, suc, ◌+◌, ◌≤◌, ◌<◌}
use Rattle.std.proofs.Math.Path.{refl, sym, ap, ap₂}
use Rattle.std.proofs.Common.{◌∙◌, ⊎_elim, arith}
use Rattle.std.proofs.Math.Bool.{true, false}
use mathlib.Core.List.{List, [], ◌∷◌}
use borrow.Author.Tests.{eqb-true, eqb-false, ltb-true, ltb-false, ne_eqb}
use Rattle.std.proofs.Math.Dec.{eqb}
use Rattle.std.proofs.Math.ListN.{length, get_or}
use Rattle.galois.specs.Field.{plus, mul, power, inverse}
use Rattle.galois.specs.FieldLaws.{
  plus_zero,
  plus_self,
  plus_swap,
  plus_twice,
  plus_lt,
  mul_zero,
  one-mul,
  mul_plus,
  mul_plus_left,
  power_lt,
}
use Rattle.galois.proofs.TableLaws.{power_positive, power_differs, undo_mul}
use Rattle.frames.specs.Lists.{total, count, other}
use Rattle.frames.specs.Frames.{shard, weight, parity_byte, shard_at}
use Rattle.frames.specs.Reading.{has, rest, solved, byte_at}
use Rattle.frames.specs.PlaceLaws.{total_same, total_plus, total_one, total_two, count_three, other_none, other_some, Lost}
use Rattle.frames.specs.FrameLaws.{parity_at, shard_at_data, shard_at_parity}

pub nil_of : (l : List ℕ) → length l ≤ 0 → l ≡ []
nil_of [] h = refl
nil_of (x ∷ xs) h = absurd (omega arith)

-- ---- what is held, and what is lost

-- the shards b are of the group of ds: at each place the group's, or none
pub record Held (ds : List (List ℕ)) (b : ℕ → List ℕ) : Type 0 where
  pub few : length ds ≤ 10
  pub bytes : (p x : ℕ) → get_or (shard (get_or ds p [])) x 0 < 256
  pub each : (p : ℕ) → p < length ds + 2 → (b p ≡ shard_at ds p) ⊎ (b p ≡ [])
  pub enough : length ds ≤ count (has b) (length ds + 2)

module _ (ds : List (List ℕ)) (b : ℕ → List ℕ) (held : Held ds b) (x : ℕ) where
  there : (p : ℕ) → p < length ds + 2 → has b p ≡ true → b p ≡ shard_at ds p
  there p l h =
      let m : 0 < length (b p) = ltb-true 0 (length (b p)) h in
      ⊎_elim (λ e. e) (λ e. let z : length (b p) ≡ 0 = ap length e in absurd (omega arith)) (held.each p l)

  gone : (p : ℕ) → has b p ≡ false → b p ≡ []
  gone p h = nil_of (b p) (ltb-false 0 (length (b p)) h)

  -- byte x of the data shard at p, and that byte where the shard is lost
  abbrev byte : ℕ → ℕ
  byte p = get_or (shard (get_or ds p [])) x 0

  abbrev lost_byte : ℕ → ℕ
  lost_byte p = cond (has b p) 0 (byte p)

  data_there : (p : ℕ) → p < length ds → has b p ≡ true → get_or (b p) x 0 ≡ byte p
  data_there p l h = ap (λ (c : List ℕ). get_or c x 0) (there p (omega arith) h ∙ shard_at_data ds p l)

  data_gone : (p : ℕ) → has b p ≡ false → get_or (b p) x 0 ≡ 0
  data_gone p h = ap (λ (c : List ℕ). get_or c x 0) (gone p h)

  difference : (w p : ℕ) → p < length ds
      → plus (mul (weight w p) (byte p)) (mul (weight w p) (get_or (b p) x 0)) ≡ mul (weight w p) (lost_byte p)
  difference w p l = go (has b p) refl
    where
      go : (h : Bool) → has b p ≡ h
          → plus (mul (weight w p) (byte p)) (mul (weight w p) (get_or (b p) x 0)) ≡ mul (weight w p) (cond h 0 (byte p))
      go true e =
          ap (λ (y : ℕ). plus (mul (weight w p) (byte p)) (mul (weight w p) y)) (data_there p l e)
          ∙ plus_self (mul (weight w p) (byte p)) ∙ sym (mul_zero (weight w p))
      go false e =
          ap (λ (y : ℕ). plus (mul (weight w p) (byte p)) (mul (weight w p) y)) (data_gone p e)
          ∙ ap (plus (mul (weight w p) (byte p))) (mul_zero (weight w p)) ∙ plus_zero (mul (weight w p) (byte p))

  rest_is : (w : ℕ) → w < 2 → has b (length ds + w) ≡ true
      → rest w (length ds) b x ≡ total (λ p. mul (weight w p) (lost_byte p)) (length ds)
  unfolding rest parity_byte
  rest_is w l h =
      ap (λ (c : ℕ). plus c (total (λ p. mul (weight w p) (get_or (b p) x 0)) (length ds)))
      (ap (λ (c : List ℕ). get_or c x 0) (there (length ds + w) (omega arith) h ∙ shard_at_parity ds w) ∙ parity_at w ds x)
      ∙ total_plus (λ p. mul (weight w p) (byte p)) (λ p. mul (weight w p) (get_or (b p) x 0)) (length ds)
      ∙ total_same (λ p. plus (mul (weight w p) (byte p)) (mul (weight w p) (get_or (b p) x 0))) (λ p. mul (weight w p) (lost_byte p))
      (length ds)
      (λ p m. difference w p m)

  not_lost : (w p : ℕ) → has b p ≡ true → mul (weight w p) (lost_byte p) ≡ 0
  not_lost w p h = ap (λ (c : Bool). mul (weight w p) (cond c 0 (byte p))) h ∙ mul_zero (weight w p)

  lost : (w p : ℕ) → has b p ≡ false → mul (weight w p) (lost_byte p) ≡ mul (weight w p) (byte p)
  lost w p h = ap (λ (c : Bool). mul (weight w p) (cond c 0 (byte p))) h

  -- ---- one lost

  module _ (i : ℕ) (li : i < length ds) (ni : has b i ≡ false) where
    one_rest : (w : ℕ) → w < 2 → has b (length ds + w) ≡ true → ((p : ℕ) → p < length ds → (p ≡ i → ⊥) → has b p ≡ true)
        → rest w (length ds) b x ≡ mul (weight w i) (byte i)
    one_rest w l h all =
        rest_is w l h
        ∙ total_one (λ p. mul (weight w p) (lost_byte p)) (length ds) i li (λ p m d. not_lost w p (all p m d))
        ∙ lost w i ni

    -- without the first parity the second is held
    second : has b (length ds) ≡ false → has b (length ds + 1) ≡ true
    second h = go (has b (length ds + 1)) refl
      where
        go : (c : Bool) → has b (length ds + 1) ≡ c → c ≡ true
        go true e = refl
        go false e =
            let n : count (has b) (length ds + 2) + 3 ≤ length ds + 2 =
            count_three (has b) (length ds + 2) i (length ds) (length ds + 1) (omega arith) (omega arith) (omega arith)
            (λ q. omega arith) (λ q. omega arith) (λ q. omega arith) ni h e in
            let m : length ds ≤ count (has b) (length ds + 2) = held.enough in
            absurd (omega arith)

    solved_one : other (has b) i (length ds) ≡ 12 → solved (length ds) b i 12 x ≡ byte i
    unfolding solved weight
    solved_one e = go (has b (length ds)) refl
      where
        few : length ds ≤ 10
        few = held.few

        all : (p : ℕ) → p < length ds → (p ≡ i → ⊥) → has b p ≡ true
        all = other_none (has b) i (length ds) (omega arith) e

        first : has b (length ds + 0) ≡ has b (length ds)
        first = let z : length ds + 0 ≡ length ds = omega arith in ap (has b) z

        go : (c : Bool) → has b (length ds) ≡ c
            → cond c (rest 0 (length ds) b x) (mul (inverse (power i)) (rest 1 (length ds) b x)) ≡ byte i
        go true h = one_rest 0 (omega arith) (first ∙ h) all ∙ one-mul (byte i)
        go false h =
            ap (mul (inverse (power i))) (one_rest 1 (omega arith) (second h) all)
            ∙ undo_mul (power i) (byte i) (power_positive i (omega arith)) (power_lt i) (held.bytes i x)

  -- ---- two lost

  module _ (i j : ℕ) (li : i < length ds) (ni : has b i ≡ false) (other : Lost (has b) i (length ds) j) where
    -- then all else is held
    all_else : (p : ℕ) → p < length ds + 2 → (p ≡ i → ⊥) → (p ≡ j → ⊥) → has b p ≡ true
    all_else p l d e = go (has b p) refl
      where
        lj : j < length ds
        lj = other.below

        go : (c : Bool) → has b p ≡ c → c ≡ true
        go true h = refl
        go false h =
            let n : count (has b) (length ds + 2) + 3 ≤ length ds + 2 =
            count_three (has b) (length ds + 2) i j p (omega arith) (omega arith) l
            (λ q. other.apart (sym q)) (λ q. d (sym q)) (λ q. e (sym q)) ni other.none h in
            let m : length ds ≤ count (has b) (length ds + 2) = held.enough in
            absurd (omega arith)

    two_rest : (w : ℕ) → w < 2 → rest w (length ds) b x ≡ plus (mul (weight w i) (byte i)) (mul (weight w j) (byte j))
    two_rest w l =
        let lj : j < length ds = other.below in
        rest_is w l (all_else (length ds + w) (omega arith) (λ q. omega arith) (λ q. omega arith))
        ∙ total_two (λ p. mul (weight w p) (lost_byte p)) (length ds) i j li lj (λ q. other.apart (sym q))
        (λ p m d e. not_lost w p (all_else p (omega arith) d e))
        ∙ ap₂ plus (lost w i ni) (lost w j other.none)

    solved_two : solved (length ds) b i j x ≡ byte i
    unfolding solved weight
    solved_two =
        let lj : j < length ds = other.below in
        let few : length ds ≤ 10 = held.few in
        let hi : byte i < 256 = held.bytes i x in
        let hj : byte j < 256 = held.bytes j x in
        let z : eqb j 12 ≡ false = ne_eqb j 12 (λ q. omega arith) in
        rw z (
        ap (mul (inverse (plus (power i) (power j))))
        (ap₂ (λ (q p : ℕ). plus q (mul (power j) p)) (two_rest 1 (omega arith))
        (two_rest 0 (omega arith) ∙ ap₂ plus (one-mul (byte i)) (one-mul (byte j)))
        ∙ gather (power i) (power j) (byte i) (byte j) hi hj)
        ∙ undo_mul (plus (power i) (power j)) (byte i) (apart lj few) (plus_lt (power i) (power j) (power_lt i) (power_lt j)) hi)
      where
        -- gi di + gj dj + gj (di + dj) = (gi + gj) di
        gather : (gi gj di dj : ℕ) → di < 256 → dj < 256
            → plus (plus (mul gi di) (mul gj dj)) (mul gj (plus di dj)) ≡ mul (plus gi gj) di
        gather gi gj di dj hi hj =
            ap (plus (plus (mul gi di) (mul gj dj))) (mul_plus gj di dj hi hj)
            ∙ plus_swap (mul gi di) (mul gj dj) (mul gj di) (mul gj dj)
            ∙ ap (plus (plus (mul gi di) (mul gj di))) (plus_self (mul gj dj))
            ∙ plus_zero (plus (mul gi di) (mul gj di))
            ∙ sym (mul_plus_left gi gj di)

        apart : j < length ds → length ds ≤ 10 → 0 < plus (power i) (power j)
        apart lj few = positive (plus (power i) (power j)) (λ e.
            other.apart (sym (power_differs i j (omega arith) (omega arith)
            (sym (plus_zero (power i)) ∙ ap (plus (power i)) (sym e) ∙ plus_twice (power i) (power j)))))
          where
            positive : (n : ℕ) → (n ≡ 0 → ⊥) → 0 < n
            positive zero d = absurd (d refl)
            positive (suc n) d = omega arith

  -- each byte of each data shard, held or lost
  pub recovered : (i : ℕ) → i < length ds → byte_at (length ds) b i x ≡ get_or (shard (get_or ds i [])) x 0
  unfolding byte_at
  recovered i li = go (has b i) refl
    where
      found : has b i ≡ false → (c : Bool) → eqb (other (has b) i (length ds)) 12 ≡ c
          → solved (length ds) b i (other (has b) i (length ds)) x ≡ byte i
      found ni true e =
          let q : other (has b) i (length ds) ≡ 12 = eqb-true (other (has b) i (length ds)) 12 e in
          ap (λ (j : ℕ). solved (length ds) b i j x) q ∙ solved_one i li ni q
      found ni false e = solved_two i (other (has b) i (length ds)) li ni
          (other_some (has b) i (length ds) (eqb-false (other (has b) i (length ds)) 12 e))

      go : (c : Bool) → has b i ≡ c → cond c (get_or (b i) x 0) (solved (length ds) b i (other (has b) i (length ds)) x) ≡ byte i
      go true h = data_there i li h
      go false h = found h (eqb (other (has b) i (length ds)) 12) refl
