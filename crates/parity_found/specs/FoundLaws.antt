-- Laws of what is found: lens, datagrams and their lengths.
-- Assumes nothing.
use Rattle.std.specs.Prelude.{◌≡◌, refl, Bool, true, false, cond, ◌&&◌, eqb, leb, length, take, drop}
use Rattle.std.proofs.Math.Path.{sym, ap, ap₂}
use Rattle.std.proofs.Common.{◌∙◌, subst, not-suc-le-zero, add-one, leb-true, eqb-true, le-leb, length-take, take_all, get_or-take, ext_get_or}
use mathlib.Core.List.{List, [], ◌∷◌, ◌++◌}
use Prim.Native.Nat.{ℕ, zero, suc, ◌+◌, ◌-◌, ◌*◌, ◌/◌, ◌%◌, ◌≤◌, ◌<◌, max}
use native.Mathlib.Omega.{arith}
use Rattle.std.proofs.lemmas.Bool.{eqb-false, lt-leb}
use Rattle.std.proofs.Math.ListN.{get_or}
use Rattle.wire.specs.LittleEndian.{number_at}
use Rattle.frames.specs.Lists.{listed, lengths_of, largest}
use Rattle.frames.specs.Frames.{shard}
use Rattle.frames.specs.Outcomes.{length_ok, lengths_ok}
use Rattle.frames.specs.Reading.{byte_at, len_at, datagram_at, found}
use Rattle.frames.specs.PlaceLaws.{length_listed, get_d_listed}
use Rattle.frames.specs.PartLaws.{length_part, lengths_next}
use Rattle.frames.specs.FrameLaws.{length_shard, shard_low, shard_high, shard_byte_lem}
use Rattle.frames.specs.OutcomeLaws.{and_left, and_right}
use Rattle.parity_scan.specs.Held.{at_in, size_in}
use Rattle.parity_found.specs.declared.found.Group.{Group}
use Rattle.parity_found.specs.ReadyLaws.{whole_sized, len_sized}
use Rattle.parity_found.specs.Ready.{Ready, shards_in, len_in, datagram_in, found_in, Whole}

-- ---- lengths

lengths_ok_append : (mtu : ℕ) (xs : List ℕ) (v : ℕ) → lengths_ok mtu (xs ++ (v ∷ [])) ≡ (lengths_ok mtu xs && length_ok mtu v)
unfolding lengths_ok
lengths_ok_append mtu [] v = go (length_ok mtu v)
  where
    go : (b : Bool) → cond b true false ≡ b
    go true = refl
    go false = refl
lengths_ok_append mtu (x ∷ xs) v = go (length_ok mtu x) (lengths_ok_append mtu xs v)
  where
    go : (b : Bool) → lengths_ok mtu (xs ++ (v ∷ [])) ≡ (lengths_ok mtu xs && length_ok mtu v)
        → cond b (lengths_ok mtu (xs ++ (v ∷ []))) false ≡ (cond b (lengths_ok mtu xs) false && length_ok mtu v)
    go true e = e
    go false e = refl

module _ (mtu : ℕ) (f : ℕ → List ℕ) where
  lengths_ok_next : (n : ℕ) → lengths_ok mtu (lengths_of (listed f (n + 1))) ≡
      (lengths_ok mtu (lengths_of (listed f n)) && length_ok mtu (length (f n)))
  lengths_ok_next n = ap (lengths_ok mtu) (lengths_next f n) ∙ lengths_ok_append mtu (lengths_of (listed f n)) (length (f n))

  pub lengths_good : (n m : ℕ) → m ≡ length (f n) → lengths_ok mtu (lengths_of (listed f n)) ≡ true → 24 ≤ m → leb m mtu ≡ true
      → lengths_ok mtu (lengths_of (listed f (n + 1))) ≡ true
  lengths_good n m e a b c = lengths_ok_next n ∙ rw (a, ← e, le-leb 24 m b, c)

  pub lengths_wrong : (n i : ℕ) → i < n → length_ok mtu (length (f i)) ≡ false → lengths_ok mtu (lengths_of (listed f n)) ≡ false
  lengths_wrong zero i l e = absurd (not-suc-le-zero l)
  lengths_wrong (suc n) i l e =
      subst (λ (q : ℕ). lengths_ok mtu (lengths_of (listed f q)) ≡ false) (add-one n)
      (lengths_ok_next n ∙ go (eqb i n) refl (λ m. lengths_wrong n i m e))
    where
      go : (b : Bool) → eqb i n ≡ b → (i < n → lengths_ok mtu (lengths_of (listed f n)) ≡ false)
          → (lengths_ok mtu (lengths_of (listed f n)) && length_ok mtu (length (f n))) ≡ false
      go true q ih = both (lengths_ok mtu (lengths_of (listed f n))) (ap (λ (r : ℕ). length_ok mtu (length (f r))) (sym (eqb-true i n q)) ∙ e)
        where
          both : (c : Bool) → length_ok mtu (length (f n)) ≡ false → (c && length_ok mtu (length (f n))) ≡ false
          both true z = z
          both false z = refl
      go false q ih = let d : i ≡ n → ⊥ = eqb-false i n q in rw (ih (omega arith))

  pub lengths_least_lem : (n i : ℕ) → i < n → lengths_ok mtu (lengths_of (listed f n)) ≡ true → 24 ≤ length (f i)
  lengths_least_lem n i l e = go (length_ok mtu (length (f i))) refl
    where
      go : (b : Bool) → length_ok mtu (length (f i)) ≡ b → 24 ≤ length (f i)
      go true q = leb-true 24 (length (f i)) (and_left (leb 24 (length (f i))) (leb (length (f i)) mtu) q)
      go false q = let z : ◌≡◌ {A = ℕ} 0 1 = cc (lengths_wrong n i l q) in absurd (omega arith)

largest_append : (xs : List ℕ) (v : ℕ) → largest (xs ++ (v ∷ [])) ≡ max (largest xs) v
unfolding largest
largest_append [] v = omega arith
largest_append (x ∷ xs) v = let e : largest (xs ++ (v ∷ [])) ≡ max (largest xs) v = largest_append xs v in omega arith

pub largest_next : (f : ℕ → List ℕ) (n : ℕ) → largest (lengths_of (listed f (n + 1))) ≡ max (largest (lengths_of (listed f n))) (length (f n))
largest_next f n = ap largest (lengths_next f n) ∙ largest_append (lengths_of (listed f n)) (length (f n))

-- ---- datagrams

-- n is the len of the data shard at place i, two bytes
pub record LenOf (k : ℕ) (b : ℕ → List ℕ) (i n : ℕ) : Type 0 where
  pub is : n ≡ len_at k b i
  pub low : byte_at k b i 0 < 256
  pub high : byte_at k b i 1 < 256

datagram_byte : (k : ℕ) (b : ℕ → List ℕ) (i n x : ℕ) → n ≡ len_at k b i → x + 2 < n
    → get_or (datagram_at k b i) (suc (suc x) - 2) 0 ≡ byte_at k b i (suc (suc x))
unfolding datagram_at
datagram_byte k b i n x h l =
    let e : suc (suc x) - 2 ≡ x = omega arith in
    let f : x + 2 ≡ suc (suc x) = omega arith in
    let g : n ≡ len_at k b i = h in
    ap (λ (q : ℕ). get_or (listed (λ x. byte_at k b i (x + 2)) (len_at k b i - 2)) q 0) e
    ∙ get_d_listed (λ x. byte_at k b i (x + 2)) (len_at k b i - 2) x 0 (omega arith) ∙ ap (byte_at k b i) f

module _ (k : ℕ) (b : ℕ → List ℕ) where
  pub length_datagram : (i n : ℕ) → n ≡ len_at k b i → length (datagram_at k b i) ≡ n - 2
  unfolding datagram_at
  length_datagram i n h = length_listed (λ x. byte_at k b i (x + 2)) (len_at k b i - 2) ∙ ap (λ (m : ℕ). m - 2) (sym h)

  pub found_at : (i : ℕ) → i < k → get_or (found k b) i [] ≡ datagram_at k b i
  unfolding found
  found_at i l = get_d_listed (datagram_at k b) k i [] l

  pub length_found : length (found k b) ≡ k
  unfolding found
  length_found = length_listed (datagram_at k b) k

  pub shard_in_lem : (i n x : ℕ) → LenOf k b i n → 2 ≤ n → x < n → byte_at k b i x ≡ get_or (shard (datagram_at k b i)) x 0
  unfolding len_at
  shard_in_lem i n zero h l m =
      let e : n ≡ byte_at k b i 0 + 256 * byte_at k b i 1 = h.is in
      let lo : byte_at k b i 0 < 256 = h.low in
      let hi : byte_at k b i 1 < 256 = h.high in
      let q : byte_at k b i 0 ≡ (n - 2 + 2) % 256 = omega arith in
      q ∙ sym (shard_low (datagram_at k b i) (n - 2) (length_datagram i n h.is))
  shard_in_lem i n (suc zero) h l m =
      let e : n ≡ byte_at k b i 0 + 256 * byte_at k b i 1 = h.is in
      let lo : byte_at k b i 0 < 256 = h.low in
      let hi : byte_at k b i 1 < 256 = h.high in
      let q : byte_at k b i 1 ≡ (n - 2 + 2) / 256 % 256 = omega arith in
      q ∙ sym (shard_high (datagram_at k b i) (n - 2) (length_datagram i n h.is))
  shard_in_lem i n (suc (suc x)) h l m = sym (shard_byte_lem (datagram_at k b i) (suc (suc x)) (omega arith) ∙ later)
    where
      later : get_or (datagram_at k b i) (suc (suc x) - 2) 0 ≡ byte_at k b i (suc (suc x))
      later = datagram_byte k b i n x h.is (omega arith)

module _ (mtu : ℕ) (f : ℕ → List ℕ) where
  pub lengths_short : (n i m : ℕ) → i < n → m ≡ length (f i) → m < 24 → lengths_ok mtu (lengths_of (listed f n)) ≡ false
  lengths_short n i m l e h = lengths_wrong mtu f n i l (rw (← e, lt-leb 24 m h))

  pub lengths_long : (n i m : ℕ) → i < n → m ≡ length (f i) → leb m mtu ≡ false → lengths_ok mtu (lengths_of (listed f n)) ≡ false
  lengths_long n i m l e h = lengths_wrong mtu f n i l (rw (← e, h) (go (leb 24 m)))
    where
      go : (b : Bool) → (b && false) ≡ false
      go true = refl
      go false = refl

pub lens_least : (k : ℕ) (b : ℕ → List ℕ) (mtu i : ℕ) → i < k → lengths_ok mtu (lengths_of (found k b)) ≡ true → 26 ≤ len_at k b i
unfolding found datagram_at
lens_least k b mtu i l e =
    let h : 24 ≤ length (listed (λ x. byte_at k b i (x + 2)) (len_at k b i - 2)) = lengths_least_lem mtu (datagram_at k b) k i l e in
    omega (arith, length_listed (λ x. byte_at k b i (x + 2)) (len_at k b i - 2))

pub lens_most : (mtu : ℕ) (f : ℕ → List ℕ) (n i : ℕ) → i < n → lengths_ok mtu (lengths_of (listed f n)) ≡ true → length (f i) ≤ mtu
lens_most mtu f n i l e = go (length_ok mtu (length (f i))) refl
  where
    go : (b : Bool) → length_ok mtu (length (f i)) ≡ b → length (f i) ≤ mtu
    go true q = leb-true (length (f i)) mtu (and_right (leb 24 (length (f i))) (leb (length (f i)) mtu) q)
    go false q = let z : ◌≡◌ {A = ℕ} 0 1 = cc (lengths_wrong mtu f n i l q) in absurd (omega arith)

pub found_most : (k : ℕ) (b : ℕ → List ℕ) (mtu i n : ℕ) → n ≡ len_at k b i → i < k → lengths_ok mtu (lengths_of (found k b)) ≡ true
    → n - 2 ≤ mtu
unfolding found
found_most k b mtu i n h l e = let m : length (datagram_at k b i) ≤ mtu = lens_most mtu (datagram_at k b) k i l e in
    omega (arith, length_datagram k b i n h)

-- ---- a slice that begins with a shard

module _ (g : Group) (p : ℕ) (l : List ℕ) (w : Whole g p l) where
  first_two : number_at 2 l 0 ≡ get_or l 0 0 + 256 * get_or l 1 0
  unfolding number_at
  first_two = omega arith

  pub whole_len : (n : ℕ) → n ≡ number_at 2 l 0 → n ≡ len_in g p
  unfolding len_at
  whole_len n e =
      e ∙ first_two ∙ ap₂ (λ (x y : ℕ). x + 256 * y) (w.byte 0 (omega (arith, w.two))) (w.byte 1 (omega (arith, w.two)))

  len_of_of : (n : ℕ) → n ≡ len_in g p → LenOf g.shape.k (shards_in g) p n
  len_of_of n e = record {
    is = e;
    low = rw (← w.byte 0 (omega (arith, w.two))) (w.small 0);
    high = rw (← w.byte 1 (omega (arith, w.two))) (w.small 1);
  }

  -- as its len says
  pub whole_trimmed : (n : ℕ) → n ≡ len_in g p → 26 ≤ n → n ≤ g.shape.mtu + 2 → take n l ≡ shard (datagram_in g p)
  whole_trimmed n e least most =
      let m : n ≤ length l = (let f : len_in g p ≤ length l = w.fits (omega (arith, e)) in omega (arith, e)) in
      let z : length (take n l) ≡ n = simp length-take (omega arith) in
      ext_get_or 0 (take n l) (shard (datagram_in g p))
      (z ∙ sym (length_shard (datagram_in g p) ∙ omega (arith, length_datagram g.shape.k (shards_in g) p n e)))
      (λ x i.
      get_or-take n l x 0 (omega (arith, z)) ∙ w.byte x (omega (arith, z))
      ∙ shard_in_lem g.shape.k (shards_in g) p n x (len_of_of n e) (omega arith) (omega (arith, z)))

-- the shard that is held for a place, found again where it lies
pub itself :
    (g : Group) →
    Ready g →
    (p at n : ℕ) →
    p < g.shape.k →
    0 < n →
    at ≡ at_in g.held p →
    n ≡ size_in g.held p →
    lengths_ok g.shape.mtu (lengths_of (found_in g)) ≡ true →
    take n (drop at g.frames.bytes.now) ≡ shard (datagram_in g p)
itself g r p at n l pos ea en ok =
    let w = whole_sized g r p n l pos en in
    let e = len_sized g r p n l pos en in
    let i = r.inside.inside p in
    let z : length (take n (drop (at_in g.held p) g.frames.bytes.now)) ≡ n = length_part g.frames.bytes.now (at_in g.held p) n (omega (arith, i)) in
    ap (λ (q : ℕ). take n (drop q g.frames.bytes.now)) ea
    ∙ sym (take_all n (take n (drop (at_in g.held p) g.frames.bytes.now)) (omega (arith, z)))
    ∙ whole_trimmed g p (take n (drop (at_in g.held p) g.frames.bytes.now)) w n e
    (omega (arith, e, lens_least g.shape.k (shards_in g) g.shape.mtu p l ok))
    (omega (arith, found_most g.shape.k (shards_in g) g.shape.mtu p n e l ok))
