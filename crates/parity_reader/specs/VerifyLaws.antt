-- Steps of the comparison of what is found with the frames given.
-- Assumes nothing.
use Rattle.std.specs.Prelude.{◌≡◌, refl, Bool, true, false, cond, ◌&&◌, Option, None, Some, slice_index_or, List, [], ◌∷◌, ◌++◌, ℕ, zero, suc, ◌+◌, ◌-◌, ◌*◌, ◌%◌, ◌≤◌, ◌<◌, eqb, ltb, length, get_or, take, drop}
use Rattle.std.proofs.Common.{sym, ap, ap₂, ◌∙◌, subst, div-add-mod', not-suc-le-zero, arith, ltb-true, ltb-false, eq-eqb, length-append, take-append-drop, drop_of_length-le, take_at, drop-drop}
use Rattle.std.proofs.Math.ListN.{get_or-eq_default}
use Rattle.std.specs.Cmp.Lexicographic.{pointwise}
use Rattle.std.proofs.lemmas.List.{get_or_default}
use Rattle.wire.specs.LittleEndian.{bytes_of, number_at, AllBytes}
use Rattle.wire.specs.LittleEndianLaws.{bytes_of_number}
use Rattle.galois.specs.Field.{plus, mul, power, inverse}
use Rattle.galois.specs.FieldLaws.{plus_lt, mul_lt}
use Rattle.frames.specs.Lists.{listed, lengths_of, parts, add_up, largest, total, other, every}
use Rattle.frames.specs.Frames.{shard, longest, weight, parity_byte, parity_shard, type_at, shard_at, frame, frame_at}
use Rattle.frames.specs.Outcomes.{lengths_ok}
use Rattle.frames.specs.Reading.{group_of, place_of, frame_ok, has, rest, solved, byte_at, datagram_at, found, same, holds}
use Rattle.frames.specs.PlaceLaws.{length_listed, get_d_listed}
use Rattle.frames.specs.PartLaws.{size_le, part_bytes, length_parts, part_at, add_up_next, add_up_le, length_part}
use Rattle.frames.specs.FrameLaws.{length_parity_shard, shard_at_data, shard_at_parity, shard_bytes}
use Rattle.frames.specs.OutcomeLaws.{add_up_most, same_self}
use Rattle.frames.specs.WeightLaws.{tail, row_listed, row_same, steps_none, steps_next, steps_done, added_from_0}
use Rattle.rows.specs.Rows.{Row, behind, stepped}
use Rattle.recovery.specs.ReadingLaws.{Passes, passes, every_first}
use Rattle.parity_scan.specs.Held.{Held, span_at, span_size, at_in, size_in, shard_in}
use Rattle.parity_scan.specs.ScanLaws.{drop_take, every_cons, every_stop}
use Rattle.parity_found.specs.declared.found.Group.{Group}
use Rattle.parity_found.specs.Ready.{Ready, shards_in, byte_in, len_in, datagram_in, found_in}
use Rattle.parity_found.specs.FoundLaws.{found_at, length_found, itself}
use Rattle.parity_scan.specs.declared.held.Span.{Span}
use Rattle.parity_restore.specs.RestoreLaws.{rest_small}

-- ---- lists compared

pub same_is : (a c : List ℕ) → pointwise eqb a c ≡ same a c
unfolding same
same_is [] [] = refl
same_is [] (y ∷ c) = refl
same_is (x ∷ a) [] = refl
same_is (x ∷ a) (y ∷ c) = go (eqb x y) (same_is a c)
  where
    go : (b : Bool) → pointwise eqb a c ≡ same a c → (b && pointwise eqb a c) ≡ cond b (same a c) false
    go true e = e
    go false e = refl

-- equal lists are the same
pub same_equal : (a c : List ℕ) → a ≡ c → same a c ≡ true
same_equal a c e = ap (same a) (sym e) ∙ same_self a

-- ---- the group that is made of what is found

module _ (k : ℕ) (b : ℕ → List ℕ) where
  pub made_data : (p : ℕ) → p < k → shard (datagram_at k b p) ≡ shard_at (found k b) p
  made_data p l =
      let m : p < length (found k b) = rw (length_found k b) l in
      sym (shard_at_data (found k b) p m ∙ ap shard (found_at k b p l))

  pub made_parity : (p : ℕ) → k ≤ p → parity_shard (p - k) (found k b) ≡ shard_at (found k b) p
  made_parity p l =
      let e : p ≡ length (found k b) + (p - k) = (let f : length (found k b) ≡ k = length_found k b in omega arith) in
      sym (ap (shard_at (found k b)) e ∙ shard_at_parity (found k b) (p - k))

-- the shard that is held for place p, met where it lies
pub same_itself : (g : Group) (p at n : ℕ) (x : Span) (d : Option Span) → Ready g → p < g.shape.k → slice_index_or g.held p d ≡ Some x
    → x.at ≡ at → x.size ≡ n → lengths_ok g.shape.mtu (lengths_of (found_in g)) ≡ true
    → true ≡ same (take n (drop at g.frames.bytes.now)) (shard_at (found_in g) p)
same_itself g p at n x d r l e ea en ok =
    let z : slice_index_or g.held p None ≡ Some x = get_or_default g.held p None d (omega (arith, r.places, g.shape.few)) ∙ e in
    let pos : 0 < n = omega (arith, x.some) in
    sym (same_equal _ _ (itself g r p at n l pos (sym (ap span_at z ∙ ea)) (sym (ap span_size z ∙ en)) ok
    ∙ made_data g.shape.k (shards_in g) p l))

-- n bytes at `at` compared with c
pub same_part : (s : List ℕ) (at n : ℕ) (t c : List ℕ) → t ≡ c → pointwise eqb (take (at + n - at) (drop at s)) t ≡ same (take n (drop at s)) c
same_part s at n t c e =
    let z : at + n - at ≡ n = omega arith in
    same_is (take (at + n - at) (drop at s)) t ∙ ap₂ (λ (m : ℕ) (x : List ℕ). same (take m (drop at s)) x) z e

-- ---- the parity shards of what is found, from the last place to the first

-- byte x of the shard at place q; beyond the last place nothing
abbrev pub found_byte : Group → ℕ → ℕ → ℕ
found_byte g x q = get_or (shard (get_or (found_in g) q [])) x 0

solved_small : (k : ℕ) (s : List ℕ) (h : Held) → AllBytes s → (i j x : ℕ) → solved k (shard_in s h) i j x < 256
unfolding solved
solved_small k s h by i j x = go (eqb j 12) (has (shard_in s h) k)
  where
    small : (w : ℕ) → rest w k (shard_in s h) x < 256
    small w = rest_small k s h by w x

    go : (c d : Bool) →
        cond c (cond d (rest 0 k (shard_in s h) x) (mul (inverse (power i)) (rest 1 k (shard_in s h) x)))
        (mul (inverse (plus (power i) (power j))) (plus (rest 1 k (shard_in s h) x) (mul (power j) (rest 0 k (shard_in s h) x)))) < 256
    go true true = small 0
    go true false = mul_lt (inverse (power i)) (rest 1 k (shard_in s h) x) (small 1)
    go false d =
        mul_lt (inverse (plus (power i) (power j))) (plus (rest 1 k (shard_in s h) x) (mul (power j) (rest 0 k (shard_in s h) x)))
        (plus_lt (rest 1 k (shard_in s h) x) (mul (power j) (rest 0 k (shard_in s h) x)) (small 1)
        (mul_lt (power j) (rest 0 k (shard_in s h) x) (small 0)))

byte_small : (k : ℕ) (s : List ℕ) (h : Held) → AllBytes s → (i x : ℕ) → byte_at k (shard_in s h) i x < 256
unfolding byte_at shard_in
byte_small k s h by i x = go (has (shard_in s h) i)
  where
    go : (c : Bool) → cond c (get_or (shard_in s h i) x 0) (solved k (shard_in s h) i (other (has (shard_in s h)) i k) x) < 256
    go true = part_bytes s (at_in h i) (size_in h i) by x
    go false = solved_small k s h by i (other (has (shard_in s h)) i k) x

listed_small : (f : ℕ → ℕ) → ((x : ℕ) → f x < 256) → (n x : ℕ) → get_or (listed f n) x 0 < 256
listed_small f h n x = go (ltb x n) refl
  where
    go : (c : Bool) → ltb x n ≡ c → get_or (listed f n) x 0 < 256
    go true e = rw (get_d_listed f n x 0 (ltb-true x n e)) (h x)
    go false e =
        let l : n ≤ x = ltb-false x n e in
        let m : length (listed f n) ≤ x = rw (length_listed f n) l in
        rw (get_or-eq_default (listed f n) 0 m) (omega arith)

pub found_small : (g : Group) → (x q : ℕ) → found_byte g x q < 256
unfolding datagram_at
found_small g x q = shard_bytes (get_or (found_in g) q []) (each (ltb q g.shape.k) refl) x
  where
    each : (c : Bool) → ltb q g.shape.k ≡ c → (y : ℕ) → get_or (get_or (found_in g) q []) y 0 < 256
    each true e y =
        rw (found_at g.shape.k (shards_in g) q (ltb-true q g.shape.k e))
        (listed_small (λ z. byte_in g q (z + 2)) (λ z. byte_small g.shape.k g.frames.bytes.now g.held g.frames.small q (z + 2)) (len_in g q - 2) y)
    each false e y =
        let l : g.shape.k ≤ q = ltb-false q g.shape.k e in
        let m : length (found_in g) ≤ q = rw (length_found g.shape.k (shards_in g)) l in
        rw (get_or-eq_default (found_in g) [] m) (omega arith)

module _ (w : ℕ) (g : Group) where
  small : (x q : ℕ) → found_byte g x q < 256
  small = found_small g

  pub found_none : (m n : ℕ) (row : List ℕ) → m ≡ n → Row (λ x. 0) m row → Row (λ x. tail w (found_byte g x) g.shape.k g.shape.k) n row
  found_none = steps_none w (found_byte g) small g.shape.k

  pub found_next :
      (p q n : ℕ) (t row row₁ row₂ : List ℕ) →
      p ≡ q + 1 →
      q < g.shape.k →
      t ≡ shard (datagram_in g q) →
      Row (λ x. tail w (found_byte g x) p g.shape.k) n row →
      Row (λ x. stepped w (get_or row x 0)) (length row) row₁ →
      Row (λ x. plus (get_or row₁ x 0) (behind 0 t x)) (length row₁) row₂ →
      Row (λ x. tail w (found_byte g x) q g.shape.k) n row₂
  found_next p q n t row row₁ row₂ ep l et r r₁ r₂ =
      steps_next w (found_byte g) small g.shape.k p q n row row₁ row₂ ep l r r₁
      (row_same (λ x. plus (get_or row₁ x 0) (get_or t x 0)) (λ x. plus (get_or row₁ x 0) (found_byte g x q)) (length row₁) row₂
      (λ x m. ap (λ (c : List ℕ). plus (get_or row₁ x 0) (get_or c x 0)) (et ∙ ap shard (sym (found_at g.shape.k (shards_in g) q l))))
      (added_from_0 row₁ t row₂ r₂))

  pub found_done : (p n : ℕ) (row : List ℕ) → p ≤ 0 → n ≡ largest (lengths_of (found_in g)) + 2
      → Row (λ x. tail w (found_byte g x) p g.shape.k) n row →
      row ≡ parity_shard w (found_in g)
  unfolding parity_shard parity_byte longest
  found_done p n row l e r =
      row_listed (λ x. total (λ q. mul (weight w q) (found_byte g x q)) (length (found_in g))) (largest (lengths_of (found_in g)) + 2) row
      (rw (length_found g.shape.k (shards_in g))
      (steps_done w (found_byte g) small g.shape.k p n (largest (lengths_of (found_in g)) + 2) row l e r))

-- the row that holds a parity shard at its start
module _ (m w : ℕ) (ds : List (List ℕ)) (ys rest : List ℕ) (e : ys ≡ parity_shard w ds) (em : m ≡ largest (lengths_of ds) + 2) where
  row_length : length ys ≡ m
  row_length = ap length e ∙ length_parity_shard w ds ∙ sym em

  pub row_fits : m ≤ length (ys ++ rest)
  row_fits = rw length-append (omega (arith, row_length))

  pub row_prefix : m ≡ length (take m (ys ++ rest))
  row_prefix = sym (ap length (take_at ys rest m row_length) ∙ row_length)

  pub row_is : take m (ys ++ rest) ≡ parity_shard w ds
  row_is = take_at ys rest m row_length ∙ e

-- the largest datagram found fits a row
pub most_small : (g : Group) → lengths_ok g.shape.mtu (lengths_of (found_in g)) ≡ true → largest (lengths_of (found_in g)) ≤ g.shape.mtu
most_small g e = (add_up_most g.shape.mtu (lengths_of (found_in g)) e).1

-- what is found is listed place by place
pub listed_found : (g : Group) → lengths_ok g.shape.mtu (lengths_of (found_in g)) ≡ true
    → lengths_ok g.shape.mtu (lengths_of (listed (datagram_in g) g.shape.k)) ≡ true
unfolding found
listed_found g e = e

pub size_most : (g : Group) (q : ℕ) → q < g.shape.k → length (datagram_in g q) ≤ largest (lengths_of (found_in g))
size_most g q l = subst (λ (d : List ℕ). length d ≤ largest (lengths_of (found_in g))) (found_at g.shape.k (shards_in g) q l)
    (size_le (found_in g) q)

-- ---- a frame that passed is in the group where its shard is

same_front : (a x y : List ℕ) → same (a ++ x) (a ++ y) ≡ same x y
unfolding same
same_front [] x y = refl
same_front (v ∷ a) x y = rw (eq-eqb v v refl) (same_front a x y)

three_parts : (f : List ℕ) → take 4 f ++ (take 2 (drop 4 f) ++ drop 6 f) ≡ f
three_parts f =
    ap (λ (l : List ℕ). take 4 f ++ l) (ap (λ (l : List ℕ). take 2 (drop 4 f) ++ l) (sym (drop-drop 2 4 f)) ∙ take-append-drop 2 (drop 4 f))
    ∙ take-append-drop 4 f

number : (k g : ℕ) (f : List ℕ) → group_of k f ≡ g → g * (k + 2) + place_of k f ≡ number_at 4 f 0
unfolding group_of place_of
number k g f e = ap (λ (q : ℕ). q * (k + 2) + number_at 4 f 0 % (k + 2)) (sym e) ∙ div-add-mod' (number_at 4 f 0) (k + 2)

holds_shard : (k mtu g : ℕ) (ds : List (List ℕ)) (f : List ℕ) → length ds ≡ k → AllBytes f → Passes k mtu g f →
    holds k (g * (k + 2)) ds f ≡ same (drop 6 f) (shard_at ds (place_of k f))
unfolding holds frame_at frame
holds_shard k mtu g ds f el by r =
    let l : 32 ≤ length f = r.long in
    let s : g * (k + 2) + place_of k f ≡ number_at 4 f 0 = number k g f r.group in
    ap₂ (λ (a b : List ℕ). same a b) (sym (three_parts f))
    (ap₂ (λ (q t : List ℕ). q ++ (t ++ shard_at ds (place_of k f)))
    (ap (bytes_of 4) s ∙ bytes_of_number 4 f 0 by (omega arith))
    (ap (bytes_of 2) (ap (λ (m : ℕ). type_at m (place_of k f)) el ∙ sym r.type) ∙ bytes_of_number 2 f 4 by (omega arith)))
    ∙ same_front (take 4 f) (take 2 (drop 4 f) ++ drop 6 f) (take 2 (drop 4 f) ++ shard_at ds (place_of k f))
    ∙ same_front (take 2 (drop 4 f)) (drop 6 f) (shard_at ds (place_of k f))

every_get : (t : List ℕ → Bool) (fs : List (List ℕ)) (i : ℕ) → i < length fs → every t fs ≡ true → t (get_or fs i []) ≡ true
every_get t [] i l e = absurd (not-suc-le-zero l)
every_get t (f ∷ fs) zero l e = (every_first t f fs e).0
every_get t (f ∷ fs) (suc i) l e = every_get t fs i (omega arith) (every_first t f fs e).1

pub every_done : (t : List ℕ → Bool) (s ns : List ℕ) (i : ℕ) → length ns ≤ i → every t (drop i (parts s ns)) ≡ true
unfolding every
every_done t s ns i l =
    let m : length (parts s ns) ≤ i = rw (length_parts s ns) l in
    rw (drop_of_length-le (parts s ns) m)

module _ (s ns : List ℕ) (k mtu g : ℕ) (ds : List (List ℕ)) (by : AllBytes s) (el : length ds ≡ k) (whole : add_up ns ≤ length s)
    (all : every (frame_ok k mtu g) (parts s ns) ≡ true) (at i n : ℕ) (ea : at ≡ add_up (take i ns)) (more : i < length ns)
    (en : n ≡ get_or ns i 0) where
  part_is : get_or (parts s ns) i [] ≡ take n (drop at s)
  part_is = part_at s ns i more ∙ ap₂ (λ (m a : ℕ). take m (drop a s)) (sym en) (sym ea)

  pub given_room : at + n ≤ length s
  given_room = omega (arith, add_up_next ns i more, add_up_le ns (i + 1))

  right : Passes k mtu g (take n (drop at s))
  right = passes k mtu g (take n (drop at s))
      (ap (frame_ok k mtu g) (sym part_is) ∙ every_get (frame_ok k mtu g) (parts s ns) i (rw (length_parts s ns) more) all)

  pub given_long : 32 ≤ n
  given_long = let l : 32 ≤ length (take n (drop at s)) = right.long in omega (arith, length_part s at n given_room)

  given_is : holds k (g * (k + 2)) ds (get_or (parts s ns) i []) ≡ same (take (n - 6) (drop (at + 6) s))
      (shard_at ds (place_of k (take n (drop at s))))
  given_is =
      ap (holds k (g * (k + 2)) ds) part_is ∙ holds_shard k mtu g ds (take n (drop at s)) el (part_bytes s at n by) right
      ∙ ap (λ (l : List ℕ). same l (shard_at ds (place_of k (take n (drop at s)))))
      (drop_take 6 n (drop at s) ∙ ap (take (n - 6)) (drop-drop 6 at s))

  pub given_step : same (take (n - 6) (drop (at + 6) s)) (shard_at ds (place_of k (take n (drop at s)))) ≡ true →
      every (holds k (g * (k + 2)) ds) (drop i (parts s ns)) ≡ every (holds k (g * (k + 2)) ds) (drop (i + 1) (parts s ns))
  given_step e = every_cons (holds k (g * (k + 2)) ds) (parts s ns) i (rw (length_parts s ns) more) (given_is ∙ e)

  pub given_stop : same (take (n - 6) (drop (at + 6) s)) (shard_at ds (place_of k (take n (drop at s)))) ≡ false →
      every (holds k (g * (k + 2)) ds) (drop i (parts s ns)) ≡ false
  given_stop e = every_stop (holds k (g * (k + 2)) ds) (parts s ns) i (rw (length_parts s ns) more) (given_is ∙ e)
