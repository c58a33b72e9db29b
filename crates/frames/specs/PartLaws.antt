-- Laws of packed parts: their lengths, and what is stored one behind the other.
-- Assumes nothing.
use Rattle.std.specs.Prelude.{◌≡◌, refl, Bool, true, false, cond, ◌&&◌, List, [], ◌∷◌, ◌++◌, ℕ, zero, suc, ◌+◌, ◌-◌, ◌≤◌, ◌<◌, max, ltb, leb, length, get_or, take, drop, set}
use Rattle.std.proofs.Common.{sym, ap, ap₂, ◌∙◌, append_assoc, append-nil, not-suc-le-zero, zero-add, add-one, arith, leb-true, leb-false, ltb-true, ltb-false, le-leb, length-append, length-take, length-drop, drop_of_length-le, drop-cons, drop-drop, get_or-take, get_or-drop}
use Rattle.std.proofs.lemmas.Bool.{lt-leb}
use Rattle.std.proofs.Math.ListN.{get_or-eq_default}
use Rattle.std.proofs.lemmas.List.Edits.{sets}
use Rattle.wire.specs.LittleEndian.{AllBytes}
use Rattle.wire.specs.Stores.{sets_append}
use Rattle.frames.specs.Lists.{listed, joined, lengths_of, parts, add_up, largest}
use Rattle.frames.specs.Outcomes.{length_ok, lengths_ok}
use Rattle.frames.specs.PlaceLaws.{length_listed, listed_next}

-- ---- packed lengths

less : (n r m : ℕ) → n ≤ m → leb (n + r) m ≡ leb r (m - n)
less n r m h = go (leb r (m - n)) refl
  where
    go : (b : Bool) → leb r (m - n) ≡ b → leb (n + r) m ≡ b
    go true e = let l : r ≤ m - n = leb-true r (m - n) e in le-leb (n + r) m (omega arith)
    go false e = let l : m - n < r = leb-false r (m - n) e in lt-leb (n + r) m (omega arith)

add_up_cons : (ns : List ℕ) (i : ℕ) → i < length ns → add_up (drop i ns) ≡ get_or ns i 0 + add_up (drop (i + 1) ns)
unfolding add_up
add_up_cons ns i h = rw (add-one, drop-cons ns i 0)

pub packed_step : (ns : List ℕ) (i n left : ℕ) → n ≡ get_or ns i 0 → i < length ns → n ≤ left
    → leb (add_up (drop i ns)) left ≡ leb (add_up (drop (i + 1) ns)) (left - n)
packed_step ns i n left e h l = rw (add_up_cons ns i h, ← e) (less n (add_up (drop (i + 1) ns)) left l)

pub packed_short : (ns : List ℕ) (i n left : ℕ) → n ≡ get_or ns i 0 → i < length ns → left < n → leb (add_up (drop i ns)) left ≡ false
packed_short ns i n left e h l = rw (add_up_cons ns i h, ← e) (lt-leb (n + add_up (drop (i + 1) ns)) left (omega arith))

pub packed_end : (ns : List ℕ) (i left : ℕ) → length ns ≤ i → leb (add_up (drop i ns)) left ≡ true
unfolding add_up
packed_end ns i left h = rw (drop_of_length-le ns h) (le-leb 0 left (omega arith))

pub lengths_cons : (mtu n : ℕ) (ns : List ℕ) → lengths_ok mtu (n ∷ ns) ≡ (length_ok mtu n && lengths_ok mtu ns)
unfolding lengths_ok
lengths_cons mtu n ns = go (length_ok mtu n)
  where
    go : (b : Bool) → cond b (lengths_ok mtu ns) false ≡ (b && lengths_ok mtu ns)
    go true = refl
    go false = refl

pub largest_step : (ns : List ℕ) (i : ℕ) → i < length ns → largest (drop i ns) ≡ max (get_or ns i 0) (largest (drop (i + 1) ns))
unfolding largest
largest_step ns i h = rw (add-one, drop-cons ns i 0)

pub largest_end : (ns : List ℕ) (i : ℕ) → length ns ≤ i → largest (drop i ns) ≡ 0
unfolding largest
largest_end ns i h = rw (drop_of_length-le ns h)

-- ---- the parts that packed lengths say

pub length_parts : (s ns : List ℕ) → length (parts s ns) ≡ length ns
unfolding parts
length_parts s [] = refl
length_parts s (n ∷ ns) = ap suc (length_parts (drop n s) ns)

pub part_at : (s ns : List ℕ) (p : ℕ) → p < length ns → get_or (parts s ns) p [] ≡ take (get_or ns p 0) (drop (add_up (take p ns)) s)
unfolding parts add_up
part_at s [] p h = absurd (not-suc-le-zero h)
part_at s (n ∷ ns) zero h = refl
part_at s (n ∷ ns) (suc p) h =
    part_at (drop n s) ns p (omega arith) ∙ ap (take (get_or ns p 0)) (drop-drop (add_up (take p ns)) n s)

pub add_up_next : (ns : List ℕ) (p : ℕ) → p < length ns → add_up (take (p + 1) ns) ≡ add_up (take p ns) + get_or ns p 0
unfolding add_up
add_up_next [] p h = absurd (not-suc-le-zero h)
add_up_next (n ∷ ns) zero h = omega arith
add_up_next (n ∷ ns) (suc p) h =
    let e : add_up (take (p + 1) ns) ≡ add_up (take p ns) + get_or ns p 0 = add_up_next ns p (omega arith) in
    let f : suc p + 1 ≡ suc (p + 1) = omega arith in
    rw f (omega arith)

pub add_up_le : (ns : List ℕ) (p : ℕ) → add_up (take p ns) ≤ add_up ns
unfolding add_up
add_up_le [] zero = omega arith
add_up_le [] (suc p) = omega arith
add_up_le (n ∷ ns) zero = omega arith
add_up_le (n ∷ ns) (suc p) = let e : add_up (take p ns) ≤ add_up ns = add_up_le ns p in omega arith

pub length_part : (s : List ℕ) (from n : ℕ) → from + n ≤ length s → length (take n (drop from s)) ≡ n
length_part s from n h = simp (length-take, length-drop) (omega arith)

pub get_d_largest : (ns : List ℕ) (p : ℕ) → get_or ns p 0 ≤ largest ns
unfolding largest
get_d_largest [] p = omega arith
get_d_largest (n ∷ ns) zero = omega arith
get_d_largest (n ∷ ns) (suc p) = let h : get_or ns p 0 ≤ largest ns = get_d_largest ns p in omega arith

-- part p lies at `from` and has n bytes
pub record Lies (s ns : List ℕ) (p from n : ℕ) : Type 0 where
  pub within : from + n ≤ length s
  pub inside : from + n ≤ add_up ns
  pub small : n ≤ largest ns
  pub next : from + n ≡ add_up (take (p + 1) ns)
  pub size : length (take (from + n - from) (drop from s)) ≡ n
  pub part : take (from + n - from) (drop from s) ≡ get_or (parts s ns) p []

pub lies : (s ns : List ℕ) (p from n : ℕ) → add_up ns ≤ length s → p < length ns → from ≡ add_up (take p ns) → n ≡ get_or ns p 0
    → Lies s ns p from n
lies s ns p from n h l ef en =
    let a = add_up_next ns p l in
    let b = add_up_le ns (p + 1) in
    let w : from + n ≤ length s = omega (arith, a, b) in
    let e : from + n - from ≡ n = omega arith in
    record {
      within = w;
      inside = omega (arith, a, b);
      small = omega (arith, get_d_largest ns p);
      next = omega (arith, a);
      size = rw e (length_part s from n w);
      part = rw (e, ef, en) (sym (part_at s ns p l));
    }

pub size_le : (ds : List (List ℕ)) (p : ℕ) → length (get_or ds p []) ≤ largest (lengths_of ds)
unfolding lengths_of largest
size_le [] p = omega arith
size_le (d ∷ ds) zero = omega arith
size_le (d ∷ ds) (suc p) = let h : length (get_or ds p []) ≤ largest (lengths_of ds) = size_le ds p in omega arith

pub largest_le : (m : ℕ) (ds : List (List ℕ)) → ((p : ℕ) → p < length ds → length (get_or ds p []) ≤ m) → largest (lengths_of ds) ≤ m
unfolding lengths_of largest
largest_le m [] h = omega arith
largest_le m (d ∷ ds) h =
    let a : length d ≤ m = h 0 (omega arith) in
    let b : largest (lengths_of ds) ≤ m = largest_le m ds (λ p l. h (suc p) (omega arith)) in
    omega arith

pub largest_ge : (m : ℕ) (ds : List (List ℕ)) → 1 ≤ length ds → ((p : ℕ) → p < length ds → m ≤ length (get_or ds p []))
    → m ≤ largest (lengths_of ds)
unfolding lengths_of largest
largest_ge m [] l h = absurd (omega arith)
largest_ge m (d ∷ ds) l h = let a : m ≤ length d = h 0 (omega arith) in omega arith

-- ---- what is stored one behind the other

pub joined_append : (xs ys : List (List ℕ)) → joined (xs ++ ys) ≡ joined xs ++ joined ys
unfolding joined
joined_append [] ys = refl
joined_append (x ∷ xs) ys = ap (λ (l : List ℕ). x ++ l) (joined_append xs ys) ∙ sym (append_assoc x (joined xs) (joined ys))

pub joined_next : (f : ℕ → List ℕ) (n : ℕ) → joined (listed f (n + 1)) ≡ joined (listed f n) ++ f n
unfolding joined
joined_next f n = ap joined (listed_next f n) ∙ joined_append (listed f n) (f n ∷ []) ∙ ap (λ (l : List ℕ). joined (listed f n) ++ l)
    (append-nil (f n))

lengths_append : (xs ys : List (List ℕ)) → lengths_of (xs ++ ys) ≡ lengths_of xs ++ lengths_of ys
unfolding lengths_of
lengths_append [] ys = refl
lengths_append (x ∷ xs) ys = ap (λ (l : List ℕ). length x ∷ l) (lengths_append xs ys)

pub length_lengths : (xs : List (List ℕ)) → length (lengths_of xs) ≡ length xs
unfolding lengths_of
length_lengths [] = refl
length_lengths (x ∷ xs) = ap suc (length_lengths xs)

pub lengths_next : (f : ℕ → List ℕ) (n : ℕ) → lengths_of (listed f (n + 1)) ≡ lengths_of (listed f n) ++ (length (f n) ∷ [])
unfolding lengths_of
lengths_next f n = ap lengths_of (listed_next f n) ∙ lengths_append (listed f n) (f n ∷ [])

-- one more part behind those that stand there
pub stored : (f : ℕ → List ℕ) (p at : ℕ) (out₀ out next : List ℕ) → out ≡ sets out₀ 0 (joined (listed f p))
    → at ≡ length (joined (listed f p))
    → next ≡ sets out at (f p) → next ≡ sets out₀ 0 (joined (listed f (p + 1)))
stored f p at out₀ out next e l s =
    s ∙ ap₂ (λ (o : List ℕ) (a : ℕ). sets o a (f p)) e (l ∙ sym (zero-add (length (joined (listed f p)))))
    ∙ sym (sets_append out₀ 0 (joined (listed f p)) (f p)) ∙ ap (sets out₀ 0) (sym (joined_next f p))

pub noted : (f : ℕ → List ℕ) (p v : ℕ) (out₀ out : List ℕ) → out ≡ sets out₀ 0 (lengths_of (listed f p)) → v ≡ length (f p)
    → set out p v ≡ sets out₀ 0 (lengths_of (listed f (p + 1)))
noted f p v out₀ out e l =
    ap₂ (λ (o : List ℕ) (w : ℕ). set o p w) e l
    ∙ ap (λ (q : ℕ). sets (sets out₀ 0 (lengths_of (listed f p))) q (length (f p) ∷ []))
    (sym (zero-add (length (lengths_of (listed f p))) ∙ length_lengths (listed f p) ∙ length_listed f p))
    ∙ sym (sets_append out₀ 0 (lengths_of (listed f p)) (length (f p) ∷ [])) ∙ ap (sets out₀ 0) (sym (lengths_next f p))

pub lengths_parts : (s ns : List ℕ) → add_up ns ≤ length s → lengths_of (parts s ns) ≡ ns
unfolding lengths_of parts add_up
lengths_parts s [] h = refl
lengths_parts s (n ∷ ns) h =
    ap₂ {C = List ℕ} (λ m r. m ∷ r) (length_part s 0 n (omega arith)) (lengths_parts (drop n s) ns (rest s n (add_up ns) h))
  where
    rest : (s : List ℕ) (n r : ℕ) → n + r ≤ length s → r ≤ length (drop n s)
    rest s n r h = simp length-drop (omega arith)

pub length_joined_next : (f : ℕ → List ℕ) (n : ℕ) → length (joined (listed f (n + 1))) ≡ length (joined (listed f n)) + length (f n)
length_joined_next f n = ap length (joined_next f n) ∙ length-append (joined (listed f n)) (f n)

-- ---- bytes

take_bytes : (n : ℕ) (s : List ℕ) → AllBytes s → AllBytes (take n s)
take_bytes n s h i = go (ltb i n) refl
  where
    go : (b : Bool) → ltb i n ≡ b → get_or (take n s) i 0 < 256
    go true e = rw (get_or-take n s i 0 (ltb-true i n e)) (h i)
    go false e =
        let l : n ≤ i = ltb-false i n e in
        let m : length (take n s) ≤ i = simp length-take (omega arith) in
        rw (get_or-eq_default (take n s) 0 m) (omega arith)

drop_bytes : (n : ℕ) (s : List ℕ) → AllBytes s → AllBytes (drop n s)
drop_bytes n s h i = rw (get_or-drop n s i 0) (h (n + i))

pub part_bytes : (s : List ℕ) (at n : ℕ) → AllBytes s → AllBytes (take n (drop at s))
part_bytes s at n h = take_bytes n (drop at s) (drop_bytes at s h)

-- packed bytes are bytes part by part
pub parts_bytes : (s ns : List ℕ) → AllBytes s → (p x : ℕ) → get_or (get_or (parts s ns) p []) x 0 < 256
unfolding parts
parts_bytes s [] h p x = omega arith
parts_bytes s (n ∷ ns) h zero x = take_bytes n s h x
parts_bytes s (n ∷ ns) h (suc p) x = parts_bytes (drop n s) ns (drop_bytes n s h) p x
