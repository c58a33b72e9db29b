-- Steps of a scan: a frame checked, and its shard noted.
-- Assumes nothing.
use Rattle.std.specs.Prelude.{◌≡◌, Bool, ◌&&◌, ◌||◌, ℕ, zero, suc, ◌+◌}
use Rattle.std.specs.Prelude.{◌-◌, ◌≤◌, ◌<◌, leb, drop, set, replicate, slice_get, slice_index_or}
use Rattle.std.proofs.Math.Path.{refl, ap, subst}
use Rattle.std.proofs.Common.{sym, ◌∙◌, add-one, length-set, drop_of_length-le, drop-cons, drop-drop, Option, None, Some}
use Rattle.std.proofs.Math.Bool.{true, false, cond}
use mathlib.Core.List.{List, [], ◌∷◌}
use native.Mathlib.Omega.{arith}
use borrow.Author.Tests.{eqb-true, eqb-false, lt-ltb, le-ltb, le-leb, lt-leb}
use Rattle.std.proofs.Math.Dec.{eqb, ltb}
use Rattle.std.proofs.Math.ListN.{length, get_or, take}
use Rattle.std.proofs.Math.Seq.{get_or-set_same, get_or-set_other, take-nil}
use Rattle.wire.specs.LittleEndian.{number_at}
use Rattle.frames.specs.Lists.{parts, add_up, every}
use Rattle.frames.specs.Frames.{type_at}
use Rattle.frames.specs.Reading.{group_of, place_of, frame_ok, first_group, held_shard}
use Rattle.frames.specs.PartLaws.{Lies, lies, length_parts, length_part}
use Rattle.parity_scan.specs.declared.held.Span.{Span}
use Rattle.parity_scan.specs.Held.{Held, at_in, size_in, shard_in, sized, Inside, noted, Found}
use Rattle.recovery.specs.ReadingLaws.{passes}
use Rattle.parity_scan.specs.HeldLaws.{length_shard_in}

pub type_data : (k p : ℕ) → p < k → type_at k p ≡ 241
unfolding type_at
type_data k p h = rw (lt-ltb p k h)

pub type_parity : (k p : ℕ) → k ≤ p → type_at k p ≡ 242
unfolding type_at
type_parity k p h = rw (le-ltb p k h)

pub frame_right :
    (k mtu g : ℕ) (f : List ℕ) (p q t u len : ℕ) →
    32 ≤ length f →
    p ≡ place_of k f →
    q ≡ group_of k f →
    t ≡ number_at 2 f 4 →
    u ≡ type_at k p →
    len ≡ number_at 2 f 6 →
    (leb (length f) (mtu + 8) && eqb q g && eqb t u && (leb k p || eqb len (length f - 6))) ≡ frame_ok k mtu g f
unfolding frame_ok
frame_right k mtu g f p q t u len h ep eq et eu en = rw (eu, ep, eq, et, en, le-leb 32 (length f) h)

pub frame_short : (k mtu g : ℕ) (f : List ℕ) → length f < 32 → false ≡ frame_ok k mtu g f
unfolding frame_ok
frame_short k mtu g f h = rw (lt-leb 32 (length f) h)

-- ---- what is noted

pub drop_take : (m n : ℕ) (l : List ℕ) → drop m (take n l) ≡ take (n - m) (drop m l)
drop_take zero n l = let e : n ≡ n - 0 = omega arith in ap (λ (q : ℕ). take q l) e
drop_take (suc m) zero [] = let e : 0 - suc m ≡ 0 = omega arith in sym (ap (λ (q : ℕ). take {A = ℕ} q []) e)
drop_take (suc m) zero (x ∷ l) = let e : 0 - suc m ≡ 0 = omega arith in sym (ap (λ (q : ℕ). take q (drop m l)) e)
drop_take (suc m) (suc n) [] = sym (take-nil (suc n - suc m))
drop_take (suc m) (suc n) (x ∷ l) = let e : n - m ≡ suc n - suc m = omega arith in drop_take m n l ∙ ap (λ (q : ℕ). take q (drop m l)) e

unfoldable pub nonempty : List ℕ → List ℕ → List ℕ
nonempty a b = cond (ltb 0 (length a)) a b

pub every_cons : (t : List ℕ → Bool) (fs : List (List ℕ)) (i : ℕ) → i < length fs → t (get_or fs i []) ≡ true
    → every t (drop i fs) ≡ every t (drop (i + 1) fs)
unfolding every
every_cons t fs i h e = rw (add-one, drop-cons fs i [], e)

pub every_stop : (t : List ℕ → Bool) (fs : List (List ℕ)) (i : ℕ) → i < length fs → t (get_or fs i []) ≡ false → every t (drop i fs) ≡ false
unfolding every
every_stop t fs i h e = rw (drop-cons fs i [], e)

-- what a scan has seen at frame i, which starts at `at`
pub record Seen (s ns : List ℕ) (k mtu g : ℕ) (h : Held) (at i : ℕ) : Type 0 where
  pub within : i ≤ length ns
  pub place : at ≡ add_up (take i ns)
  pub checked : every (frame_ok k mtu g) (parts s ns) ≡ every (frame_ok k mtu g) (drop i (parts s ns))
  pub inside : Inside s h
  pub places : length h ≡ 12
  pub shards : (p : ℕ) → held_shard k (parts s ns) p ≡ nonempty (shard_in s h p) (held_shard k (drop i (parts s ns)) p)

-- nothing is held
abbrev none : Option Span
none = None

pub none_in : (n p : ℕ) → slice_index_or (replicate n none) p none ≡ none
none_in zero p = refl
none_in (suc n) zero = refl
none_in (suc n) (suc p) = none_in n p

pub seen_none : (s ns : List ℕ) (k mtu g : ℕ) → Seen s ns k mtu g (replicate 12 none) 0 0
unfolding nonempty shard_in add_up
seen_none s ns k mtu g = record {
  within = omega arith;
  place = refl;
  checked = refl;
  inside = record { inside = λ p. rw (none_in 12 p) (omega arith) };
  places = refl;
  shards = λ p. rw (none_in 12 p) refl;
}

module _ (s ns : List ℕ) (k mtu g : ℕ) (h : Held) (at i n : ℕ) (f : List ℕ) (seen : Seen s ns k mtu g h at i)
    (whole : add_up ns ≤ length s) (more : i < length ns) (en : n ≡ get_or ns i 0) (ef : f ≡ take (at + n - at) (drop at s)) where
  here : Lies s ns i at n
  here = lies s ns i at n whole more seen.place en

  part_is : get_or (parts s ns) i [] ≡ f
  part_is = sym (ef ∙ here.part)

  cut : f ≡ take n (drop at s)
  cut = let e : at + n - at ≡ n = omega arith in ef ∙ ap (λ (m : ℕ). take m (drop at s)) e

  length_given : length f ≡ n
  length_given = ap length ef ∙ here.size

  more_cut : i < length (parts s ns)
  more_cut = rw (length_parts s ns) more

  pub seen_stop : false ≡ frame_ok k mtu g f → every (frame_ok k mtu g) (parts s ns) ≡ false
  seen_stop e = seen.checked ∙ every_stop (frame_ok k mtu g) (parts s ns) i more_cut (ap (frame_ok k mtu g) part_is ∙ sym e)

  pub frame_long : true ≡ frame_ok k mtu g f → 32 ≤ n
  frame_long e = rw length_given at (passes k mtu g f (sym e)).long

  module _ (q : ℕ) (x : Span) (ok : true ≡ frame_ok k mtu g f) (eq : q ≡ place_of k f) (lq : q < 12)
      (ea : x.at ≡ at + 6) (es : x.size ≡ n - 6) where
    -- the frame's own shard
    own : List ℕ
    own = take (n - 6) (drop (at + 6) s)

    own_is : drop 6 f ≡ own
    unfolding own
    own_is = ap (drop 6) cut ∙ drop_take 6 n (drop at s) ∙ ap (take (n - 6)) (drop-drop 6 at s)

    long : 32 ≤ n
    long = frame_long ok

    length_own : length own ≡ n - 6
    unfolding own
    length_own = length_part s (at + 6) (n - 6) (let r = here.within in let l : 32 ≤ n = long in omega arith)

    shard_cons : (p : ℕ) → held_shard k (drop i (parts s ns)) p ≡ cond (eqb q p) own (held_shard k (drop (i + 1) (parts s ns)) p)
    unfolding held_shard
    shard_cons p =
        let m : i < length (parts s ns) = more_cut in
        rw (drop-cons (parts s ns) i [], part_is, ← eq, own_is, add-one)

    next : Held
    next = set h q (Some x)

    at_own : (p : ℕ) → q ≡ p → slice_index_or next p None ≡ Some x
    unfolding next
    at_own p e = let l : q < length h = rw seen.places lq in subst (λ (r : ℕ). slice_index_or (set h q (Some x)) r None ≡ Some x) e
        (get_or-set_same h q (Some x) None l)

    at_other : (p : ℕ) → (q ≡ p → ⊥) → slice_index_or next p None ≡ slice_index_or h p None
    unfolding next
    at_other p d = get_or-set_other h q p (Some x) None (λ e. d (sym e))

    next_own : (p : ℕ) → q ≡ p → shard_in s next p ≡ own
    unfolding shard_in own
    next_own p e = rw (at_own p e, ea, es)

    next_other : (p : ℕ) → (q ≡ p → ⊥) → shard_in s next p ≡ shard_in s h p
    unfolding shard_in
    next_other p d = rw (at_other p d)

    next_inside : (p : ℕ) → at_in next p + size_in next p ≤ length s
    next_inside p = go (eqb q p) refl
      where
        go : (b : Bool) → eqb q p ≡ b → at_in next p + size_in next p ≤ length s
        go true e = let r = here.within in let l : 32 ≤ n = long in rw (at_own p (eqb-true q p e), ea, es) (omega arith)
        go false e = rw (at_other p (eqb-false q p e)) (seen.inside.inside p)

    -- one more frame seen, where its place had a shard
    had_shard : sized h q ≡ true → (p : ℕ)
        → nonempty (shard_in s h p) (held_shard k (drop i (parts s ns)) p) ≡ nonempty (shard_in s h p)
        (held_shard k (drop (i + 1) (parts s ns)) p)
    unfolding nonempty sized
    had_shard e p = ap (λ (l : List ℕ). cond (ltb 0 (length (shard_in s h p))) (shard_in s h p) l) (shard_cons p) ∙ go (eqb q p) refl
      where
        go : (b : Bool) → eqb q p ≡ b
            → cond (ltb 0 (length (shard_in s h p))) (shard_in s h p) (cond b own (held_shard k (drop (i + 1) (parts s ns)) p))
            ≡ cond (ltb 0 (length (shard_in s h p))) (shard_in s h p) (held_shard k (drop (i + 1) (parts s ns)) p)
        go true f = rw (ap (λ (m : ℕ). ltb 0 m) (length_shard_in s h seen.inside p ∙ ap (λ (r : ℕ). size_in h r)
            (sym (eqb-true q p f))) ∙ e)
        go false f = refl

    -- and where it had none
    no_shard : sized h q ≡ false → (p : ℕ)
        → nonempty (shard_in s h p) (held_shard k (drop i (parts s ns)) p) ≡ nonempty (shard_in s next p)
        (held_shard k (drop (i + 1) (parts s ns)) p)
    unfolding nonempty sized
    no_shard e p = ap (λ (l : List ℕ). cond (ltb 0 (length (shard_in s h p))) (shard_in s h p) l) (shard_cons p) ∙ go (eqb q p) refl
      where
        go : (b : Bool) → eqb q p ≡ b
            → cond (ltb 0 (length (shard_in s h p))) (shard_in s h p) (cond b own (held_shard k (drop (i + 1) (parts s ns)) p))
            ≡ cond (ltb 0 (length (shard_in s next p))) (shard_in s next p) (held_shard k (drop (i + 1) (parts s ns)) p)
        go true f =
            let none : ltb 0 (length (shard_in s h p)) ≡ false =
            ap (λ (m : ℕ). ltb 0 m) (length_shard_in s h seen.inside p ∙ ap (λ (r : ℕ). size_in h r) (sym (eqb-true q p f))) ∙ e in
            let l : 32 ≤ n = long in
            rw (none, next_own p (eqb-true q p f), lt-ltb 0 (length own) (omega (arith, length_own)))
        go false f = rw (next_other p (eqb-false q p f))

    pub seen_next : Seen s ns k mtu g (noted h q x) (at + n) (i + 1)
    unfolding noted next
    seen_next = go (sized h q) refl
      where
        w : i + 1 ≤ length ns
        w = omega arith

        c : every (frame_ok k mtu g) (parts s ns) ≡ every (frame_ok k mtu g) (drop (i + 1) (parts s ns))
        c = seen.checked ∙ every_cons (frame_ok k mtu g) (parts s ns) i more_cut (ap (frame_ok k mtu g) part_is ∙ sym ok)

        go : (b : Bool) → sized h q ≡ b → Seen s ns k mtu g (cond b h (set h q (Some x))) (at + n) (i + 1)
        go true e = record {
          within = w;
          place = here.next;
          checked = c;
          inside = seen.inside;
          places = seen.places;
          shards = λ p. seen.shards p ∙ had_shard e p;
        }
        go false e = record {
          within = w;
          place = here.next;
          checked = c;
          inside = record { inside = next_inside };
          places = length-set h q (Some x) ∙ seen.places;
          shards = λ p. seen.shards p ∙ no_shard e p;
        }

pub seen_all : (s ns : List ℕ) (k mtu g : ℕ) (h : Held) (at i : ℕ) → Seen s ns k mtu g h at i → length ns ≤ i
    → Found s ns k mtu g (record { group = g; held = h })
unfolding every nonempty held_shard
seen_all s ns k mtu g h at i seen l =
    let m : length (parts s ns) ≤ i = rw (length_parts s ns) l in
    let e : drop i (parts s ns) ≡ [] = drop_of_length-le (parts s ns) m in
    record {
      right = seen.checked ∙ ap (every (frame_ok k mtu g)) e;
      group = refl;
      places = seen.places;
      held = record {
        inside = seen.inside;
        shards = λ p. sym (seen.shards p ∙ ap (λ (fs : List (List ℕ)). nonempty (shard_in s h p) (held_shard k fs p)) e ∙ self
            (shard_in s h p));
      };
    }
  where
    self : (l : List ℕ) → cond (ltb 0 (length l)) l [] ≡ l
    self [] = refl
    self (x ∷ l) = rw (lt-ltb 0 (suc (length l)) (omega arith))

-- ---- the first frame, o being the first length

pub first_none : (s ns : List ℕ) (k : ℕ) → None ≡ slice_get ns 0 → first_group k (parts s ns) ≡ 0
unfolding first_group parts
first_none s [] k e = refl
first_none s (n ∷ ns) k e = absurd (cc)

pub first_is : (s ns : List ℕ) (k m n g : ℕ) → Some m ≡ slice_get ns 0 → n ≡ m → g ≡ group_of k (take n s)
    → first_group k (parts s ns) ≡ g
unfolding first_group parts
first_is s [] k m n g e en eg = absurd (cc)
first_is s (q ∷ ns) k m n g e en eg = let z : n ≡ q = cc in rw z at (sym eg)

pub first_within : (s ns : List ℕ) (m n : ℕ) → add_up ns ≤ length s → Some m ≡ slice_get ns 0 → n ≡ m → n ≤ length s
unfolding add_up
first_within s [] m n w e en = absurd (cc)
first_within s (q ∷ ns) m n w e en = let z : n ≡ q = cc in omega arith

pub first_short : (s ns : List ℕ) (k mtu g m n : ℕ) → add_up ns ≤ length s → Some m ≡ slice_get ns 0 → n ≡ m → n < 32
    → every (frame_ok k mtu g) (parts s ns) ≡ false
unfolding parts every add_up
first_short s [] k mtu g m n w e en z = absurd (cc)
first_short s (q ∷ ns) k mtu g m n w e en z =
    let y : n ≡ q = cc in
    rw (sym (frame_short k mtu g (take q s) (omega (arith, length_part s 0 q (omega arith)))))
