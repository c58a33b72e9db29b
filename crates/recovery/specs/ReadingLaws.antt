-- Laws of a frame that passes by itself: its parts, and that as many places are held as there are different sequences.
-- Assumes nothing.
use Rattle.std.specs.Prelude.{◌≡◌, Bool, ◌&&◌, ◌||◌, eqb, leb, length, drop}
use Rattle.std.proofs.Math.Path.{refl, sym}
use Rattle.std.proofs.Common.{ap, ◌∙◌, not-suc-le-zero, leb-true, eqb-true, lt-ltb, eq-eqb, ne_eqb, div-add-mod'}
use Rattle.std.proofs.Math.Bool.{true, false, cond}
use mathlib.Core.List.{List, [], ◌∷◌, map}
use Prim.Native.Nat.{ℕ, zero, suc, ◌+◌, ◌-◌, ◌*◌, ◌≤◌, ◌<◌}
use Rattle.std.proofs.Math.Nat.{mod-lt}
use native.Mathlib.Omega.{arith}
use Rattle.std.proofs.lemmas.Bool.{eqb-false}
use Rattle.std.proofs.Math.Dec.{ltb}
use Rattle.std.proofs.Math.ListN.{length-drop}
use Rattle.wire.specs.LittleEndian.{number_at}
use Rattle.frames.specs.Lists.{count, every, among, different}
use Rattle.frames.specs.Frames.{type_at}
use Rattle.frames.specs.Reading.{sequence_of, group_of, place_of, frame_ok, held_shard, has}
use Rattle.frames.specs.PlaceLaws.{count_none}

-- what a frame that passes has
pub record Passes (k mtu n : ℕ) (f : List ℕ) : Type 0 where
  pub long : 32 ≤ length f
  pub short : length f ≤ mtu + 8
  pub group : group_of k f ≡ n
  pub type : number_at 2 f 4 ≡ type_at k (place_of k f)
  pub len : place_of k f < k → number_at 2 f 6 ≡ length f - 6

pub passes : (k mtu n : ℕ) (f : List ℕ) → frame_ok k mtu n f ≡ true → Passes k mtu n f
unfolding frame_ok
passes k mtu n f e =
    go (leb 32 (length f)) refl (leb (length f) (mtu + 8)) refl (eqb (group_of k f) n) refl
    (eqb (number_at 2 f 4) (type_at k (place_of k f))) refl (leb k (place_of k f)) refl (eqb (number_at 2 f 6) (length f - 6)) refl e
  where
    no : {A : Type 0} → false ≡ true → A
    no z = let y : ◌≡◌ {A = ℕ} 0 1 = cc in absurd (omega arith)

    go : (a : Bool) → leb 32 (length f) ≡ a → (b : Bool) → leb (length f) (mtu + 8) ≡ b → (c : Bool) → eqb (group_of k f) n ≡ c →
        (d : Bool) → eqb (number_at 2 f 4) (type_at k (place_of k f)) ≡ d → (p : Bool) → leb k (place_of k f) ≡ p →
        (q : Bool) → eqb (number_at 2 f 6) (length f - 6) ≡ q → (a && b && c && d && (p || q)) ≡ true → Passes k mtu n f
    go true ea true eb true ec true ed p ep q eq h = record {
      long = leb-true 32 (length f) ea;
      short = leb-true (length f) (mtu + 8) eb;
      group = eqb-true (group_of k f) n ec;
      type = eqb-true (number_at 2 f 4) (type_at k (place_of k f)) ed;
      len = λ l. last p ep q eq h l;
    }
      where
        last : (p : Bool) → leb k (place_of k f) ≡ p → (q : Bool) → eqb (number_at 2 f 6) (length f - 6) ≡ q → (p || q) ≡ true →
            place_of k f < k → number_at 2 f 6 ≡ length f - 6
        last true ep q eq h l = let m : k ≤ place_of k f = leb-true k (place_of k f) ep in absurd (omega arith)
        last false ep true eq h l = eqb-true (number_at 2 f 6) (length f - 6) eq
        last false ep false eq h l = no h
    go false ea b eb c ec d ed p ep q eq h = no h
    go true ea false eb c ec d ed p ep q eq h = no h
    go true ea true eb false ec d ed p ep q eq h = no h
    go true ea true eb true ec false ed p ep q eq h = no h

-- what holds of each frame holds of the first, and of the others
pub every_first : (t : List ℕ → Bool) (f : List ℕ) (fs : List (List ℕ)) → every t (f ∷ fs) ≡ true → (t f ≡ true) × (every t fs ≡ true)
unfolding every
every_first t f fs e = go (t f) refl e
  where
    go : (b : Bool) → t f ≡ b → cond b (every t fs) false ≡ true → (t f ≡ true) × (every t fs ≡ true)
    go true q h = (q, h)
    go false q h = let z : ◌≡◌ {A = ℕ} 0 1 = cc in absurd (omega arith)

-- ---- one place more

with_place : (ℕ → Bool) → ℕ → ℕ → Bool
with_place h q p = eqb q p || h p

module _ (h : ℕ → Bool) (q : ℕ) where
  count_beyond : (n : ℕ) → n ≤ q → count (with_place h q) n ≡ count h n
  unfolding count with_place
  count_beyond zero l = refl
  count_beyond (suc n) l =
      let d : q ≡ n → ⊥ = (λ e. omega arith) in
      rw (ne_eqb q n d, count_beyond n (omega arith))

  count_with : (n : ℕ) → q < n → count (with_place h q) n ≡ cond (h q) (count h n) (suc (count h n))
  unfolding count with_place
  count_with zero l = absurd (not-suc-le-zero l)
  count_with (suc n) l = go (eqb q n) refl (λ m. count_with n m)
    where
      here : (b : Bool) (c : ℕ) → suc c ≡ cond b (cond b (suc c) c) (suc (cond b (suc c) c))
      here true c = refl
      here false c = refl

      there : (a b : Bool) (c : ℕ) → cond b (suc (cond a c (suc c))) (cond a c (suc c)) ≡ cond a (cond b (suc c) c) (suc (cond b (suc c) c))
      there true true c = refl
      there true false c = refl
      there false true c = refl
      there false false c = refl

      go : (b : Bool) → eqb q n ≡ b → (q < n → count (with_place h q) n ≡ cond (h q) (count h n) (suc (count h n))) →
          cond (b || h n) (suc (count (with_place h q) n)) (count (with_place h q) n) ≡ cond (h q)
          (cond (h n) (suc (count h n)) (count h n)) (suc (cond (h n) (suc (count h n)) (count h n)))
      go true e ih =
          let z : q ≡ n = eqb-true q n e in
          rw (count_beyond n (omega arith), z) (here (h n) (count h n))
      go false e ih =
          let d : q ≡ n → ⊥ = eqb-false q n e in
          rw (ih (omega arith)) (there (h q) (h n) (count h n))

-- ---- sequences and places of one group

module _ (k mtu n : ℕ) where
  sequence_is : (f : List ℕ) → group_of k f ≡ n → sequence_of f ≡ n * (k + 2) + place_of k f
  unfolding group_of place_of
  sequence_is f e = sym (div-add-mod' (sequence_of f) (k + 2)) ∙ rw e

  pub place_lt : (f : List ℕ) → place_of k f < k + 2
  unfolding place_of
  place_lt f = mod-lt (sequence_of f) pos
    where
      pos : 0 < k + 2
      pos = omega arith

  same_place : (f g : List ℕ) → group_of k f ≡ n → group_of k g ≡ n → eqb (sequence_of f) (sequence_of g) ≡ eqb (place_of k f) (place_of k g)
  same_place f g a b =
      let x : sequence_of f ≡ n * (k + 2) + place_of k f = sequence_is f a in
      let y : sequence_of g ≡ n * (k + 2) + place_of k g = sequence_is g b in
      go (eqb (place_of k f) (place_of k g)) refl x y
    where
      go : (c : Bool) → eqb (place_of k f) (place_of k g) ≡ c → sequence_of f ≡ n * (k + 2) + place_of k f → sequence_of g ≡ n * (k + 2)
          + place_of k g → eqb (sequence_of f) (sequence_of g) ≡ c
      go true e x y = let z : place_of k f ≡ place_of k g = eqb-true (place_of k f) (place_of k g) e in
          eq-eqb (sequence_of f) (sequence_of g) (omega arith)
      go false e x y = let z : place_of k f ≡ place_of k g → ⊥ = eqb-false (place_of k f) (place_of k g) e in
          ne_eqb (sequence_of f) (sequence_of g) (λ q. z (omega arith))

  -- a place is held where a frame of it is
  has_frame : (f : List ℕ) (fs : List (List ℕ)) → 32 ≤ length f → (p : ℕ)
      → has (held_shard k (f ∷ fs)) p ≡ with_place (has (held_shard k fs)) (place_of k f) p
  unfolding held_shard with_place
  has_frame f fs l p = go (eqb (place_of k f) p)
    where
      go : (b : Bool) → ltb 0 (length (cond b (drop 6 f) (held_shard k fs p))) ≡ (b || ltb 0 (length (held_shard k fs p)))
      go true = rw length-drop (lt-ltb 0 (length f - 6) (omega arith))
      go false = refl

  among_is : (f : List ℕ) (fs : List (List ℕ)) → group_of k f ≡ n → every (frame_ok k mtu n) fs ≡ true →
      among (sequence_of f) (map sequence_of fs) ≡ has (held_shard k fs) (place_of k f)
  unfolding among held_shard with_place place_of
  among_is f [] e h = refl
  among_is f (g ∷ gs) e h =
      let t = every_first (frame_ok k mtu n) g gs h in
      let u = passes k mtu n g t.0 in
      rw (same_place g f u.group e, among_is f gs e t.1) (sym (has_frame g gs u.long (place_of k f)))

  -- 22 speaks of different sequences: these are the places held
  pub places_held : (fs : List (List ℕ)) → every (frame_ok k mtu n) fs ≡ true
      → different (map sequence_of fs) ≡ count (has (held_shard k fs)) (k + 2)
  unfolding different held_shard
  places_held [] h = sym (count_none (λ p. false) (λ p. refl) (k + 2))
  places_held (f ∷ fs) h =
      let t = every_first (frame_ok k mtu n) f fs h in
      let u = passes k mtu n f t.0 in
      rw (among_is f fs u.group t.1, places_held fs t.1)
      (sym (ap (λ (g : ℕ → Bool). count g (k + 2)) (λ i p. has_frame f fs u.long p i) ∙ count_with (has (held_shard k fs)) (place_of k f)
      (k + 2) (place_lt f)))
