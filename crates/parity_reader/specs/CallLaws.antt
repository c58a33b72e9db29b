-- The reader's tests in turn.
-- Assumes nothing.
use Rattle.std.specs.Prelude.{◌≡◌, Bool, cond, ◌&&◌, Result, leb, length, take, drop}
use Rattle.std.proofs.Math.Path.{refl, sym, ap}
use Rattle.std.proofs.Common.{◌∙◌, subst, arith, length-append, length-drop, take_at, length-take-le}
use Rattle.std.proofs.Math.Bool.{true, false}
use mathlib.Core.List.{List, [], ◌∷◌, ◌++◌, map}
use Prim.Native.Nat.{ℕ, ◌+◌, ◌-◌, ◌*◌, ◌≤◌, ◌<◌}
use borrow.Author.Tests.{leb-true, eqb-true, ltb-true, lt-ltb, le-ltb}
use Rattle.std.proofs.Math.Dec.{eqb}
use Rattle.wire.specs.LittleEndian.{number_at}
use Rattle.wire.specs.LittleEndianLaws.{number_at_drop}
use Rattle.frames.specs.declared.Refusal.{Refusal}
use Rattle.frames.specs.declared.Refusal.TheVariants.{ShortPart, SettingOutOfRange, NotAGroup, TooFewFrames}
use Rattle.frames.specs.Lists.{lengths_of, parts, add_up, count, other, every, different}
use Rattle.frames.specs.Outcomes.{Outcome, refused, wrote, Gives, settings_ok, lent_ok, lengths_ok}
use Rattle.frames.specs.Reading.{sequence_of, place_of, frame_ok, first_group, held_shard, has, rest, found, holds, read_group, read_frames, read_of}
use Rattle.frames.specs.OutcomeLaws.{and_left, and_right}
use Rattle.recovery.specs.ReadingLaws.{Passes, passes, every_first, places_held}
use Rattle.parity_scan.specs.declared.scan.Scanned.{Scanned}
use Rattle.parity_scan.specs.Held.{Held, size_in, shard_in, sized, Gathered, Found}
use Rattle.parity_scan.specs.HeldLaws.{has_sized, length_shard_in}
use Rattle.parity_restore.specs.Restored.{place, Within, Restored}
use Rattle.parity_found.specs.declared.found.Group.{Group}
use Rattle.parity_found.specs.Ready.{shards_in, Ready}

-- ---- a shard that frames which passed give

record Proper (k mtu p : ℕ) (l : List ℕ) : Type 0 where
  short : length l ≤ mtu + 2
  long : 0 < length l → 26 ≤ length l
  len : p < k → 0 < length l → number_at 2 l 0 ≡ length l

module _ (k mtu n : ℕ) where
  proper_none : (p : ℕ) → Proper k mtu p []
  proper_none p = record { short = omega arith; long = λ h. absurd (omega arith); len = λ l h. absurd (omega arith) }

  proper_frame : (p : ℕ) (f : List ℕ) → Passes k mtu n f → place_of k f ≡ p → Proper k mtu p (drop 6 f)
  proper_frame p f t e =
      let z : length (drop 6 f) ≡ length f - 6 = length-drop 6 f in
      record {
        short = omega (arith, z, t.short);
        long = λ h. omega (arith, z, t.long);
        len = λ l h. number_at_drop 2 6 f 0 ∙ t.len (omega (arith, e)) ∙ sym z;
      }

  held_proper : (fs : List (List ℕ)) → every (frame_ok k mtu n) fs ≡ true → (p : ℕ) → Proper k mtu p (held_shard k fs p)
  unfolding held_shard
  held_proper [] h p = proper_none p
  held_proper (f ∷ fs) h p = go (eqb (place_of k f) p) refl (held_proper fs (every_first (frame_ok k mtu n) f fs h).1 p)
    where
      go : (b : Bool) → eqb (place_of k f) p ≡ b → Proper k mtu p (held_shard k fs p) → Proper k mtu p (cond b (drop 6 f) (held_shard k fs p))
      go true e others = proper_frame p f (passes k mtu n f (every_first (frame_ok k mtu n) f fs h).0) (eqb-true (place_of k f) p e)
      go false e others = others

-- ---- once each frame has passed

module _ (k mtu g : ℕ) (s ns : List ℕ) (h : Held) (all : every (frame_ok k mtu g) (parts s ns) ≡ true) (ga : Gathered s ns k h) where
  shards_are : shard_in s h ≡ held_shard k (parts s ns)
  shards_are i p = ga.shards p i

  proper : (p : ℕ) → Proper k mtu p (shard_in s h p)
  proper p = subst (Proper k mtu p) (sym (ga.shards p)) (held_proper k mtu g (parts s ns) all p)

  size_is : (p : ℕ) → length (shard_in s h p) ≡ size_in h p
  size_is p = length_shard_in s h ga.inside p

  pub within : (m : ℕ) → m ≡ mtu + 2 → Within h m
  within m e = record { within = λ p. omega (arith, size_is p, (proper p).short) }

  some : (p : ℕ) → sized h p ≡ true → 0 < length (shard_in s h p)
  unfolding sized
  some p e = let l : 0 < size_in h p = ltb-true 0 (size_in h p) e in omega (arith, size_is p)

  pub long : (p : ℕ) → sized h p ≡ true → 26 ≤ size_in h p
  long p e = omega (arith, size_is p, (proper p).long (some p e))

  pub len_right : (p : ℕ) → p < k → sized h p ≡ true → number_at 2 (shard_in s h p) 0 ≡ size_in h p
  len_right p l e = (proper p).len l (some p e) ∙ size_is p

  counts_are : different (map sequence_of (parts s ns)) ≡ count (sized h) (k + 2)
  counts_are =
      places_held k mtu g (parts s ns) all ∙ ap (λ (b : ℕ → List ℕ). count (has b) (k + 2)) (sym shards_are)
      ∙ ap (λ (t : ℕ → Bool). count t (k + 2)) (has_sized s h ga.inside)

  verdict : (ℕ → List ℕ) → Bool
  verdict b = lengths_ok mtu (lengths_of (found k b)) && every (holds k (g * (k + 2)) (found k b)) (parts s ns)

  pub after_22 : (n : ℕ) → n ≡ count (sized h) (k + 2) → n < k → read_group k mtu g (parts s ns) ≡ refused TooFewFrames
  unfolding read_group
  after_22 n e l = rw (counts_are, ← e, lt-ltb n k l)

  pub after_21 : (n : ℕ) → n ≡ count (sized h) (k + 2) → k ≤ n →
      (lengths_ok mtu (lengths_of (found k (shard_in s h))) && every (holds k (g * (k + 2)) (found k (shard_in s h))) (parts s ns)) ≡ false →
      read_group k mtu g (parts s ns) ≡ refused NotAGroup
  unfolding read_group verdict
  after_21 n e l v =
      let w : (lengths_ok mtu (lengths_of (found k (held_shard k (parts s ns))))
      && every (holds k (g * (k + 2)) (found k (held_shard k (parts s ns)))) (parts s ns)) ≡ false =
      ap verdict (sym shards_are) ∙ v in
      rw (counts_are, ← e, le-ltb n k l, w)

  pub after_all : (n : ℕ) → n ≡ count (sized h) (k + 2) → k ≤ n →
      (lengths_ok mtu (lengths_of (found k (shard_in s h))) && every (holds k (g * (k + 2)) (found k (shard_in s h))) (parts s ns)) ≡ true →
      read_group k mtu g (parts s ns) ≡ wrote (found k (shard_in s h))
  unfolding read_group verdict
  after_all n e l v =
      let w : (lengths_ok mtu (lengths_of (found k (held_shard k (parts s ns))))
      && every (holds k (g * (k + 2)) (found k (held_shard k (parts s ns)))) (parts s ns)) ≡ true =
      ap verdict (sym shards_are) ∙ v in
      rw (counts_are, ← e, le-ltb n k l, w) (ap (λ (b : ℕ → List ℕ). wrote (found k b)) (sym shards_are))

-- the group that is made of what is held and restored
pub ready :
    (gr : Group) (g c m : ℕ) (a b ra rb : List ℕ) →
    Found gr.frames.bytes.now gr.frames.lengths.now gr.shape.k gr.shape.mtu g (record { group = g; held = gr.held }) →
    c ≡ count (sized gr.held) (gr.shape.k + 2) →
    gr.shape.k ≤ c →
    place gr.first ≡ other (sized gr.held) 12 gr.shape.k →
    place gr.second ≡ other (sized gr.held) (place gr.first) gr.shape.k →
    m ≡ gr.shape.mtu + 2 →
    Restored gr.shape.k (shards_in gr) (place gr.first) (place gr.second) m a b →
    gr.a.now ≡ take (gr.shape.mtu + 2) (a ++ ra) →
    gr.b.now ≡ take (gr.shape.mtu + 2) (b ++ rb) →
    Ready gr
ready gr g c m a b ra rb f ec enough ei ej em r ea eb =
    let x : gr.a.now ≡ a = ea ∙ take_at a ra (gr.shape.mtu + 2) (r.size_a ∙ em) in
    let y : gr.b.now ≡ b = eb ∙ take_at b rb (gr.shape.mtu + 2) (r.size_b ∙ em) in
    record {
      inside = f.held.inside;
      places = f.places;
      enough = omega (arith, ec, enough);
      first = ei;
      second = ej;
      restored = rw (x, y, ← em) r;
      long = long gr.shape.k gr.shape.mtu g gr.frames.bytes.now gr.frames.lengths.now gr.held f.right f.held;
      len = len_right gr.shape.k gr.shape.mtu g gr.frames.bytes.now gr.frames.lengths.now gr.held f.right f.held;
    }

-- what stands at the start of a row
prefix : (l rest : List ℕ) (n : ℕ) → length l ≡ n → (n ≤ length (l ++ rest)) × (n ≡ length (take n (l ++ rest)))
prefix l rest n e =
    let f : n ≤ length (l ++ rest) = rw length-append (omega arith) in
    (f, sym (length-take-le n (l ++ rest) f))

module _ (k i j m n : ℕ) (shards : ℕ → List ℕ) (a b rest : List ℕ) (r : Restored k shards i j m a b) (e : m ≡ n) where
  pub first_prefix : (n ≤ length (a ++ rest)) × (n ≡ length (take n (a ++ rest)))
  first_prefix = prefix a rest n (r.size_a ∙ e)

  pub second_prefix : (n ≤ length (b ++ rest)) × (n ≡ length (take n (b ++ rest)))
  second_prefix = prefix b rest n (r.size_b ∙ e)

-- ---- the whole

module _ (k mtu : ℕ) (s ns : List ℕ) (room slots : ℕ) (lent : lent_ok (length s) ns 10 mtu room slots ≡ true) where
  pub whole : add_up ns ≤ length s
  whole = leb-true (add_up ns) (length s) (and_left (leb (add_up ns) (length s)) (leb (10 * mtu) room)
      (and_left (leb (add_up ns) (length s) && leb (10 * mtu) room) (leb 10 slots) lent))

  pub roomy : 10 * mtu ≤ room
  roomy = leb-true (10 * mtu) room (and_right (leb (add_up ns) (length s)) (leb (10 * mtu) room)
      (and_left (leb (add_up ns) (length s) && leb (10 * mtu) room) (leb 10 slots) lent))

  pub slotted : 10 ≤ slots
  slotted = leb-true 10 slots (and_right (leb (add_up ns) (length s) && leb (10 * mtu) room) (leb 10 slots) lent)

  pub read_12 : settings_ok k mtu ≡ false → read_of k mtu s ns room slots ≡ refused SettingOutOfRange
  unfolding read_of
  read_12 b = rw (lent, b)

  module _ (settings : settings_ok k mtu ≡ true) where
    pub few : k ≤ 10
    few = leb-true k 10 (and_right (leb 1 k) (leb k 10)
        (and_left (leb 1 k && leb k 10) (leb 50 mtu) (and_left (leb 1 k && leb k 10 && leb 50 mtu) (leb mtu 1400) settings)))

    pub small : mtu ≤ 1400
    small = leb-true mtu 1400 (and_right (leb 1 k && leb k 10 && leb 50 mtu) (leb mtu 1400) settings)

    pub read_21 : every (frame_ok k mtu (first_group k (parts s ns))) (parts s ns) ≡ false → read_of k mtu s ns room slots ≡ refused NotAGroup
    unfolding read_of read_frames
    read_21 e = rw (lent, settings, e)

    pub read_rest : (x : Scanned) → Found s ns k mtu (first_group k (parts s ns)) x →
        read_group k mtu x.group (parts s ns) ≡ read_of k mtu s ns room slots
    unfolding read_of read_frames
    read_rest x f = rw (lent, settings, f.right) (ap (λ (n : ℕ). read_group k mtu n (parts s ns)) f.group)

-- the group that was found is its own
pub found_own : (s ns : List ℕ) (k mtu n : ℕ) (x : Scanned) → Found s ns k mtu n x → Found s ns k mtu x.group x
found_own s ns k mtu n x f = subst (λ (m : ℕ). Found s ns k mtu m x) (sym f.group) f

pub read_7 : (k mtu : ℕ) (s ns : List ℕ) (room slots : ℕ) → lent_ok (length s) ns 10 mtu room slots ≡ false
    → read_of k mtu s ns room slots ≡ refused ShortPart
unfolding read_of
read_7 k mtu s ns room slots a = rw a

-- the same answer by an equal outcome
pub carried : (o p : Outcome) (a : Result ℕ Refusal) (out lens out' lens' : List ℕ) → o ≡ p → Gives o out lens a out' lens'
    → Gives p out lens a out' lens'
carried o p a out lens out' lens' e t = subst (λ (q : Outcome). Gives q out lens a out' lens') e t
