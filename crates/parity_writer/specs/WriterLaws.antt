-- Steps of the writer: the data frames, one behind the other, and the parity frames behind them.
-- Assumes nothing.
use Rattle.std.specs.Prelude.{◌≡◌, refl, ℕ, zero, suc, ◌+◌, ◌-◌, ◌*◌, ◌≤◌, ◌<◌, get_or, take, set}
use Rattle.std.proofs.Math.Path.{sym, ap}
use Rattle.std.proofs.Common.{ap₂, ◌∙◌, subst, add-one, lt-ltb, le-ltb, length-set, drop-drop, take_all}
use mathlib.Core.List.{List, [], append_assoc}
use native.Mathlib.Omega.{arith}
use Rattle.std.proofs.Math.ListN.{length}
use borrow.Rule.Slice.PartMut.{put_mid}
use Rattle.std.proofs.Math.Seq.{sets, length-sets}
use Rattle.std.proofs.lemmas.List.Edits.{sets-eq}
use Rattle.wire.specs.LittleEndian.{bytes_of}
use Rattle.wire.specs.LittleEndianLaws.{length_bytes_of}
use Rattle.wire.specs.Stores.{sets_append}
use Rattle.frames.specs.Lists.{listed, joined, lengths_of, parts, add_up, largest}
use Rattle.frames.specs.Frames.{shard, longest, parity_byte, parity_shard, type_at, shard_at, frame, frame_at, group}
use Rattle.frames.specs.PlaceLaws.{length_listed}
use Rattle.frames.specs.PartLaws.{length_parts, add_up_next, lies, stored, noted, lengths_parts, length_joined_next}
use Rattle.frames.specs.FrameLaws.{length_shard, length_parity_shard, shard_at_data, shard_at_parity, length_frame}

-- ---- the data frames

pub data_frame : (start : ℕ) (ds : List (List ℕ)) (p : ℕ) → p < length ds → frame (start + p) 241 (shard (get_or ds p [])) ≡ frame_at start ds p
unfolding frame_at type_at
data_frame start ds p l = rw (lt-ltb p (length ds) l) (ap (frame (start + p) 241) (sym (shard_at_data ds p l)))

pub length_data : (start : ℕ) (s ns : List ℕ) (p : ℕ) → add_up ns ≤ length s → p < length ns
    → length (frame_at start (parts s ns) p) ≡ get_or ns p 0 + 8
length_data start s ns p w h =
    let l = lies s ns p (add_up (take p ns)) (get_or ns p 0) w h refl refl in
    let m : p < length (parts s ns) = rw (length_parts s ns) h in
    let d = get_or (parts s ns) p [] in
    ap length (sym (data_frame start (parts s ns) p m)) ∙ length_frame (start + p) 241 (shard d)
    ∙ omega (arith, length_shard d, ap length l.part, l.size)

-- what stands after p data frames
pub record Filled (start : ℕ) (s ns out₀ lens₀ out lens : List ℕ) (from at p : ℕ) : Type 0 where
  pub within : p ≤ length ns
  pub read : from ≡ add_up (take p ns)
  pub place : at ≡ from + 8 * p
  pub room : length out ≡ length out₀
  pub slots : length lens ≡ length lens₀
  pub end : at ≡ length (joined (listed (frame_at start (parts s ns)) p))
  pub bytes : out ≡ sets out₀ 0 (joined (listed (frame_at start (parts s ns)) p))
  pub lengths : lens ≡ sets lens₀ 0 (lengths_of (listed (frame_at start (parts s ns)) p))

pub filled_none : (start : ℕ) (s ns out lens : List ℕ) → Filled start s ns out lens out lens 0 0 0
unfolding listed joined lengths_of add_up
filled_none start s ns out lens =
    record {
      within = omega arith;
      read = refl;
      place = omega arith;
      room = refl;
      slots = refl;
      end = refl;
      bytes = refl;
      lengths = refl;
    }

pub filled_next : (start : ℕ) (s ns out₀ lens₀ out lens next d : List ℕ) (from at p n v : ℕ)
    → Filled start s ns out₀ lens₀ out lens from at p
    → add_up ns ≤ length s → p < length ns → n ≡ get_or ns p 0 → v ≡ n + 8
    → d ≡ get_or (parts s ns) p [] → next ≡ sets out at (frame (start + p) 241 (shard d))
    → Filled start s ns out₀ lens₀ next (set lens p v) (from + n) (at + (n + 8)) (p + 1)
filled_next start s ns out₀ lens₀ out lens next d from at p n v f w h en ev ed e =
    let l = lies s ns p from n w h f.read en in
    let t : at ≡ from + 8 * p = f.place in
    let z : at ≡ length (joined (listed (frame_at start (parts s ns)) p)) = f.end in
    let g : length (frame_at start (parts s ns) p) ≡ get_or ns p 0 + 8 = length_data start s ns p w h in
    let m : p < length (parts s ns) = rw (length_parts s ns) h in
    record {
      within = omega arith;
      read = l.next;
      place = omega arith;
      room = ap length e ∙ length-sets out at (frame (start + p) 241 (shard d)) ∙ f.room;
      slots = length-set lens p v ∙ f.slots;
      end = omega (arith, length_joined_next (frame_at start (parts s ns)) p);
      bytes = stored (frame_at start (parts s ns)) p at out₀ out next f.bytes f.end
          (e ∙ ap (λ (x : List ℕ). sets out at (frame (start + p) 241 (shard x))) ed
          ∙ ap (sets out at) (data_frame start (parts s ns) p m));
      lengths = noted (frame_at start (parts s ns)) p v lens₀ lens f.lengths (omega arith);
    }

-- what is lent as a part, and comes back as ys, is stored
pub mid_stored : (a k : ℕ) (xs ys : List ℕ) → length ys ≡ k → a + k ≤ length xs → put_mid a k xs ys ≡ sets xs a ys
mid_stored a k xs ys e h = sym (sets-eq ys xs a (rw e h) ∙ rw (e, append_assoc, ← drop-drop))

-- a head and a shard, stored one behind the other
pub data_stored :
    (seq at n : ℕ) (d o₀ o₁ o₂ o₃ o₄ : List ℕ) →
    length d ≡ n →
    o₁ ≡ sets o₀ at (bytes_of 4 seq) →
    o₂ ≡ sets o₁ (at + 4) (bytes_of 2 241) →
    o₃ ≡ sets o₂ (at + 6) (bytes_of 2 (n + 2)) →
    o₄ ≡ sets o₃ (at + 8) d →
    o₄ ≡ sets o₀ at (frame seq 241 (shard d))
unfolding frame shard
data_stored seq at n d o₀ o₁ o₂ o₃ o₄ l e₁ e₂ e₃ e₄ =
    let p : at + 4 + 2 ≡ at + 6 = omega arith in
    let q : at + 6 + 2 ≡ at + 8 = omega arith in
    e₄
    ∙ ap (λ (o : List ℕ). sets o (at + 8) d) (e₃ ∙ ap (λ (o : List ℕ). sets o (at + 6) (bytes_of 2 (n + 2)))
    (e₂ ∙ ap (λ (o : List ℕ). sets o (at + 4) (bytes_of 2 241)) e₁))
    ∙ sym (rw l (simp (sets_append, length_bytes_of) (rw (p, q))))

pub parity_stored : (seq at : ℕ) (c o₀ o₁ o₂ o₃ : List ℕ) → o₁ ≡ sets o₀ at (bytes_of 4 seq)
    → o₂ ≡ sets o₁ (at + 4) (bytes_of 2 242)
    → o₃ ≡ sets o₂ (at + 6) c → o₃ ≡ sets o₀ at (frame seq 242 c)
unfolding frame
parity_stored seq at c o₀ o₁ o₂ o₃ e₁ e₂ e₃ =
    let p : at + 4 + 2 ≡ at + 6 = omega arith in
    e₃ ∙ ap (λ (o : List ℕ). sets o (at + 6) c) (e₂ ∙ ap (λ (o : List ℕ). sets o (at + 4) (bytes_of 2 242)) e₁)
    ∙ sym (simp (sets_append, length_bytes_of) (rw p))

pub parity_lent :
    (seq at w size : ℕ) (s ns o₀ o₁ o₂ ys : List ℕ) →
    add_up ns ≤ length s →
    size ≡ largest ns →
    at + (largest ns + 8) ≤ length o₀ →
    o₁ ≡ sets o₀ at (bytes_of 4 seq) →
    o₂ ≡ sets o₁ (at + 4) (bytes_of 2 242) →
    ys ≡ parity_shard w (parts s ns) →
    put_mid (at + 6) (at + 6 + (size + 2) - (at + 6)) o₂ ys ≡ sets o₀ at (frame seq 242 (parity_shard w (parts s ns)))
parity_lent seq at w size s ns o₀ o₁ o₂ ys whole e room e₁ e₂ e₃ =
    let n : length ys ≡ largest ns + 2 =
    ap length e₃ ∙ length_parity_shard w (parts s ns) ∙ ap (λ (l : List ℕ). largest l + 2) (lengths_parts s ns whole) in
    let l : length o₂ ≡ length o₀ =
    ap length e₂ ∙ length-sets o₁ (at + 4) (bytes_of 2 242) ∙ ap length e₁ ∙ length-sets o₀ at (bytes_of 4 seq) in
    parity_stored seq at (parity_shard w (parts s ns)) o₀ o₁ o₂ _ e₁ e₂
    (mid_stored (at + 6) (at + 6 + (size + 2) - (at + 6)) o₂ ys (omega arith) (omega arith) ∙ ap (sets o₂ (at + 6)) e₃)

pub filled_end : (start : ℕ) (s ns out₀ lens₀ out lens : List ℕ) (from at p : ℕ) → Filled start s ns out₀ lens₀ out lens from at p
    → length ns ≤ p
    → (at ≡ add_up ns + 8 * length ns)
    × (out ≡ sets out₀ 0 (joined (listed (frame_at start (parts s ns)) (length ns))))
    × (lens ≡ sets lens₀ 0 (lengths_of (listed (frame_at start (parts s ns)) (length ns))))
filled_end start s ns out₀ lens₀ out lens from at p f h =
    let l : p ≤ length ns = f.within in
    let e : p ≡ length ns = omega arith in
    let t : at ≡ from + 8 * p = f.place in
    let r : from ≡ add_up ns = f.read ∙ ap add_up (take_all p ns h) in (
      omega arith,
      f.bytes ∙ ap (λ (q : ℕ). sets out₀ 0 (joined (listed (frame_at start (parts s ns)) q))) e,
      f.lengths ∙ ap (λ (q : ℕ). sets lens₀ 0 (lengths_of (listed (frame_at start (parts s ns)) q))) e,
    )

-- ---- the parity frames behind them

length_all_data : (start : ℕ) (s ns : List ℕ) → add_up ns ≤ length s → (p : ℕ) → p ≤ length ns
    → length (joined (listed (frame_at start (parts s ns)) p)) ≡ add_up (take p ns) + 8 * p
unfolding joined listed add_up
length_all_data start s ns w zero h = refl
length_all_data start s ns w (suc p) h =
    let a : add_up (take (p + 1) ns) ≡ add_up (take p ns) + get_or ns p 0 = add_up_next ns p (omega arith) in
    let b : length (joined (listed (frame_at start (parts s ns)) p)) ≡ add_up (take p ns) + 8 * p =
    length_all_data start s ns w p (omega arith) in
    let c : length (frame_at start (parts s ns) p) ≡ get_or ns p 0 + 8 = length_data start s ns p w (omega arith) in
    let d : length (joined (listed (frame_at start (parts s ns)) (p + 1))) ≡ length (joined (listed (frame_at start (parts s ns)) p))
    + length (frame_at start (parts s ns) p) =
    length_joined_next (frame_at start (parts s ns)) p in
    let e : p + 1 ≡ suc p = add-one p in
    subst (λ (q : ℕ). length (joined (listed (frame_at start (parts s ns)) q)) ≡ add_up (take q ns) + 8 * q) e (omega arith)

pub parity_frame : (start : ℕ) (ds : List (List ℕ)) (w q seq : ℕ) → q ≡ length ds + w → seq ≡ start + q
    → frame_at start ds q ≡ frame seq 242 (parity_shard w ds)
unfolding frame_at type_at
parity_frame start ds w q seq e f =
    rw (le-ltb q (length ds) (omega arith))
    (ap₂ (λ (n : ℕ) (c : List ℕ). frame n 242 c) (sym f) (ap (shard_at ds) e ∙ shard_at_parity ds w))

length_parity_frame : (start : ℕ) (s ns : List ℕ) (w q : ℕ) → add_up ns ≤ length s → q ≡ length ns + w
    → length (frame_at start (parts s ns) q) ≡ largest ns + 8
unfolding parity_shard longest
length_parity_frame start s ns w q h e =
    let l : length (parts s ns) ≡ length ns = length_parts s ns in
    ap length (parity_frame start (parts s ns) w q (start + q) (omega arith) refl)
    ∙ length_frame (start + q) 242 (listed (parity_byte w (parts s ns)) (largest (lengths_of (parts s ns)) + 2))
    ∙ ap (λ (n : ℕ). 6 + n) (length_listed (parity_byte w (parts s ns)) (largest (lengths_of (parts s ns)) + 2) ∙ ap
    (λ (l : List ℕ). largest l + 2) (lengths_parts s ns h))
    ∙ omega arith

module _ (start : ℕ) (s ns : List ℕ) (whole : add_up ns ≤ length s) where
  pub group_bytes : (o₀ o₁ o₂ o₃ : List ℕ) (at most seq : ℕ) → o₁ ≡ sets o₀ 0 (joined (listed (frame_at start (parts s ns)) (length ns)))
      → at ≡ add_up ns + 8 * length ns → most ≡ largest ns → seq ≡ start + length ns
      → o₂ ≡ sets o₁ at (frame seq 242 (parity_shard 0 (parts s ns)))
      → o₃ ≡ sets o₂ (at + most + 8) (frame (seq + 1) 242 (parity_shard 1 (parts s ns)))
      → o₃ ≡ sets o₀ 0 (joined (group start (parts s ns)))
  unfolding group
  group_bytes o₀ o₁ o₂ o₃ at most seq e₁ ea em es e₂ e₃ =
      let l : length (parts s ns) ≡ length ns = length_parts s ns in
      let a : at ≡ length (joined (listed (frame_at start (parts s ns)) (length ns))) =
      ea ∙ sym (length_all_data start s ns whole (length ns) (omega arith) ∙ ap (λ (r : List ℕ). add_up r + 8 * length ns)
      (take_all (length ns) ns (omega arith))) in
      let f₂ : o₂ ≡ sets o₀ 0 (joined (listed (frame_at start (parts s ns)) (length ns + 1))) =
      stored (frame_at start (parts s ns)) (length ns) at o₀ o₁ o₂ e₁ a
      (e₂ ∙ ap (sets o₁ at) (sym (parity_frame start (parts s ns) 0 (length ns) seq (omega arith) es))) in
      let b : at + most + 8 ≡ length (joined (listed (frame_at start (parts s ns)) (length ns + 1))) =
      omega (
        arith,
        length_joined_next (frame_at start (parts s ns)) (length ns),
        length_parity_frame start s ns 0 (length ns) whole (omega arith),
      ) in
      let f₃ : o₃ ≡ sets o₀ 0 (joined (listed (frame_at start (parts s ns)) (length ns + 1 + 1))) =
      stored (frame_at start (parts s ns)) (length ns + 1) (at + most + 8) o₀ o₂ o₃ f₂ b
      (e₃ ∙ ap (sets o₂ (at + most + 8)) (sym (parity_frame start (parts s ns) 1 (length ns + 1) (seq + 1) (omega arith) (omega arith)))) in
      let q : length ns + 1 + 1 ≡ length (parts s ns) + 2 = omega arith in
      f₃ ∙ ap (λ (n : ℕ). sets o₀ 0 (joined (listed (frame_at start (parts s ns)) n))) q

  pub group_lengths : (l₀ l₁ : List ℕ) (most : ℕ) → l₁ ≡ sets l₀ 0 (lengths_of (listed (frame_at start (parts s ns)) (length ns)))
      → most ≡ largest ns
      → set (set l₁ (length ns) (most + 8)) (length ns + 1) (most + 8) ≡ sets l₀ 0 (lengths_of (group start (parts s ns)))
  unfolding group
  group_lengths l₀ l₁ most e em =
      let l : length (parts s ns) ≡ length ns = length_parts s ns in
      let q : length ns + 1 + 1 ≡ length (parts s ns) + 2 = omega arith in
      noted (frame_at start (parts s ns)) (length ns + 1) (most + 8) l₀ (set l₁ (length ns) (most + 8))
      (noted (frame_at start (parts s ns)) (length ns) (most + 8) l₀ l₁ e
      (omega (arith, length_parity_frame start s ns 0 (length ns) whole (omega arith))))
      (omega (arith, length_parity_frame start s ns 1 (length ns + 1) whole (omega arith)))
      ∙ ap (λ (n : ℕ). sets l₀ 0 (lengths_of (listed (frame_at start (parts s ns)) n))) q
