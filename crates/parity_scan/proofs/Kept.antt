-- Laws that nothing here cites, kept since they stood.
-- Assumes nothing.
use Rattle.std.specs.Prelude.{◌≡◌, refl, true, false, None, Result, Ok, Err, List, [], ◌∷◌}
use Rattle.std.specs.Prelude.{ℕ, zero, suc, ◌+◌, ◌*◌, ◌≤◌, ◌<◌, length, get_or, take, drop, replicate}
use Rattle.std.proofs.Common.{sym, ap, ap₂, ◌∙◌, subst, arith, get_or-take}
use Rattle.wire.specs.LittleEndian.{number_at}
use Rattle.wire.specs.LittleEndianLaws.{number_at_drop}
use Rattle.frames.specs.declared.Refusal.{Refusal}
use Rattle.frames.specs.declared.Refusal.TheVariants.{NotAGroup}
use Rattle.frames.specs.Lists.{parts, add_up, every}
use Rattle.frames.specs.Reading.{group_of, frame_ok, first_group}
use Rattle.frames.specs.PartLaws.{lies}
use Rattle.parity_scan.specs.declared.scan.Scanned.{Scanned}
use Rattle.parity_scan.specs.Held.{Held, at_in, size_in, shard_in, Gathered, Scans}
use Rattle.parity_scan.specs.ScanLaws.{Seen, nonempty, none_in, seen_all}

pub number_at_take : (j n : ℕ) (l : List ℕ) (i : ℕ) → i + j ≤ n → number_at j (take n l) i ≡ number_at j l i
unfolding number_at
number_at_take zero n l i h = refl
number_at_take (suc j) n l i h =
    ap₂ (λ (a b : ℕ). a + 256 * b) (get_or-take n l i 0 (omega arith)) (number_at_take j n l (suc i) (omega arith))

pub number_at_part : (j : ℕ) (s : List ℕ) (at n i : ℕ) → i + j ≤ n → number_at j (take n (drop at s)) i ≡ number_at j s (at + i)
number_at_part j s at n i h = number_at_take j n (drop at s) i h ∙ number_at_drop j at s i

pub old_inside : (s ns : List ℕ) (k mtu g : ℕ) (h : Held) (at i : ℕ) → Seen s ns k mtu g h at i → (p : ℕ)
    → at_in h p + size_in h p ≤ length s
old_inside s ns k mtu g h at i seen p = seen.inside.inside p

pub scan_wrong : (s ns : List ℕ) (k mtu n : ℕ) → every (frame_ok k mtu n) (parts s ns) ≡ false → Scans s ns k mtu n (Err NotAGroup)
scan_wrong s ns k mtu n e = (e, refl)

pub scan_right : (s ns : List ℕ) (k mtu n g : ℕ) (h : Held) → length h ≡ 12 → g ≡ n
    → (true ≡ every (frame_ok k mtu n) (parts s ns)) × Gathered s ns k h
    → Scans s ns k mtu n (Ok (record { group = g; held = h }))
scan_right s ns k mtu n g h l q e = record { right = sym e.0; group = q; places = l; held = e.1 }

first : (s ns : List ℕ) → 0 < length ns → (k : ℕ) → first_group k (parts s ns) ≡ group_of k (take (get_or ns 0 0) (drop 0 s))
unfolding first_group parts
first s [] h k = absurd (omega arith)
first s (n ∷ ns) h k = refl

pub scan_first : (s ns : List ℕ) (k mtu n g : ℕ) (r : Result Scanned Refusal) → 0 < length ns → n ≡ get_or ns 0 0
    → g ≡ group_of k (take n (drop 0 s)) → Scans s ns k mtu g r → Scans s ns k mtu (first_group k (parts s ns)) r
scan_first s ns k mtu n g r h en eg f =
    subst (λ (q : ℕ). Scans s ns k mtu q r) (eg ∙ ap (λ (m : ℕ). group_of k (take m (drop 0 s))) en ∙ sym (first s ns h k)) f

pub zeros : (n p : ℕ) → ◌≡◌ {A = ℕ} (get_or (replicate n 0) p 0) 0
zeros zero p = refl
zeros (suc n) zero = refl
zeros (suc n) (suc p) = zeros n p

-- ---- nothing is held

pub record Empty (h : Held) : Type 0 where
  pub places : (p : ℕ) → at_in h p ≡ 0
  pub sizes : (p : ℕ) → size_in h p ≡ 0

pub empty_held : Empty (replicate 12 None)
empty_held = record { places = λ p. rw (none_in 12 p); sizes = λ p. rw (none_in 12 p) }

module _ (s ns : List ℕ) (k mtu : ℕ) (h : Held) (e : Empty h) (l : length h ≡ 12) where
  pub seen_empty : (g : ℕ) → Seen s ns k mtu g h 0 0
  unfolding nonempty shard_in add_up
  seen_empty g = record {
    within = omega arith;
    place = refl;
    checked = refl;
    inside = record { inside = λ p. omega (arith, e.places p, e.sizes p) };
    places = l;
    shards = λ p. rw (e.sizes p) refl;
  }

-- no frames
pub scan_none : (s ns : List ℕ) (k mtu : ℕ) (h : Held) → Empty h → length h ≡ 12 → length ns ≡ 0
    → Scans s ns k mtu (first_group k (parts s ns)) (Ok (record { group = 0; held = h }))
unfolding first_group parts
scan_none s [] k mtu h e l z = seen_all s [] k mtu 0 h 0 0 (seen_empty s [] k mtu h e l 0) (omega arith)
scan_none s (n ∷ ns) k mtu h e l z = absurd (omega arith)

-- a frame lies within the packed frames
pub seen_room : (s ns : List ℕ) (k mtu g : ℕ) (h : Held) (at i n : ℕ) → Seen s ns k mtu g h at i → add_up ns ≤ length s → i < length ns
    → n ≡ get_or ns i 0 → at + n ≤ length s
seen_room s ns k mtu g h at i n seen whole more en = (lies s ns i at n whole more seen.place en).within
