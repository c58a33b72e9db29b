-- Words and records as the session's segments: the tests are the session's.
-- Assumes nothing.
use mathlib.Core.Path.{◌≡◌, refl, sym, ◌∙◌}
use mathlib.Core.Bool.{Bool, true, false, ◌&&◌}
use mathlib.Core.List.{List, [], ◌∷◌, ◌++◌, map, map-append}
use Prim.Native.Nat.{ℕ, ◌+◌, ◌%◌, ◌≤◌, ◌<◌}
use native.Mathlib.Omega.{arith}
use borrow.Author.Tests.{lt-ltb}
use lib.Dec.{leb, ltb}
use lib.ListN.{length, take}
use Rattle.protocol.specs.Protocol.{send_slots, skips_most}
use Rattle.protocol.specs.Serial.{minus}
use Rattle.timing.specs.declared.Record.{Record}
use Rattle.lists.specs.declared.Held.{Held}
use Rattle.lists.specs.declared.Outstanding.{Outstanding}
use Rattle.lists.specs.Joining.{joined}
use Rattle.lists.specs.Orders.{ascending, sent_offset}
use Rattle.lists.specs.Acknowledging.{first_number_or}
use Rattle.slots.specs.Slots.{slots_of, all_below, once}
use Rattle.session.specs.Decides.{and_parts}
use Rattle.session.specs.Valid.{all, held_fits, sent_fits, timeout_fits}
use Rattle.words.specs.Words.{unpack, paired, outstanding_at}
use Rattle.marks.specs.Marks.{none_of, marked_all, Marks}
use Rattle.marks.specs.MarkLaws.{flag_append, once_flagged, marked_append}
use Rattle.checking.specs.Tests.{word_fits, send_word_fits, sent_few, records_fit, first_of}
use Rattle.checking.proofs.Ascents.{same, both}

-- ---- words

pub words_all : (mss : ℕ) (ws : List ℕ) → all (word_fits mss) ws ≡ all (held_fits mss) (map unpack ws)
words_all mss [] = refl
words_all mss (w ∷ ws) = rw (words_all mss ws) refl

pub send_words_all : (mss : ℕ) (ws : List ℕ)
    → all (send_word_fits mss) ws ≡ (all (held_fits mss) (map unpack ws) && all_below send_slots (slots_of (map unpack ws)))
unfolding all_below
send_words_all mss [] = refl
send_words_all mss (w ∷ ws) = rw (send_words_all mss ws) (turn (held_fits mss (unpack w)) (ltb (w % 256) send_slots) _ _)
  where
    turn : (a b x y : Bool) → (a && b && (x && y)) ≡ (a && x && (b && y))
    turn false b x y = refl
    turn true true x y = refl
    turn true false true y = refl
    turn true false false y = refl

-- ---- two arrays side by side

-- what goes by the words alone
pub paired_words : {A B : Type 0} (entry : ℕ → ℕ → A) (part : A → B) (of : ℕ → B) → ((w n : ℕ) → part (entry w n) ≡ of w)
    → (ws ns : List ℕ)
    → length ws ≡ length ns → map part (paired entry ws ns) ≡ map of ws
unfolding paired
paired_words entry part of same [] ns e = refl
paired_words entry part of same (w ∷ ws) [] e = absurd (omega arith)
paired_words entry part of same (w ∷ ws) (n ∷ ns) e = rw (same w n, paired_words entry part of same ws ns (omega arith)) refl

-- transmissions at most 20
abbrev pub few : Outstanding → Bool
few o = sent_few o.transmissions

pub paired_few : (ws ts : List ℕ) → length ws ≡ length ts → all few (paired outstanding_at ws ts) ≡ all sent_few ts
unfolding paired
paired_few [] [] e = refl
paired_few [] (t ∷ ts) e = absurd (omega arith)
paired_few (w ∷ ws) [] e = absurd (omega arith)
paired_few (w ∷ ws) (t ∷ ts) e = rw (paired_few ws ts (omega arith)) refl

-- ---- marks of one list after the other

pub words_low : (ws : List ℕ) → all_below 256 (slots_of (map unpack ws)) ≡ true
unfolding all_below
words_low [] = refl
words_low (w ∷ ws) = let q : w % 256 < 256 = omega arith in rw (lt-ltb (w % 256) 256 q) (words_low ws)

pub send_words_low : (mss : ℕ) (ws : List ℕ) → all (send_word_fits mss) ws ≡ true → all_below 128 (slots_of (map unpack ws)) ≡ true
unfolding all_below
send_words_low mss [] e = refl
send_words_low mss (w ∷ ws) e =
    let p = and_parts (send_word_fits mss w) (all (send_word_fits mss) ws) e in
    both (ltb (w % 256) 128) _ (and_parts (held_fits mss (unpack w)) (ltb (w % 256) send_slots) p.0).1 (send_words_low mss ws p.1)

module _ (a b : List ℕ) where
  abbrev left : List ℕ
  left = slots_of (map unpack a)

  abbrev right : List ℕ
  right = slots_of (map unpack b)

  together : left ++ right ≡ slots_of (map unpack (a ++ b))
  together = rw (map-append unpack a b, map-append (λ (h : Held). h.slot) (map unpack a) (map unpack b)) refl

  pub both_low : all_below 256 (left ++ right) ≡ true
  both_low = rw together (words_low (a ++ b))

  -- send slots are below 128
  pub send_low : (mss : ℕ) → all (send_word_fits mss) a ≡ true → all (send_word_fits mss) b ≡ true → all_below 128 (left ++ right) ≡ true
  unfolding all_below
  send_low mss e f = go a b e f
    where
      go : (us vs : List ℕ) → all (send_word_fits mss) us ≡ true → all (send_word_fits mss) vs ≡ true
          → all_below 128 (slots_of (map unpack us) ++ slots_of (map unpack vs)) ≡ true
      go [] vs e f = send_words_low mss vs f
      go (u ∷ us) vs e f =
          let p = and_parts (send_word_fits mss u) (all (send_word_fits mss) us) e in
          both (ltb (u % 256) 128) _ (and_parts (held_fits mss (unpack u)) (ltb (u % 256) send_slots) p.0).1 (go us vs p.1 f)

  module _ (k : ℕ) (low : all_below k (left ++ right) ≡ true) {m₀ m₁ m₂ : List ℕ} {x y : Bool} (e : m₀ ≡ none_of k)
      (f : Marks k m₀ left m₁ x) (g : Marks k m₁ right m₂ y) where
    pub both_marked : m₂ ≡ marked_all (none_of k) (left ++ right)
    both_marked = g.marked ∙ rw (f.marked, e, marked_append (none_of k) left right) refl

    pub both_once : (x && y) ≡ once (left ++ right)
    both_once = rw (f.unmarked, g.unmarked, f.marked, e) (sym (flag_append (none_of k) left right) ∙ once_flagged k (left ++ right) low)

-- ---- records

-- transmissions, numbers and records of outstanding segments
pub records_joined : (mode una limit least : ℕ) (os : List Outstanding) (rs : List Record) → length os ≤ length rs
    → (all few os && records_fit mode una limit least (take (length os) rs)) ≡
    (ascending (sent_offset una) least limit (joined os rs) && all (sent_fits mode) (joined os rs))
unfolding records_fit ascending joined
records_joined mode una limit least [] rs h = refl
records_joined mode una limit least (o ∷ os) [] h = absurd (omega arith)
records_joined mode una limit least (o ∷ os) (r ∷ rs) h =
    let m : ℕ = minus r.number una in
    turn (few o) (all few os) (leb least m && ltb m limit) (leb r.skips skips_most) (timeout_fits mode r.timeout)
    (records_fit mode una limit (m + 1) (take (length os) rs)) (ascending (sent_offset una) (m + 1) limit (joined os rs))
    (all (sent_fits mode) (joined os rs)) (records_joined mode una limit (m + 1) os rs (omega arith))
  where
    turn : (t ts l s q rs ns fs : Bool) → (ts && rs) ≡ (ns && fs) → (t && ts && (l && (s && q) && rs)) ≡ (l && ns && (t && s && q && fs))
    turn t ts l s q rs ns fs ih = same _ _ there back
      where
        there : (t && ts && (l && (s && q) && rs)) ≡ true → (l && ns && (t && s && q && fs)) ≡ true
        there e =
            let p = and_parts (t && ts) (l && (s && q) && rs) e in
            let p₁ = and_parts t ts p.0 in
            let p₂ = and_parts (l && (s && q)) rs p.1 in
            let p₃ = and_parts l (s && q) p₂.0 in
            let i = and_parts ns fs (sym ih ∙ both ts rs p₁.1 p₂.1) in
            let p₄ = and_parts s q p₃.1 in
            both _ _ (both l ns p₃.0 i.0) (both _ _ (both _ _ (both _ _ p₁.0 p₄.0) p₄.1) i.1)

        back : (l && ns && (t && s && q && fs)) ≡ true → (t && ts && (l && (s && q) && rs)) ≡ true
        back e =
            let p = and_parts (l && ns) (t && s && q && fs) e in
            let p₁ = and_parts l ns p.0 in
            let p₂ = and_parts (t && s && q) fs p.1 in
            let p₃ = and_parts (t && s) q p₂.0 in
            let p₄ = and_parts t s p₃.0 in
            let i = and_parts ts rs (ih ∙ both ns fs p₁.1 p₂.1) in
            both _ _ (both t ts p₄.0 i.0) (both _ _ (both _ _ p₁.0 (both _ _ p₄.1 p₃.1)) i.1)

pub first_joined : (os : List Outstanding) (rs : List Record) (next : ℕ) → length os ≤ length rs
    → first_number_or (joined os rs) next ≡ first_of (take (length os) rs) next
unfolding joined first_number_or first_of
first_joined [] rs next h = refl
first_joined (o ∷ os) [] next h = absurd (omega arith)
first_joined (o ∷ os) (r ∷ rs) next h = refl
