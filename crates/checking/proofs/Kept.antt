-- Laws that nothing here cites, kept since they stood.
-- Assumes nothing.
use mathlib.Core.Path.{◌≡◌, refl, sym}
use mathlib.Core.Bool.{Bool, true, false, not, ◌&&◌, ◌||◌, and-false}
use mathlib.Core.List.{List}
use Prim.Native.Nat.{ℕ, ◌+◌, ◌%◌, ◌^◌, ◌<◌}
use native.Mathlib.Decide.{dec_lt}
use native.Mathlib.Omega.{arith}
use borrow.Author.Tests.{lt-ltb, le-ltb, le-leb, lt-leb}
use lib.Dec.{leb, ltb, eqb}
use lib.ListN.{length, drop}
use Rattle.std.specs.Prelude.{Some, None}
use Rattle.protocol.specs.Ranges.{in_range, mss}
use Rattle.protocol.specs.Serial.{minus}
use Rattle.protocol.specs.declared.Settings.{Settings}
use Rattle.congestion.specs.Congestions.{fits}
use Rattle.timing.specs.declared.Record.{Record}
use Rattle.slots.specs.Slots.{once}
use Rattle.session.specs.Decides.{and_parts}
use Rattle.session.specs.Valid.{all, round_trip_fits, probe_fits}
use Rattle.marks.specs.Marks.{none, marked_all}
use Rattle.control.specs.declared.Flight.{Flight}
use Rattle.control.specs.declared.Arrival.{Arrival}
use Rattle.control.specs.declared.Clock.{Clock}
use Rattle.control.specs.Views.{counted}
use Rattle.control.specs.ViewLaws.{Counts, counts}
use Rattle.checking.specs.Tests.{follows, numbers_fit, record_fits, least_after, word_fits, receive_slots_in, in_line, ahead_fits, ReceivingFits}
use Rattle.checking.proofs.Turns.{not-true, not-false}

-- the test of two neighbours, d after the first, e one less
pub follows_test : (a b d e : ℕ) → a < 2 ^ 32 → d ≡ minus b a → e ≡ minus d 1 → ltb e 127 ≡ follows a b
follows_test a b d e h ed ee = let q : a % 2 ^ 32 ≡ a = omega arith in rw (q, ← ed) (go (dec_lt 0 d) (dec_lt d 128))
  where
    go : Dec (0 < d) → Dec (d < 128) → ltb e 127 ≡ (leb 1 d && leb d 127)
    go (yes s) (yes t) = rw (lt-ltb e 127 (omega arith), le-leb 1 d (omega arith), le-leb d 127 (omega arith)) refl
    go (yes s) (no t) = rw (le-ltb e 127 (omega arith), le-leb 1 d (omega arith), lt-leb d 127 (omega arith)) refl
    go (no s) t = rw (le-ltb e 127 (omega arith), lt-leb 1 d (omega arith)) refl

-- ---- records

-- four tests of which one fails
fails_in : (g a b f : Bool) → (a && b) ≡ false → (g && a && b && f) ≡ false
fails_in true a b f e = rw e
fails_in false a b f e = refl

-- one record, o being its offset; g: it may be the first
module _ (mode una next least o limit : ℕ) (g : Bool) (r : Record) (eg : g ≡ (ltb 0 least || eqb r.number una))
    (eo : o ≡ minus r.number una) (el : limit ≡ minus next una) where
  abbrev rises : Bool
  rises = leb least o && ltb o limit

  least_unfit : (f : Bool) → f ≡ record_fits mode r → (g && leb least o && ltb o limit && f) ≡ false
      → None ≡ least_after mode una next least r
  least_unfit f ef t = rw (← eo, ← el, ← ef, ← eg, t) refl

  pub least_apart : not rises ≡ true → None ≡ least_after mode una next least r
  least_apart t = least_unfit (record_fits mode r) refl (fails_in g (leb least o) (ltb o limit) (record_fits mode r) (not-true rises t))

  pub least_broken : (f : Bool) → f ≡ record_fits mode r → not f ≡ true → None ≡ least_after mode una next least r
  least_broken f ef t = least_unfit f ef (rw (not-true f t) (and-false (g && leb least o && ltb o limit)))

  module _ (f : Bool) (ef : f ≡ record_fits mode r) (h : not rises ≡ false) (k : not f ≡ false) where
    pub least_late : g ≡ false → None ≡ least_after mode una next least r
    least_late t = least_unfit f ef (rw t refl)

    pub least_fits : g ≡ true → Some (o + 1) ≡ least_after mode una next least r
    least_fits t = rw (← eo, ← el, ← ef, ← eg, t, not-false rises h, not-false f k) refl

-- ---- the segments of the receiving half

module _ (mss expected : ℕ) (ready waiting numbers : List ℕ) (marks : List ℕ) (x : Bool) (w : length marks ≡ 256)
    (e : marks ≡ marked_all none (receive_slots_in ready waiting)) (ex : x ≡ once (receive_slots_in ready waiting)) where
  pub slots_fail : not x ≡ true → ReceivingFits mss expected ready waiting numbers marks false
  slots_fail t = record { whole = w; fits = sym (rw (← ex, not-true x t) refl); marked = λ z. e }

  pub slots_fit_lem : (r : Bool) → not x ≡ false
      → r ≡ (all (word_fits mss) ready && all (word_fits mss) waiting && ahead_fits expected (length ready) numbers)
      → ReceivingFits mss expected ready waiting numbers marks r
  slots_fit_lem r t er = record { whole = w; fits = rw (← ex, not-false x t) er; marked = λ z. e }

pub line_start : (from : ℕ) (l : List ℕ) → in_line from l ≡ (true && in_line (from + 0) (drop 0 l))
line_start from l = let z : from + 0 ≡ from = omega arith in rw z refl

-- ---- the numbers

-- where they fit the counts do
pub counted_of : (s : Settings) (f : Flight) (a : Arrival) (k : Clock) → true ≡ numbers_fit s f a k → Counts f a
counted_of s f a k e =
    let trip = round_trip_fits s.mode f.rtt in
    let p₀ = and_parts (counted f a && in_range s && trip && probe_fits k.probe) (fits f.congestion (mss s)) (sym e) in
    let p₁ = and_parts (counted f a && in_range s && trip) (probe_fits k.probe) p₀.0 in
    let p₂ = and_parts (counted f a && in_range s) trip p₁.0 in
    counts f a (and_parts (counted f a) (in_range s) p₂.0).0
