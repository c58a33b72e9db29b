-- The furthest ack number, and the skips that it brings.
-- Assumes nothing.
use Rattle.std.specs.Prelude.{Option, Some, None}
use mathlib.Core.Path.{◌≡◌, refl, sym, ap, ◌∙◌}
use mathlib.Core.Bool.{Bool, true, false, cond, not, ◌&&◌}
use mathlib.Core.List.{List, [], ◌∷◌, map}
use Prim.Native.Nat.{ℕ, zero, suc}
use borrow.Author.Tests.{eq-eqb, ne_eqb}
use lib.ListN.{take}
use Rattle.protocol.specs.Serial.{is_before, is_after}
use Rattle.wire.specs.declared.Header.{Header}
use Rattle.timing.specs.declared.Record.{Record}
use Rattle.retransmission.specs.Transmissions.{skipped}
use Rattle.lists.specs.Joining.{with_record, joined}
use Rattle.lists.specs.Acknowledging.{one_skip, skip_before}
use Rattle.lists.specs.declared.Outstanding.{Outstanding}
use Rattle.lists.specs.declared.Sent.{Sent}
use Rattle.session.specs.Input as input
use Rattle.words.specs.Words.{paired, outstanding_at, outstanding_in}
use Rattle.words.proofs.Pairs.{paired_take}
use Rattle.acknowledge.specs.Flights.{View, view, sent_in, InOrder, FlightIs}
use Rattle.acknowledge.specs.Furthest.{further, further_by, skipped_by}
use Rattle.acknowledge.specs.Hearing.{skip_record}

-- ---- one segment more

pub no_ack : (f : Option ℕ) (h : Header) → (h.cmd ≡ 82 → ⊥) → f ≡ further_by f h
unfolding further_by
no_ack f h e = rw (ne_eqb h.cmd 82 e)

module _ (h : Header) (e : h.cmd ≡ 82) where
  pub begins : Some h.sn ≡ further_by None h
  unfolding further_by further
  begins = rw (eq-eqb h.cmd 82 e)

  -- the flag says that the number known is passed
  module _ (n : ℕ) (b : Bool) (g : b ≡ is_after h.sn n) where
    pub stays : b ≡ false → Some n ≡ further_by (Some n) h
    unfolding further_by further
    stays t = rw (eq-eqb h.cmd 82 e, ← g, t)

    pub replaced : b ≡ true → Some h.sn ≡ further_by (Some n) h
    unfolding further_by further
    replaced t = rw (eq-eqb h.cmd 82 e, ← g, t)

-- ---- skips

-- a skip of a record is one of its segment
skip_joined : (n : ℕ) (o : Outstanding) (r : Record) → with_record o (skip_record n r) ≡ skip_before n (with_record o r)
unfolding skip_record skip_before
skip_joined n o r = go (is_before r.number n)
  where
    go : (t : Bool) → with_record o (cond t (skipped r) r) ≡ cond t (one_skip (with_record o r)) (with_record o r)
    go true = refl
    go false = refl

skips_joined : (n : ℕ) (os : List Outstanding) (rs : List Record) → joined os (map (skip_record n) rs) ≡ map (skip_before n) (joined os rs)
unfolding joined
skips_joined n [] rs = refl
skips_joined n (o ∷ os) [] = refl
skips_joined n (o ∷ os) (r ∷ rs) = rw (skip_joined n o r, skips_joined n os rs)

-- k segments are joined with the first k records
joined_front : (k : ℕ) (os : List Outstanding) (rs : List Record) → joined (take k os) (take k rs) ≡ joined (take k os) rs
unfolding joined
joined_front zero os rs = refl
joined_front (suc k) [] rs = refl
joined_front (suc k) (o ∷ os) [] = refl
joined_front (suc k) (o ∷ os) (r ∷ rs) = ap (λ (l : List Sent). with_record o r ∷ l) (joined_front k os rs)

module _ (v : View) (o : InOrder v) where
  pub none_named : FlightIs v v (skipped_by None)
  unfolding skipped_by
  none_named = record { whole = o.whole; wholes = o.wholes; fits = o.fits; queue = refl; half = λ q. refl }

  module _ (n : ℕ) (b : Bool) (g : b ≡ (not (is_before n v.flight.una) && is_before n v.flight.next)) where
    pub skips_are : (rs : List Record) → b ≡ true
        → take v.flight.outstanding rs ≡ map (skip_record n) (take v.flight.outstanding v.records)
        → FlightIs (view v.flight v.words v.transmissions rs) v (skipped_by (Some n))
    unfolding skipped_by input.skipped
    skips_are rs t s =
        let k = v.flight.outstanding in
        let os = paired outstanding_at v.words v.transmissions in
        let e : joined (outstanding_in v.words v.transmissions k) rs ≡ map (skip_before n) (sent_in v) =
        rw (paired_take outstanding_at k v.words v.transmissions) (sym (joined_front k os rs) ∙ rw (s, skips_joined, joined_front)) in
        record { whole = o.whole; wholes = o.wholes; fits = o.fits; queue = refl; half = λ q. rw (← g, t, e) }

    pub no_skips : b ≡ false → FlightIs v v (skipped_by (Some n))
    unfolding skipped_by input.skipped
    no_skips t = record { whole = o.whole; wholes = o.wholes; fits = o.fits; queue = refl; half = λ q. rw (← g, t) }
