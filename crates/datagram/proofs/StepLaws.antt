-- For a caller's loop over `segment_at`: `took` goes past a segment, `ended` says that none is left.
-- Assumes nothing.
use Rattle.std.specs.Prelude.{◌≡◌, Some, None, Ok, Err, refl, List, [], ◌∷◌, ℕ, ◌+◌, ◌-◌, ◌≤◌, ◌<◌, drop}
use Rattle.std.proofs.Common.{sym, ◌∙◌, arith}
use Rattle.std.proofs.Math.Decide.{dec_le}
use borrow.Author.Tests.{le-leb, lt-leb}
use Rattle.std.proofs.Math.ListN.{length, length-drop}
use Rattle.std.proofs.Math.Seq.{drop-drop, length-take-le}
use Rattle.wire.specs.Headers.{decode}
use Rattle.wire.specs.HeaderLaws.{decode_drop}
use Rattle.datagram.specs.declared.Segment.{Segment as Place}
use Rattle.datagram.specs.Datagrams.{Segment, Verdict, verdict, segment_of, Parsed, refused, segments, in_front, walk, step_at}
use Rattle.datagram.specs.WalkLaws.{passed, tail_none, walk_end, walk_at}
use Rattle.datagram.specs.StepLaws.{Remaining, Took}

-- ---- a step

-- the place of the segment at index i of s
abbrev place : List ℕ → ℕ → Place
place s i = record { header = decode s i; start = i + 24; next = i + 24 + (decode s i).len }

-- a segment stands in front of the others: it has passed
record Front (v : Verdict) (g : Segment) (p : Parsed) (gs : List Segment) : Type 0 where
  others : List Segment
  passes : v ≡ Ok tt
  whole : gs ≡ g ∷ others
  rest : p ≡ segments others

front : (v : Verdict) (g : Segment) (p : Parsed) (gs : List Segment) → in_front v g p ≡ segments gs → Front v g p gs
front (Ok tt) g (refused r) gs e = absurd (let z : ◌≡◌ {A = ℕ} 0 1 = cc in omega arith)
front (Ok tt) g (segments hs) gs e = record { others = hs; passes = refl; whole = cc; rest = refl }
front (Err r) g p gs e = absurd (let z : ◌≡◌ {A = ℕ} 0 1 = cc in omega arith)

module _ (conv mss : ℕ) (s : List ℕ) (i : ℕ) (gs : List Segment) (r : Remaining conv mss s i gs) where
  short : length s < i + 24 → gs ≡ []
  short h = tail_none (drop i s) gs (sym (walk_end conv mss s i h) ∙ r.walked)

  front_at : i + 24 ≤ length s → Front (verdict conv mss (length s - (i + 24)) (decode s i)) (segment_of (drop i s))
      (walk conv mss 0 (drop (i + 24 + (decode s i).len) s)) gs
  front_at h = front _ _ _ gs (sym (walk_at conv mss s i h) ∙ r.walked)

  -- where a header stands, all of its segment does
  step_at_lem : i + 24 ≤ length s → step_at s i ≡ Some (place s i)
  unfolding step_at
  step_at_lem h =
      let p = passed _ _ _ _ (front_at h).passes in
      rw (le-leb (i + 24) (length s) h, le-leb (i + 24 + (decode s i).len) (length s) (omega (arith, p.inside)))

  step_short : length s < i + 24 → step_at s i ≡ None
  unfolding step_at
  step_short h = rw (lt-leb (i + 24) (length s) h)

  pub ended : step_at s i ≡ None → gs ≡ []
  ended e = go (dec_le (i + 24) (length s))
    where
      go : Dec (i + 24 ≤ length s) → gs ≡ []
      go (yes h) = absurd (let p = sym (step_at_lem h) ∙ e in let z : ◌≡◌ {A = ℕ} 0 1 = cc in omega arith)
      go (no h) = short (omega arith)

  taken : i + 24 ≤ length s → Took conv mss s i gs (decode s i) (i + 24) (i + 24 + (decode s i).len)
  unfolding segment_of
  taken h =
      let f = front_at h in
      let p = passed _ _ _ _ f.passes in
      let inside : i + 24 + (decode s i).len ≤ length s = omega (arith, p.inside) in
      record {
        others = f.others;
        whole = rw (decode_drop i s, drop-drop 24 i s) at f.whole;
        starts = refl;
        follows = refl;
        inside = inside;
        long = length-take-le _ _ (rw length-drop (omega arith));
        passed = p;
        remaining = record { inside = inside; walked = f.rest };
      }

  pub took : (p : Place) → step_at s i ≡ Some p → Took conv mss s i gs p.header p.start p.next
  took p e = go (dec_le (i + 24) (length s))
    where
      go : Dec (i + 24 ≤ length s) → Took conv mss s i gs p.header p.start p.next
      go (no h) = absurd (let q = sym (step_short (omega arith)) ∙ e in let z : ◌≡◌ {A = ℕ} 0 1 = cc in omega arith)
      go (yes h) =
          let same : p ≡ place s i = let q = sym e ∙ step_at_lem h in cc in
          rw same (taken h)
