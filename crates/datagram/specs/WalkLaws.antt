-- How the walk over a datagram goes on.
-- Assumes nothing.
use Rattle.std.specs.Prelude.{◌≡◌, Ok, Err, Bool, true, false, cond, ◌&&◌, length, drop}
use Rattle.std.proofs.Math.Path.{refl}
use Rattle.std.proofs.Common.{ap, add_assoc, le-leb, leb-true, eqb-true, eq-eqb, length-drop, drop-drop}
use mathlib.Core.List.{List, [], ◌∷◌}
use Prim.Native.Nat.{ℕ, zero, suc, ◌+◌, ◌-◌, ◌≤◌, ◌<◌}
use native.Mathlib.Omega.{arith}
use Rattle.std.proofs.lemmas.Bool.{lt-leb}
use Rattle.wire.specs.Headers.{decode}
use Rattle.wire.specs.HeaderLaws.{decode_drop}
use Rattle.protocol.specs.Protocol.{push, window_tell, fragment_most}
use Rattle.wire.specs.declared.Header.{Header}
use Rattle.protocol.specs.declared.Refusal.{Refusal}
use Rattle.protocol.specs.declared.Refusal.TheVariants.{ShortDatagram, TrailingBytes}
use Rattle.datagram.specs.Datagrams.{
  Segment,
  of_push,
  Verdict,
  verdict,
  segment_of,
  Parsed,
  refused,
  segments,
  in_front,
  tail,
  walk,
  parse,
  counted,
}

-- ---- a tail

-- nothing is left
pub tail_empty : (t : List ℕ) → length t ≡ 0 → tail t ≡ segments []
unfolding tail
tail_empty [] h = refl
tail_empty (b ∷ t) h = absurd (omega arith)

-- something is left
pub tail_junk : (t : List ℕ) → 0 < length t → tail t ≡ refused TrailingBytes
unfolding tail
tail_junk [] h = absurd (omega arith)
tail_junk (b ∷ t) h = refl

-- where a datagram is accepted, nothing is left behind its segments
pub tail_none : (t : List ℕ) (gs : List Segment) → tail t ≡ segments gs → gs ≡ []
unfolding tail
tail_none [] gs e = cc
tail_none (b ∷ t) gs e = absurd (let z : ◌≡◌ {A = ℕ} 0 1 = cc in omega arith)

-- ---- one segment

-- what the tests say of a header that passes
pub record Passed (conv mss room : ℕ) (h : Header) : Type 0 where
  pub conversation : h.conv ≡ conv
  pub inside : h.len ≤ room
  pub command_least : push ≤ h.cmd
  pub command_most : h.cmd ≤ window_tell
  pub payload : h.cmd ≡ push → h.len ≤ mss
  pub fragment : h.cmd ≡ push → h.frg ≤ fragment_most

-- a test whose refusal is not given holds
holds : (b : Bool) (v : Verdict) (r : Refusal) → cond b v (Err r) ≡ Ok tt → (b ≡ true) × (v ≡ Ok tt)
holds true v r e = (refl, e)
holds false v r e = absurd (let z : ◌≡◌ {A = ℕ} 0 1 = cc in omega arith)

both : (a b : Bool) → (a && b) ≡ true → (a ≡ true) × (b ≡ true)
both true b e = (refl, e)
both false b e = absurd (let z : ◌≡◌ {A = ℕ} 0 1 = cc in omega arith)

of_push_lem : (h : Header) (b : Bool) → h.cmd ≡ push → of_push h b ≡ true → b ≡ true
of_push_lem h b p e = rw (eq-eqb h.cmd push p) at e

pub passed : (conv mss room : ℕ) (h : Header) → verdict conv mss room h ≡ Ok tt → Passed conv mss room h
unfolding verdict
passed conv mss room h e =
    let a = holds _ _ _ e in
    let b = holds _ _ _ a.1 in
    let d = holds _ _ _ b.1 in
    let f = holds _ _ _ d.1 in
    let g = holds _ _ _ f.1 in
    let k = both _ _ d.0 in
    record {
      conversation = eqb-true _ _ a.0;
      inside = leb-true _ _ b.0;
      command_least = leb-true _ _ k.0;
      command_most = leb-true _ _ k.1;
      payload = λ p. leb-true _ _ (of_push_lem h _ p f.0);
      fragment = λ p. leb-true _ _ (of_push_lem h _ p g.0);
    }

-- ---- the walk

-- a segment in front is one more
pub counted_front : (n : ℕ) (g : Segment) (p : Parsed) → counted n (in_front (Ok tt) g p) ≡ counted (n + 1) p
counted_front n g (refused r) = refl
counted_front n g (segments gs) = ap Ok (omega arith)

module _ (conv mss : ℕ) where
  -- bytes to skip are bytes dropped
  pub walk_skip : (k : ℕ) (s : List ℕ) → walk conv mss k s ≡ walk conv mss 0 (drop k s)
  unfolding walk
  walk_skip zero s = refl
  walk_skip (suc k) [] = refl
  walk_skip (suc k) (b ∷ s) = walk_skip k s

  pub walk_short : (s : List ℕ) → length s < 24 → walk conv mss 0 s ≡ tail s
  unfolding walk
  walk_short [] h = refl
  walk_short (b ∷ s) h = rw (lt-leb _ _ h)

  pub walk_step : (s : List ℕ) → 24 ≤ length s →
      walk conv mss 0 s
      ≡ in_front (verdict conv mss (length s - 24) (decode s 0)) (segment_of s) (walk conv mss 0 (drop (24 + (decode s 0).len) s))
  unfolding walk
  walk_step [] h = absurd (omega arith)
  walk_step (b ∷ s) h =
      let e : 24 + (decode (b ∷ s) 0).len ≡ suc (23 + (decode (b ∷ s) 0).len) = omega arith in
      rw (le-leb _ _ h, e, walk_skip (23 + (decode (b ∷ s) 0).len) s)

  -- the same two at an index of the whole
  pub walk_end : (s : List ℕ) (i : ℕ) → length s < i + 24 → walk conv mss 0 (drop i s) ≡ tail (drop i s)
  walk_end s i h = walk_short (drop i s) (rw length-drop (omega arith))

  pub walk_at : (s : List ℕ) (i : ℕ) → i + 24 ≤ length s →
      walk conv mss 0 (drop i s)
      ≡ in_front (verdict conv mss (length s - (i + 24)) (decode s i)) (segment_of (drop i s))
      (walk conv mss 0 (drop (i + 24 + (decode s i).len) s))
  walk_at s i h =
      let room : length s - i - 24 ≡ length s - (i + 24) = omega arith in
      rw (walk_step (drop i s) (rw length-drop (omega arith)), length-drop, decode_drop, room, drop-drop, ← add_assoc)

  pub parse_long : (s : List ℕ) → 24 ≤ length s → parse conv mss s ≡ walk conv mss 0 s
  unfolding parse
  parse_long s h = rw (le-leb _ _ h)

  pub parse_short : (s : List ℕ) → length s < 24 → parse conv mss s ≡ refused ShortDatagram
  unfolding parse
  parse_short s h = rw (lt-leb _ _ h)
