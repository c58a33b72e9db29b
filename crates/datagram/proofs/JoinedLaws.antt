-- Valid segments that are joined are found again.
-- Assumes nothing.
use Rattle.std.specs.Prelude.{◌≡◌, Ok, refl, ℕ, ◌+◌, ◌-◌, ◌≤◌, ◌<◌, length, drop}
use Rattle.std.proofs.Common.{sym, ◌∙◌, arith, le-leb, length-append, drop-drop, drop_at}
use mathlib.Core.List.{List, [], ◌∷◌, ◌++◌, append_assoc, append-nil}
use Rattle.std.proofs.Math.Seq.{take_at}
use Rattle.wire.specs.Headers.{encode, decode}
use Rattle.wire.specs.HeaderLaws.{decode_encode, length_encode}
use Rattle.wire.specs.declared.Header.{Header}
use Rattle.protocol.specs.declared.Refusal.{Refusal}
use Rattle.protocol.specs.declared.Refusal.TheVariants.{TrailingBytes}
use Rattle.datagram.specs.Datagrams.{Segment, verdict, segment_of, in_front, tail, walk, parse, segments, refused}
use Rattle.datagram.specs.WalkLaws.{passed, tail_empty, tail_junk, walk_short, walk_step, parse_long}
use Rattle.datagram.specs.Joined.{bytes, joined, Valid, AllValid, all_in_front}

pub joined_append : (gs hs : List Segment) → joined (gs ++ hs) ≡ joined gs ++ joined hs
unfolding joined
joined_append [] hs = refl
joined_append (g ∷ gs) hs = rw (joined_append gs hs, append_assoc)

pub length_bytes : (g : Segment) → length (bytes g) ≡ 24 + length g.payload
unfolding bytes
length_bytes g = rw (length-append, length_encode)

-- more room fails no test
verdict_more : (conv mss room more : ℕ) (h : Header) → room ≤ more → verdict conv mss room h ≡ Ok tt → verdict conv mss more h ≡ Ok tt
unfolding verdict
verdict_more conv mss room more h le e =
    let fits : h.len ≤ room = (passed conv mss room h e).inside in
    rw (le-leb h.len more (omega arith)) (rw (le-leb h.len room fits) at e)

module _ (conv mss : ℕ) (g : Segment) (v : Valid conv mss g) (t : List ℕ) where
  length_front : length (bytes g ++ t) ≡ 24 + (g.header.len + length t)
  length_front = rw (length-append, length_bytes, v.len) (omega arith)

  behind : drop 24 (bytes g ++ t) ≡ g.payload ++ t
  unfolding bytes
  behind = rw append_assoc (drop_at (encode g.header) (g.payload ++ t) 24 (length_encode g.header))

  next : drop (24 + g.header.len) (bytes g ++ t) ≡ t
  next = rw (← drop-drop, behind) (drop_at g.payload t _ (sym v.len))

  head : decode (bytes g ++ t) 0 ≡ g.header
  unfolding bytes
  head = rw append_assoc (decode_encode g.header (g.payload ++ t) v.fits)

  found : segment_of (bytes g ++ t) ≡ g
  unfolding segment_of
  found = rw (head, behind, take_at g.payload t g.header.len (sym v.len))

  walk_front : walk conv mss 0 (bytes g ++ t) ≡ in_front (Ok tt) g (walk conv mss 0 t)
  walk_front =
      let passes : verdict conv mss (length (bytes g ++ t) - 24) g.header ≡ Ok tt =
      verdict_more conv mss _ _ _ (omega (arith, length_front)) v.passes in
      rw (walk_step conv mss (bytes g ++ t) (omega (arith, length_front)), head, found, next, passes)

-- valid segments stand in front of whatever follows them
pub walk_joined : (conv mss : ℕ) (gs : List Segment) (t : List ℕ) → AllValid conv mss gs
    → walk conv mss 0 (joined gs ++ t) ≡ all_in_front gs (walk conv mss 0 t)
unfolding joined
walk_joined conv mss [] t v = refl
walk_joined conv mss (g ∷ gs) t v = rw (append_assoc, walk_front conv mss g v.0 (joined gs ++ t), walk_joined conv mss gs t v.1)

all_in_front_lem : (gs : List Segment) → all_in_front gs (segments []) ≡ segments gs
all_in_front_lem [] = refl
all_in_front_lem (g ∷ gs) = rw (all_in_front_lem gs)

-- behind valid segments, what is left of fewer than 24 bytes decides: nothing, or 14
pub parse_joined : (conv mss : ℕ) (g : Segment) (gs : List Segment) (t : List ℕ) → AllValid conv mss (g ∷ gs) → length t < 24
    → parse conv mss (joined (g ∷ gs) ++ t) ≡ all_in_front (g ∷ gs) (tail t)
unfolding joined
parse_joined conv mss g gs t v h =
    let long : 24 ≤ length (joined (g ∷ gs) ++ t) = rw append_assoc (omega (arith, length_front conv mss g v.0 (joined gs ++ t))) in
    rw (parse_long conv mss (joined (g ∷ gs) ++ t) long, walk_joined conv mss (g ∷ gs) t v, walk_short conv mss t h)

-- with nothing behind them
pub parse_whole : (conv mss : ℕ) (g : Segment) (gs : List Segment) → AllValid conv mss (g ∷ gs)
    → parse conv mss (joined (g ∷ gs)) ≡ segments (g ∷ gs)
parse_whole conv mss g gs v =
    rw append-nil at (parse_joined conv mss g gs [] v (omega arith)) ∙ rw (tail_empty [] refl) (all_in_front_lem (g ∷ gs))

in_front_refused : (gs : List Segment) (r : Refusal) → all_in_front gs (refused r) ≡ refused r
in_front_refused [] r = refl
in_front_refused (g ∷ gs) r = rw (in_front_refused gs r)

-- with a tail behind them: refused whole
pub parse_tail : (conv mss : ℕ) (g : Segment) (gs : List Segment) (b : ℕ) (t : List ℕ) → AllValid conv mss (g ∷ gs) → length (b ∷ t) < 24
    → parse conv mss (joined (g ∷ gs) ++ (b ∷ t)) ≡ refused TrailingBytes
parse_tail conv mss g gs b t v h =
    parse_joined conv mss g gs (b ∷ t) v h ∙ rw (tail_junk (b ∷ t) (omega arith)) (in_front_refused (g ∷ gs) TrailingBytes)
