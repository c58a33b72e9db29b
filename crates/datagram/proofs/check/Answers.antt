-- `datagram::check` meets its contract: what the walk gives from `at` on, with `count` segments before it, is the answer for the whole.
use Rattle.std.specs.Prelude.{◌≡◌, None, Ok, Err, List, ℕ, ◌+◌, ◌-◌, ◌≤◌, ◌<◌, length, drop}
use Rattle.std.proofs.Common.{sym, ◌∙◌, add-zero, arith, length-drop}
use Rattle.std.proofs.lemmas.Result.{err_from_is_err_and}
use Rattle.wire.specs.Headers.{header_at}
use Rattle.wire.specs.declared.Header.{Header}
use Rattle.protocol.specs.declared.Refusal.{Refusal}
use Rattle.protocol.specs.declared.Refusal.TheVariants.{TrailingBytes}
use Rattle.datagram.specs.Datagrams.{Checked, verdict, walk, parse, counted}
use Rattle.datagram.specs.FoundLaws.{IsWhole, found_whole, found_short}
use Rattle.datagram.specs.WalkLaws.{passed, tail_empty, tail_junk, walk_end, walk_at, parse_long, parse_short, counted_front}
use Rattle.datagram.proofs.check.Goals as goal

-- the walk goes on behind a segment that has passed, inside the datagram
record GoesOn (conv mss : ℕ) (s : List ℕ) (i count : ℕ) (whole : Checked) (h : Header) : Type 0 where
  inside : i + 24 + h.len ≤ length s
  rest : counted (count + 1) (walk conv mss 0 (drop (i + 24 + h.len) s)) ≡ whole

-- whole is the answer for a datagram of which count segments stand before index i
module _ (conv mss : ℕ) (s : List ℕ) (i count : ℕ) (whole : Checked) (e : counted count (walk conv mss 0 (drop i s)) ≡ whole) where
  stops : header_at s i ≡ None → length s ≤ i → Ok count ≡ whole
  stops f h = rw (walk_end conv mss s i (found_short s i f), tail_empty (drop i s) (rw length-drop (omega arith)), add-zero) at e

  refuses_tail : header_at s i ≡ None → i < length s → Err TrailingBytes ≡ whole
  refuses_tail f h = rw (walk_end conv mss s i (found_short s i f), tail_junk (drop i s) (rw length-drop (omega arith))) at e

  module _ (h : Header) (w : IsWhole s i h) where
    refuses : (r : Refusal) → verdict conv mss (length s - (i + 24)) h ≡ Err r → Err r ≡ whole
    refuses r v = rw (walk_at conv mss s i w.inside, ← w.header, v) at e

    goes_on : verdict conv mss (length s - (i + 24)) h ≡ Ok tt → GoesOn conv mss s i count whole h
    goes_on v = record {
      inside = omega (arith, w.inside, (passed _ _ _ _ v).inside);
      rest = rw (walk_at conv mss s i w.inside, ← w.header, v, counted_front) at e;
    }

-- the segment has passed
went_on : (c : goal.After-struct_known-1) →
    let a = c.args in
    GoesOn a.conv a.mss a.s.now c.loop-h.at c.loop-h.count (counted 0 (parse a.conv a.mss a.s.now)) c.in-Some.h
went_on c =
    goes_on _ _ _ _ _ _ c.loop-h.invariant.2 _ (found_whole _ _ _ (sym c.find_header.ensures ∙ c.in-Some.is)) (sym c.in_ok-judge.ensures)

pub loop-h-init : goal.loop-h-init
loop-h-init c = (omega arith, omega arith, rw (parse_long _ _ _ c.if-s-lt-HEADER.false))

pub returns-then-at-s : goal.returns-then-at-s
returns-then-at-s c = refuses_tail _ _ _ _ _ _ c.loop-h.invariant.2 (sym c.find_header.ensures ∙ c.in_default.is) c.if-at-s.true

pub returns : goal.returns
returns c = stops _ _ _ _ _ _ c.loop-h.invariant.2 (sym c.find_header.ensures ∙ c.in_default.is) c.if-at-s.false

pub returns-in_err-judge : goal.returns-in_err-judge
returns-in_err-judge c =
    let p = err_from_is_err_and c.from_residual.result c.from_residual.ensures.1 in
    let whole = found_whole _ _ _ (sym c.find_header.ensures ∙ c.in-Some.is) in
    rw (p.1, p.2) (refuses _ _ _ _ _ _ c.loop-h.invariant.2 _ whole _ (sym c.in_err-judge.ensures))

pub loop-h-preserved : goal.loop-h-preserved
loop-h-preserved c = let w = went_on c in (w.inside, omega arith, w.rest)

pub returns-then-s-lt-HEADER : goal.returns-then-s-lt-HEADER
returns-then-s-lt-HEADER c = rw (parse_short _ _ _ c.if-s-lt-HEADER.true)

pub overflow_sub-s : goal.overflow_sub-s
overflow_sub-s c = (found_whole _ _ _ (sym c.find_header.ensures ∙ c.in-Some.is)).inside

pub loop-h-smaller : goal.loop-h-smaller
loop-h-smaller c = omega (arith, (went_on c).inside)
