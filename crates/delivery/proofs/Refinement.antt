-- The receiver of `ReceiverModel` answers as the plain receiver, where every push that it gets is genuine: what it is can be
-- computed from the plain receiver (`listed_as`), before and after every push and read.
-- A proof layer that no contract cites.
-- Assumes nothing.
use Rattle.std.specs.Prelude.{◌≡◌, Bool, cond, not, leb, ltb, eqb}
use Rattle.std.proofs.Math.Path.{refl, sym, ap}
use Rattle.std.proofs.Common.{ap₂, ◌∙◌, not-suc-le-zero, le_refl, zero-add, add-one, length-take, length-drop, drop-drop}
use Rattle.std.proofs.Math.Bool.{true, false, and-false}
use Rattle.std.proofs.lemmas.Bool.{false≢true}
use mathlib.Core.List.{List, [], ◌∷◌, ◌++◌}
use Rattle.std.proofs.Math.Option.{Option, none, some}
use Prim.Native.Nat.{ℕ, zero, suc, ◌+◌, ◌-◌, ◌^◌, ◌≤◌, ◌<◌, zero-le}
use native.Mathlib.Omega.{arith}
use Rattle.std.proofs.Math.ListN.{length, take, drop, get_elem?}
use Rattle.std.proofs.Math.Seq.{take-nil, take-take, take_at}
use borrow.Author.Tests.{ltb-true, ltb-false, lt-ltb, le-ltb, eq-eqb, ne_eqb, le-leb, lt-leb, leb-true, leb-false}
use Rattle.protocol.specs.Protocol.{push, fragment_most, receive_window}
use Rattle.protocol.specs.Ranges.{mss}
use Rattle.protocol.specs.Serial.{plus, minus, is_before}
use Rattle.protocol.specs.SerialLaws.{before_test}
use Rattle.protocol.specs.declared.Settings.{Settings}
use Rattle.datagram.specs.Datagrams.{Segment}
use Rattle.lists.specs.Orders.{insert}
use Rattle.session.specs.Slots.{occurs, lowest_from}
use Rattle.session.specs.Cutting.{fragment_count, cut}
use Rattle.session.specs.Decides.{All}
use Rattle.delivery.specs.PlainReceiver.{
  Plain,
  at_first,
  Found,
  push_numbers,
  segments_of,
  all_heard,
  first_wanted,
  next_expected,
  hear,
  feed,
  answer_for,
  plain_answer,
  leave,
}
use Rattle.delivery.specs.Pieces.{Piece, fragmented, falling, pieces_of, piece_of, pushes}
use Rattle.delivery.specs.FreeSlots.{occurs_later}
use Rattle.delivery.specs.SearchLaws.{
  occurs_other,
  occurs_here,
  occurs_either,
  lowest_from_lem,
  lowest_most,
  lowest_passed,
  lowest_stops,
  lowest_skips,
}
use Rattle.delivery.proofs.PlainLaws.{all_heard_each, each_all_heard, not_all_heard, take_one_more, ComesOut, answer_message}
use Rattle.delivery.specs.ListLaws.{none≢some, entry_inside, drop_entry, entry_of_drop, drop_take}
use Rattle.delivery.specs.PieceLaws.{length_falling, joined_cut, none_behind, message_behind, segments_one_more}
use Rattle.delivery.specs.SendPool.{length_cut, count_least}
use Rattle.delivery.specs.ReceiverModel.{
  Numbered,
  Listed,
  numbered_offset,
  list_advance,
  list_push,
  list_pushes,
  joined,
  list_answer,
  list_rest,
  list_leave,
}

-- ---- numbers that do not wrap

before_less : (a b : ℕ) → a < b → b < 2 ^ 31 → is_before a b ≡ true
before_less a b h u = before_test a b ∙ le-leb (2 ^ 31) (minus a b) (omega arith)

before_not_less : (a b : ℕ) → b ≤ a → a < 2 ^ 31 → is_before a b ≡ false
before_not_less a b h u = before_test a b ∙ lt-leb (2 ^ 31) (minus a b) (omega arith)

-- ---- the waiting segments are those heard, from a number on

unfoldable pub heard_from : List ℕ → ℕ → List Piece → List Numbered
heard_from h n [] = []
heard_from h n (q ∷ qs) = cond (occurs n h) (record { number = n; piece = q } ∷ heard_from h (suc n) qs) (heard_from h (suc n) qs)

heard_none : (qs : List Piece) (n : ℕ) → heard_from [] n qs ≡ []
unfolding heard_from occurs
heard_none [] n = refl
heard_none (q ∷ qs) n = heard_none qs (suc n)

-- a lower number changes nothing
heard_lower : (qs : List Piece) (h : List ℕ) (k n : ℕ) → k < n → heard_from (k ∷ h) n qs ≡ heard_from h n qs
unfolding heard_from
heard_lower [] h k n l = refl
heard_lower (q ∷ qs) h k n l = rw (occurs_other n k h (omega arith), heard_lower qs h k (suc n) (omega arith))

-- only numbers below 2^30 are heard
abbrev Small : List ℕ → Type 0
Small h = (k : ℕ) → occurs k h ≡ true → k < 2 ^ 30

-- one below all of them goes to the front
insert_lower : (base k : ℕ) (p : Piece) (qs : List Piece) (h : List ℕ) (n : ℕ) → Small h → base ≤ k → k < n
    → insert (numbered_offset base) (record { number = k; piece = p }) (heard_from h n qs) ≡ record { number = k; piece = p }
    ∷ heard_from h n qs
unfolding heard_from insert
insert_lower base k p [] h n s b l = refl
insert_lower base k p (q ∷ qs) h n s b l = go (occurs n h) refl (insert_lower base k p qs h (suc n) s b (omega arith))
  where
    new : Numbered
    new = record { number = k; piece = p }

    go : (t : Bool) → occurs n h ≡ t → insert (numbered_offset base) new (heard_from h (suc n) qs) ≡ new ∷ heard_from h (suc n) qs
        → insert (numbered_offset base) new (cond t (record { number = n; piece = q } ∷ heard_from h (suc n) qs) (heard_from h (suc n) qs))
        ≡ new ∷ cond t (record { number = n; piece = q } ∷ heard_from h (suc n) qs) (heard_from h (suc n) qs)
    go true e i =
        let u = s n e in
        rw (ne_eqb (minus n base) (minus k base) (omega arith), lt-ltb (minus k base) (minus n base) (omega arith))
    go false e i = i

-- one of them that is put in is one more heard
insert_heard : (base k : ℕ) (p : Piece) (qs : List Piece) (h : List ℕ) (n i : ℕ) → Small h → k < 2 ^ 30 → base ≤ n → get_elem? qs i ≡ some p
    → k ≡ n + i
    → insert (numbered_offset base) (record { number = k; piece = p }) (heard_from h n qs) ≡ heard_from (k ∷ h) n qs
unfolding heard_from insert
insert_heard base k p [] h n i s u b e q = absurd (none≢some e)
insert_heard base k p (x ∷ qs) h n zero s u b e q =
    rw (occurs_here n k h (omega arith), heard_lower qs h k (suc n) (omega arith)) (go (occurs n h))
  where
    x≡p : x ≡ p
    x≡p = cc

    n≡k : n ≡ k
    n≡k = omega arith

    go : (t : Bool)
        → insert (numbered_offset base) (record { number = k; piece = p })
        (cond t (record { number = n; piece = x } ∷ heard_from h (suc n) qs) (heard_from h (suc n) qs))
        ≡ record { number = n; piece = x } ∷ heard_from h (suc n) qs
    go true = rw (eq-eqb (minus n base) (minus k base) (ap (λ (j : ℕ). minus j base) n≡k))
    go false = insert_lower base k p qs h (suc n) s (omega arith) (omega arith) ∙ rw (x≡p, n≡k)
insert_heard base k p (x ∷ qs) h n (suc i) s u b e q =
    go (occurs n h) refl (insert_heard base k p qs h (suc n) i s u (omega arith) e (omega arith))
  where
    new : Numbered
    new = record { number = k; piece = p }

    go : (t : Bool) → occurs n h ≡ t → insert (numbered_offset base) new (heard_from h (suc n) qs) ≡ heard_from (k ∷ h) (suc n) qs
        → insert (numbered_offset base) new (heard_from h n (x ∷ qs)) ≡ heard_from (k ∷ h) n (x ∷ qs)
    go true f r =
        rw (
          f,
          occurs_later n k h f,
          ne_eqb (minus n base) (minus k base) (omega arith),
          le-ltb (minus k base) (minus n base) (omega arith),
          r,
        )
    go false f r = rw (occurs_other n k h (omega arith), f) r

-- ---- waiting segments become ready

-- the receiver that has heard h, whose ready list starts at the number base
abbrev pub holding : List Piece → List ℕ → ℕ → ℕ → Listed
holding S h base n = record { next = n; ready = take (n - base) (drop base S); waiting = heard_from h n (drop n S) }

advance_full : (n : ℕ) (r : List Piece) (l : List Numbered) → length r ≡ receive_window
    → list_advance n r l ≡ record { next = n; ready = r; waiting = l }
unfolding list_advance
advance_full n r [] e = refl
advance_full n r (w ∷ l) e = rw (le-ltb (length r) receive_window (omega arith), and-false (eqb (minus w.number n) 0))

-- none of them has the number n
advance_none : (n : ℕ) (r : List Piece) (qs : List Piece) (h : List ℕ) (m : ℕ) → Small h → n < m
    → list_advance n r (heard_from h m qs) ≡ record { next = n; ready = r; waiting = heard_from h m qs }
unfolding list_advance heard_from
advance_none n r [] h m s l = refl
advance_none n r (q ∷ qs) h m s l = go (occurs m h) refl (advance_none n r qs h (suc m) s (omega arith))
  where
    go : (t : Bool) → occurs m h ≡ t
        → list_advance n r (heard_from h (suc m) qs) ≡ record { next = n; ready = r; waiting = heard_from h (suc m) qs }
        → list_advance n r (cond t (record { number = m; piece = q } ∷ heard_from h (suc m) qs) (heard_from h (suc m) qs))
        ≡ record {
          next = n;
          ready = r;
          waiting = cond t (record { number = m; piece = q } ∷ heard_from h (suc m) qs) (heard_from h (suc m) qs);
        }
    go true e i = let u = s m e in rw (ne_eqb (minus m n) 0 (omega arith))
    go false e i = i

advance_unheard : (n : ℕ) (r : List Piece) (qs : List Piece) (h : List ℕ) → Small h → occurs n h ≡ false
    → list_advance n r (heard_from h n qs) ≡ record { next = n; ready = r; waiting = heard_from h n qs }
unfolding list_advance heard_from
advance_unheard n r [] h s e = refl
advance_unheard n r (q ∷ qs) h s e = rw e (advance_none n r qs h (suc n) s (omega arith))

-- a heard number is that of an accepted segment, with a fragment number that a link lets through
pub record Known (S : List Piece) (k : ℕ) : Type 0 where
  piece : Piece
  its_piece : get_elem? S k ≡ some piece
  fragment : piece.fragment ≤ fragment_most
  small : k < 2 ^ 30

module _ (S : List Piece) (h : List ℕ) (known : (k : ℕ) → occurs k h ≡ true → Known S k) where
  small_heard : Small h
  small_heard k e = (known k e).small

  moved : (base k n : ℕ) → n + k ≡ base + receive_window → base ≤ n → n ≤ length S
      → list_advance n (take (n - base) (drop base S)) (heard_from h n (drop n S)) ≡ holding S h base (lowest_from h n k)
  unfolding lowest_from list_advance heard_from
  moved base zero n e f u = advance_full n _ _ (simp (length-take, length-drop) (omega arith))
  moved base (suc k) n e f u = go (occurs n h) refl (moved base k (suc n) (omega arith) (omega arith))
    where
      go : (t : Bool) → occurs n h ≡ t
          → (suc n ≤ length S → list_advance (suc n) (take (suc n - base) (drop base S)) (heard_from h (suc n) (drop (suc n) S)) ≡ holding S h
          base (lowest_from h (suc n) k))
          → list_advance n (take (n - base) (drop base S)) (heard_from h n (drop n S)) ≡ holding S h base (cond t (lowest_from h (suc n) k) n)
      go false t rest = advance_unheard n (take (n - base) (drop base S)) (drop n S) h small_heard t
      go true t rest =
          let q : Piece = (known n t).piece in
          let at : get_elem? S n ≡ some q = (known n t).its_piece in
          let low : n < 2 ^ 30 = (known n t).small in
          let i : get_elem? (drop base S) (n - base) ≡ some q =
          entry_of_drop S base (n - base) ∙ ap (λ (j : ℕ). get_elem? S j) (let z : base + (n - base) ≡ n = omega arith in z) ∙ at in
          let l : length (take (n - base) (drop base S)) < receive_window = simp (length-take, length-drop) (omega arith) in
          step q (drop_entry S n q at) low l (take_one_more (drop base S) (n - base) q i) (rest (entry_inside S n q at))
        where
          step : (q : Piece) → drop n S ≡ q ∷ drop (suc n) S → n < 2 ^ 30 → length (take (n - base) (drop base S)) < receive_window
              → take (n - base) (drop base S) ++ (q ∷ []) ≡ take (suc (n - base)) (drop base S)
              → list_advance (suc n) (take (suc n - base) (drop base S)) (heard_from h (suc n) (drop (suc n) S)) ≡ holding S h base
              (lowest_from h (suc n) k)
              → list_advance n (take (n - base) (drop base S)) (heard_from h n (drop n S)) ≡ holding S h base (lowest_from h (suc n) k)
          step q d low l more rec =
              let z : minus n n ≡ 0 = omega arith in
              let j : suc (n - base) ≡ suc n - base = omega arith in
              let p : plus n 1 ≡ suc n = omega arith in
              rw (d, t, eq-eqb (minus n n) 0 z, lt-ltb _ _ l, more, j, p) rec

  settled : (base n : ℕ) → base ≤ n → n ≤ base + receive_window → n ≤ length S → ((i : ℕ) → i < n → occurs i h ≡ true)
      → list_advance n (take (n - base) (drop base S)) (heard_from h n (drop n S)) ≡ holding S h base (lowest_from h 0 (base + receive_window))
  settled base n f l u a =
      let k : ℕ = base + receive_window - n in
      let e : n + k ≡ base + receive_window = omega arith in
      let q : lowest_from h 0 (base + receive_window) ≡ lowest_from h n k =
      ap (λ (x : ℕ). lowest_from h 0 x) (sym e) ∙ lowest_skips h 0 n k (λ i _ t. a i (rw (zero-add n) at t)) ∙ ap
      (λ (x : ℕ). lowest_from h x k) (zero-add n) in
      moved base k n e f u ∙ ap (λ (x : ℕ). holding S h base x) (sym q)

-- ---- the two receivers side by side

module _ (c : Settings) (accepted : List (List ℕ)) where
  -- the accepted segments, the next expected number, the number of the first segment that is not out
  abbrev S : List Piece
  S = pieces_of (mss c) accepted

  abbrev next : Plain → ℕ
  next p = next_expected c accepted p

  abbrev base : Plain → ℕ
  base p = first_wanted c accepted p

  -- the receiver that has done what p has
  abbrev pub listed_as : Plain → Listed
  listed_as p = holding S p.heard (base p) (next p)

  -- what holds of p while its pushes are genuine: what it has heard are accepted segments, and it has heard all that is out
  pub record Fed (p : Plain) : Type 0 where
    known : (k : ℕ) → occurs k p.heard ≡ true → Known S k
    out_heard : (k : ℕ) → k < base p → occurs k p.heard ≡ true

  -- a genuine push with a fragment number that a link lets through
  pub record Arrives (sn : ℕ) (q : Piece) : Type 0 where
    pub its_piece : get_elem? S sn ≡ some q
    pub fragment : q.fragment ≤ fragment_most
    pub small : sn < 2 ^ 30

  module _ (p : Plain) (fed : Fed p) where
    next_heard : (i : ℕ) → i < next p → occurs i p.heard ≡ true
    next_heard i l = lowest_passed p.heard 0 (base p + receive_window) i zero-le l

    next_most : next p ≤ base p + receive_window
    next_most = rw (zero-add (base p + receive_window)) at (lowest_most p.heard 0 (base p + receive_window))

    next_least : base p ≤ next p
    next_least =
        let b : ℕ = base p in
        let e : lowest_from p.heard 0 (b + receive_window) ≡ lowest_from p.heard (0 + b) receive_window =
        lowest_skips p.heard 0 b receive_window (λ i _ l. fed.out_heard i (rw (zero-add b) at l)) in
        omega (arith, e, lowest_from_lem p.heard (0 + b) receive_window)

    next_inside : (next p ≤ length S) × (next p ≤ 2 ^ 30)
    next_inside = go (next p) next_heard
      where
        go : (n : ℕ) → ((i : ℕ) → i < n → occurs i p.heard ≡ true) → (n ≤ length S) × (n ≤ 2 ^ 30)
        go zero a = (zero-le, zero-le)
        go (suc n) a =
            let k = fed.known n (a n (le_refl (suc n))) in
            (entry_inside S n k.piece k.its_piece, k.small)

    next_unheard : next p < base p + receive_window → occurs (next p) p.heard ≡ false
    next_unheard l = lowest_stops p.heard 0 (base p + receive_window) (omega arith)

  -- ---- a push

  pub fed_hear : (p : Plain) (sn : ℕ) (q : Piece) → Fed p → Arrives sn q → Fed (hear c accepted p sn)
  fed_hear p sn q fed g = go (ltb sn (next p + receive_window))
    where
      new : Known S sn
      new = record { piece = q; its_piece = g.its_piece; fragment = g.fragment; small = g.small }

      go : (b : Bool) → Fed (cond b (record { heard = sn ∷ p.heard; out = p.out }) p)
      go true = record {
        known = λ k e. occurs_either (Known S k) k sn p.heard e (λ i. rw i new) (fed.known k);
        out_heard = λ k l. occurs_later k sn p.heard (fed.out_heard k l);
      }
      go false = fed

  pub push_as : (p : Plain) (sn : ℕ) (q : Piece) → Fed p → Arrives sn q → list_push (listed_as p) sn q ≡ listed_as (hear c accepted p sn)
  push_as p sn q fed g = go (ltb sn (next p + receive_window)) refl (fed_hear p sn q fed g)
    where
      top : next p ≤ 2 ^ 30
      top = (next_inside p fed).1

      wide : plus (next p) receive_window ≡ next p + receive_window
      wide = omega (arith, top)

      -- whether it is kept or not, what waits is what is heard
      kept : (t : Bool) → ltb sn (next p) ≡ t
          → cond (not (is_before sn (next p))) (insert (numbered_offset (next p)) (record { number = sn; piece = q })
          (heard_from p.heard (next p) (drop (next p) S))) (heard_from p.heard (next p) (drop (next p) S))
          ≡ heard_from (sn ∷ p.heard) (next p) (drop (next p) S)
      kept true l =
          rw (before_less sn (next p) (ltb-true sn (next p) l) (omega (arith, top)))
          (sym (heard_lower (drop (next p) S) p.heard sn (next p) (ltb-true sn (next p) l)))
      kept false l =
          let f : next p ≤ sn = ltb-false sn (next p) l in
          let i : next p + (sn - next p) ≡ sn = omega arith in
          rw (before_not_less sn (next p) f (omega (arith, g.small)))
          (insert_heard (next p) sn q (drop (next p) S) p.heard (next p) (sn - next p) (small_heard S p.heard fed.known) g.small
          (le_refl (next p)) (entry_of_drop S (next p) (sn - next p) ∙ ap (λ (j : ℕ). get_elem? S j) i ∙ g.its_piece) (sym i))

      go : (t : Bool) → ltb sn (next p + receive_window) ≡ t → Fed (cond t (record { heard = sn ∷ p.heard; out = p.out }) p)
          → list_push (listed_as p) sn q ≡ listed_as (cond t (record { heard = sn ∷ p.heard; out = p.out }) p)
      go false e f =
          rw (wide, before_not_less sn (next p + receive_window) (ltb-false sn (next p + receive_window) e) (omega (arith, g.small)))
          (settled S p.heard fed.known (base p) (next p) (next_least p fed) (next_most p fed) (next_inside p fed).0
          (next_heard p fed))
      go true e f =
          rw (
            wide,
            before_less sn (next p + receive_window) (ltb-true sn (next p + receive_window) e) (omega (arith, top)),
            kept (ltb sn (next p)) refl,
          )
          (settled S (sn ∷ p.heard) f.known (base p) (next p) (next_least p fed) (next_most p fed) (next_inside p fed).0
          (λ i l. occurs_later i sn p.heard (next_heard p fed i l)))

  -- ---- a read

  -- the next message, as its segments stand from the first wanted on
  record NextMessage (p : Plain) (x : List ℕ) : Type 0 where
    first : List ℕ
    others : List (List ℕ)
    behind : List Piece
    cuts : cut (mss c) x ≡ first ∷ others
    count : fragment_count (mss c) (length x) ≡ suc (length others)
    stands : drop (base p) S ≡ record { fragment = length others; payload = first } ∷ (falling others ++ behind)

  next_message : (p : Plain) (x : List ℕ) → get_elem? accepted p.out ≡ some x → NextMessage p x
  unfolding fragmented
  next_message p x e = go (cut (mss c) x) refl
    where
      go : (ps : List (List ℕ)) → cut (mss c) x ≡ ps → NextMessage p x
      go [] q = absurd (omega (arith, ap length q, length_cut (mss c) x, count_least (mss c) (length x)))
      go (f ∷ ps) q = record {
        first = f;
        others = ps;
        behind = pieces_of (mss c) (drop (suc p.out) accepted);
        cuts = q;
        count = sym (length_cut (mss c) x) ∙ ap length q;
        stands = message_behind (mss c) accepted p.out x e ∙ ap
            (λ (l : List (List ℕ)). falling l ++ pieces_of (mss c) (drop (suc p.out) accepted)) q;
      }

  module _ (p : Plain) (fed : Fed p) (x : List ℕ) (m : NextMessage p x) where
    -- once its first segment is heard, it has at most 127
    few_others : base p < next p → length m.others ≤ fragment_most
    few_others l =
        let k = fed.known (base p) (next_heard p fed (base p) l) in
        let e : get_elem? (drop (base p) S) 0 ≡ get_elem? S (base p + 0) = entry_of_drop S (base p) 0 in
        let z : base p + 0 ≡ base p = omega arith in
        let q : record { fragment = length m.others; payload = m.first } ≡ k.piece = cc (m.stands, e, z, k.its_piece) in
        let f : length m.others ≡ k.piece.fragment = ap (λ (y : Piece). y.fragment) q in
        omega (arith, f, k.fragment)

    -- what is left of it to hear
    gap : next p < base p + suc (length m.others) → next p < base p + receive_window
        → all_heard p.heard (base p) (fragment_count (mss c) (length x)) ≡ false
    gap l w =
        rw m.count
        (not_all_heard p.heard (base p) (suc (length m.others)) (next p) (next_least p fed) l (next_unheard p fed w))

    -- the ready list, one segment or more
    ready_suc : (j : ℕ) → next p - base p ≡ suc j
        → (listed_as p).ready ≡ record { fragment = length m.others; payload = m.first } ∷ take j (falling m.others ++ m.behind)
    ready_suc j q = rw (q, m.stands)

    ready_length : (j : ℕ) → next p - base p ≡ suc j → length (take j (falling m.others ++ m.behind)) ≡ j
    ready_length j q =
        let long : length S - base p ≡ suc (length (falling m.others ++ m.behind)) =
        sym (length-drop (base p) S) ∙ ap length m.stands in
        simp length-take (omega (arith, long, (next_inside p fed).0, next_least p fed))

    -- its segments at the front of the ready list, joined
    front_joined : 0 < mss c → (j : ℕ) → length m.others ≤ j
        → joined (take (length m.others + 1) (record { fragment = length m.others; payload = m.first }
        ∷ take j (falling m.others ++ m.behind))) ≡ x
    unfolding fragmented joined
    front_joined some_bytes j l =
        let t : take (length m.others) (take j (falling m.others ++ m.behind)) ≡ falling m.others =
        take-take (length m.others) j (falling m.others ++ m.behind) l ∙ take_at (falling m.others) m.behind
        (length m.others) (length_falling m.others) in
        rw (add-one (length m.others), t) (rw m.cuts at (joined_cut (mss c) x some_bytes))

    answer_some : 0 < mss c → (room : ℕ) → list_answer (listed_as p).ready room ≡ answer_for c accepted p room (some x)
    answer_some some_bytes room = go (next p - base p) refl
      where
        go : (k : ℕ) → next p - base p ≡ k → list_answer (listed_as p).ready room ≡ answer_for c accepted p room (some x)
        go zero q = rw (q, gap (omega (arith, next_least p fed)) (omega (arith, next_least p fed)))
        go (suc j) q = rw (ready_suc j q, ready_length j q) (at (leb (length m.others + 1) (suc j)) refl)
          where
            few : length m.others ≤ fragment_most
            few = few_others (omega (arith, next_least p fed))

            all : length m.others ≤ j → all_heard p.heard (base p) (fragment_count (mss c) (length x)) ≡ true
            all l =
                rw m.count
                (each_all_heard p.heard (base p) (suc (length m.others)) (λ i f u. next_heard p fed i (omega arith)))

            ready : List Piece
            ready = record { fragment = length m.others; payload = m.first } ∷ take j (falling m.others ++ m.behind)

            at : (t : Bool) → leb (length m.others + 1) (suc j) ≡ t
                → cond t
                (cond (ltb room (length (joined (take (length m.others + 1) ready)))) Found.short
                (Found.message (joined (take (length m.others + 1) ready))))
                Found.nothing
                ≡ answer_for c accepted p room (some x)
            at true l =
                let u : length m.others ≤ j = omega (arith, leb-true (length m.others + 1) (suc j) l) in
                rw (front_joined some_bytes j u, all u)
            at false l =
                let u : suc j < length m.others + 1 = leb-false (length m.others + 1) (suc j) l in
                rw (gap (omega (arith, next_least p fed)) (omega (arith, few, next_least p fed)))

    -- as many segments leave the ready list as the message has
    rest_as : base p + fragment_count (mss c) (length x) ≤ next p
        → list_rest (listed_as p).ready
        ≡ take (next p - (base p + fragment_count (mss c) (length x))) (drop (base p + fragment_count (mss c) (length x)) S)
    rest_as l = go (next p - base p) refl
      where
        k : ℕ
        k = fragment_count (mss c) (length x)

        go : (j : ℕ) → next p - base p ≡ j
            → list_rest (listed_as p).ready
            ≡ take (next p - (base p + k)) (drop (base p + k) S)
        go zero q = absurd (omega (arith, count_least (mss c) (length x)))
        go (suc j) q =
            let e : k ≡ length m.others + 1 = omega (arith, m.count) in
            let i : suc j - k ≡ next p - (base p + k) = omega arith in
            ap list_rest (ready_suc j q)
            ∙ ap₂ (λ (a : ℕ) (r : List Piece). drop a r) (sym e) (sym (ready_suc j q))
            ∙ ap (λ (a : ℕ). drop k (take a (drop (base p) S))) q
            ∙ drop_take k (suc j) (drop (base p) S)
            ∙ rw (drop-drop k (base p) S, i)

  module _ (some_bytes : 0 < mss c) where
    pub answer_as : (p : Plain) (room : ℕ) → Fed p → list_answer (listed_as p).ready room ≡ plain_answer c accepted p room
    unfolding plain_answer
    answer_as p room fed = go (get_elem? accepted p.out) refl
      where
        go : (w : Option (List ℕ)) → get_elem? accepted p.out ≡ w → list_answer (listed_as p).ready room ≡ answer_for c accepted p room w
        go none e = rw (none_behind (mss c) accepted p.out e, take-nil {A = Piece} (next p - base p))
        go (some x) e = answer_some p fed x (next_message p x e) some_bytes room

  -- a message that comes out
  module _ (p : Plain) (room : ℕ) (fed : Fed p) (x : List ℕ) (e : plain_answer c accepted p room ≡ Found.message x) where
    out : ComesOut c accepted p x
    out = answer_message c accepted p room x e

    one_more : segments_of (mss c) (take (suc p.out) accepted) ≡ base p + fragment_count (mss c) (length x)
    one_more = segments_one_more (mss c) accepted p.out x out.is_next_lem

    fed_message : Fed (record { heard = p.heard; out = suc p.out })
    fed_message = record { known = fed.known; out_heard = λ k l. more k (ltb k (base p)) refl l }
      where
        more : (k : ℕ) (b : Bool) → ltb k (base p) ≡ b → k < segments_of (mss c) (take (suc p.out) accepted) → occurs k p.heard ≡ true
        more k true u l = fed.out_heard k (ltb-true k (base p) u)
        more k false u l =
            all_heard_each p.heard (base p) (fragment_count (mss c) (length x)) out.is_heard k
            (ltb-false k (base p) u) (omega (arith, one_more))

    -- all of it is below the next expected number
    reached : segments_of (mss c) (take (suc p.out) accepted) ≤ next p
    reached = go (ltb (next p) (segments_of (mss c) (take (suc p.out) accepted))) refl
      where
        m : NextMessage p x
        m = next_message p x out.is_next_lem

        go : (b : Bool) → ltb (next p) (segments_of (mss c) (take (suc p.out) accepted)) ≡ b
            → segments_of (mss c) (take (suc p.out) accepted) ≤ next p
        go false u = ltb-false (next p) (segments_of (mss c) (take (suc p.out) accepted)) u
        go true u = absurd (false≢true (sym (next_unheard p fed (near (ltb (base p) (next p)) refl)) ∙ fed_message.out_heard (next p)
            below))
          where
            below : next p < segments_of (mss c) (take (suc p.out) accepted)
            below = ltb-true (next p) (segments_of (mss c) (take (suc p.out) accepted)) u

            near : (b : Bool) → ltb (base p) (next p) ≡ b → next p < base p + receive_window
            near true l =
                let few : length m.others ≤ fragment_most = few_others p fed x m (ltb-true (base p) (next p) l) in
                omega (arith, few, m.count, one_more, below)
            near false l = omega (arith, ltb-false (base p) (next p) l)

    message_as : list_advance (next p) (list_rest (listed_as p).ready) (listed_as p).waiting ≡ listed_as
        (record { heard = p.heard; out = suc p.out })
    message_as =
        rw (rest_as p fed x (next_message p x out.is_next_lem) (omega (arith, one_more, reached)), ← one_more)
        (settled S p.heard fed.known (segments_of (mss c) (take (suc p.out) accepted)) (next p) reached
        (omega (arith, one_more, next_most p fed)) (next_inside p fed).0 (next_heard p fed))

  pub fed_leave : (p : Plain) (room : ℕ) → Fed p → Fed (leave c accepted p (plain_answer c accepted p room))
  fed_leave p room fed = go (plain_answer c accepted p room) refl
    where
      go : (f : Found) → plain_answer c accepted p room ≡ f → Fed (leave c accepted p f)
      go Found.nothing e = fed
      go Found.short e = fed
      go (Found.message x) e = fed_message p room fed x e

  -- a read, with what it finds
  pub leave_as : (p : Plain) (room : ℕ) → Fed p
      → list_leave (listed_as p) (plain_answer c accepted p room) ≡ listed_as (leave c accepted p (plain_answer c accepted p room))
  leave_as p room fed = go (plain_answer c accepted p room) refl
    where
      go : (f : Found) → plain_answer c accepted p room ≡ f → list_leave (listed_as p) f ≡ listed_as (leave c accepted p f)
      go Found.nothing e = refl
      go Found.short e = refl
      go (Found.message x) e = message_as p room fed x e

  -- ---- a datagram's pushes, and the start

  -- each of these pushes is genuine
  abbrev pub AllArrive : List Segment → Type 0
  AllArrive ps = All (λ (g : Segment). Arrives g.header.sn (piece_of g)) ps

  -- pushes with these numbers do to the one receiver what they do to the other
  pub record FeedsAs (p : Plain) (ps : List Segment) (ns : List ℕ) : Type 0 where
    pub same : list_pushes (listed_as p) ps ≡ listed_as (feed c accepted p ns)
    pub fed : Fed (feed c accepted p ns)

  pub feed_as : (gs : List Segment) (p : Plain) → AllArrive (pushes gs) → Fed p → FeedsAs p (pushes gs) (push_numbers gs)
  unfolding pushes push_numbers list_pushes feed
  feed_as [] p a fed = record { same = refl; fed = fed }
  feed_as (g ∷ gs) p a fed = go (eqb g.header.cmd push) a (λ q. feed_as gs q)
    where
      sn : ℕ
      sn = g.header.sn

      go : (b : Bool) → AllArrive (cond b (g ∷ pushes gs) (pushes gs))
          → ((q : Plain) → AllArrive (pushes gs) → Fed q → FeedsAs q (pushes gs) (push_numbers gs))
          → FeedsAs p (cond b (g ∷ pushes gs) (pushes gs)) (cond b (sn ∷ push_numbers gs) (push_numbers gs))
      go true a rest =
          let r = rest (hear c accepted p sn) a.1 (fed_hear p sn (piece_of g) fed a.0) in
          record { same = ap (λ (x : Listed). list_pushes x (pushes gs)) (push_as p sn (piece_of g) fed a.0) ∙ r.same; fed = r.fed }
      go false a rest = rest p a fed

  pub fed_first : Fed at_first
  unfolding occurs segments_of
  fed_first = record { known = λ k e. absurd (false≢true e); out_heard = λ k l. absurd (not-suc-le-zero l) }

  pub listed_first : listed_as at_first ≡ record { next = 0; ready = []; waiting = [] }
  unfolding segments_of lowest_from occurs
  listed_first = rw (heard_none S 0)
