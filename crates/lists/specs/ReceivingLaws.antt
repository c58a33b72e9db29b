-- Laws of `Receiving`: advancing in one pass, and what it preserves.
-- Assumes nothing.
use Rattle.std.specs.Prelude.{◌≡◌, Bool, cond, ◌&&◌, ℕ, zero, suc, ◌-◌, ◌≤◌, ◌<◌, ◌^◌, length, take, drop}
use Rattle.std.proofs.Math.Path.{refl}
use Rattle.std.proofs.Common.{◌∙◌, arith, ltb-true, ltb-false, eqb-true, length-append}
use Rattle.std.proofs.Math.Bool.{true, false}
use mathlib.Core.List.{List, [], ◌∷◌, ◌++◌, map, append-nil}
use Rattle.std.proofs.Math.Dec.{ltb}
use Rattle.std.proofs.Math.Seq.{take-nil, append_snoc}
use Rattle.protocol.specs.Protocol.{receive_window}
use Rattle.protocol.specs.Serial.{plus, minus}
use Rattle.lists.specs.declared.Held.{Held}
use Rattle.lists.specs.declared.Waiting.{Waiting}
use Rattle.lists.specs.Orders.{waiting_offset, ascending}
use Rattle.lists.specs.OrderLaws.{ascending_first, ascending_moved, offset_plus}
use Rattle.lists.specs.Views.{waiting_part}
use Rattle.lists.specs.Receiving.{Received, is_next, starts_at, advance, run_of}

-- a fact of the number expected next, of what is ready and of what waits
abbrev pub Holding : (ℕ → List Held → List Waiting → Type 0) → Received → Type 0
Holding P s = P s.next s.ready s.waiting

-- the first k waiting segments become ready
abbrev pub raised : ℕ → List Held → List Waiting → ℕ → Received
raised next ready waiting k = record { next = plus next k; ready = ready ++ map waiting_part (take k waiting); waiting = drop k waiting }

-- none does
raised_none : (next : ℕ) (ready : List Held) (waiting : List Waiting) → next < 2 ^ 32
    → record { next = next; ready = ready; waiting = waiting } ≡ raised next ready waiting 0
raised_none next ready waiting h = let e : plus next 0 ≡ next = omega arith in rw (append-nil, e)

-- one does, and then k
raised_more : (next : ℕ) (ready : List Held) (w : Waiting) (l : List Waiting) (k : ℕ)
    → raised (plus next 1) (ready ++ (waiting_part w ∷ [])) l k ≡ raised next ready (w ∷ l) (suc k)
raised_more next ready w l k = let e : plus (plus next 1) k ≡ plus next (suc k) = omega arith in rw (append_snoc, e)

-- how many can become ready: a run of numbers, up to 128 ready
abbrev pub risen : ℕ → List Held → List Waiting → ℕ
risen next ready waiting = run_of next (take (128 - length ready) waiting)

run_none : (next : ℕ) (w : Waiting) (l : List Waiting) (n : ℕ) → is_next next w ≡ false → run_of next (take n (w ∷ l)) ≡ 0
unfolding run_of
run_none next w l zero e = refl
run_none next w l (suc n) e = rw e

-- to advance is to raise the whole run at once
pub advance_run : (next : ℕ) (ready : List Held) (waiting : List Waiting) → next < 2 ^ 32
    → advance next ready waiting ≡ raised next ready waiting (risen next ready waiting)
unfolding advance run_of
advance_run next ready [] h = rw (take-nil {A = Waiting} (128 - length ready)) (raised_none next ready [] h)
advance_run next ready (w ∷ l) h =
    step (is_next next w) (ltb (length ready) 128) refl refl (advance_run (plus next 1) (ready ++ (waiting_part w ∷ [])) l (omega arith))
  where
    step : (t u : Bool) → is_next next w ≡ t → ltb (length ready) 128 ≡ u
        → advance (plus next 1) (ready ++ (waiting_part w ∷ [])) l ≡ raised (plus next 1) (ready ++ (waiting_part w ∷ [])) l
        (risen (plus next 1) (ready ++ (waiting_part w ∷ [])) l)
        → cond (t && u) (advance (plus next 1) (ready ++ (waiting_part w ∷ [])) l) (record { next = next; ready = ready; waiting = w ∷ l })
        ≡ raised next ready (w ∷ l) (risen next ready (w ∷ l))
    step true true e f ih =
        let less = ltb-true (length ready) 128 f in
        let q : 128 - length ready ≡ suc (128 - length (ready ++ (waiting_part w ∷ []))) =
        omega (arith, length-append ready (waiting_part w ∷ [])) in
        ih ∙ raised_more next ready w l (risen (plus next 1) (ready ++ (waiting_part w ∷ [])) l) ∙ rw (q, e)
    step true false e f ih =
        let q : 128 - length ready ≡ 0 = omega (arith, ltb-false (length ready) 128 f) in
        rw q (raised_none next ready (w ∷ l) h)
    step false u e f ih = rw (run_none next w l (128 - length ready) e) (raised_none next ready (w ∷ l) h)

-- what a segment's becoming ready preserves, advancing preserves
module _ (P : ℕ → List Held → List Waiting → Type 0)
    (step : (next : ℕ) (ready : List Held) (w : Waiting) (l : List Waiting) → is_next next w ≡ true → length ready < receive_window
    → P next ready (w ∷ l) → P (plus next 1) (ready ++ (waiting_part w ∷ [])) l) where
  pub advance_preserves : (next : ℕ) (ready : List Held) (waiting : List Waiting) → P next ready waiting
      → Holding P (advance next ready waiting)
  unfolding advance
  advance_preserves next ready [] p = p
  advance_preserves next ready (w ∷ l) p =
      go (is_next next w) (ltb (length ready) receive_window) refl refl (advance_preserves (plus next 1) (ready ++ (waiting_part w ∷ [])) l)
    where
      go : (t u : Bool) → is_next next w ≡ t → ltb (length ready) receive_window ≡ u
          → (P (plus next 1) (ready ++ (waiting_part w ∷ [])) l → Holding P (advance (plus next 1) (ready ++ (waiting_part w ∷ [])) l))
          → Holding P (cond (t && u) (advance (plus next 1) (ready ++ (waiting_part w ∷ [])) l)
          (record { next = next; ready = ready; waiting = w ∷ l }))
      go true true e f ih = ih (step next ready w l e (ltb-true (length ready) receive_window f) p)
      go true false e f ih = p
      go false u e f ih = p

-- the waiting segments are in order from next on
abbrev pub Ordered : ℕ → ℕ → List Held → List Waiting → Type 0
Ordered limit next ready waiting = (next < 2 ^ 32) × (ascending (waiting_offset next) 0 limit waiting ≡ true)

ordered_step : (limit next : ℕ) (ready : List Held) (w : Waiting) (l : List Waiting) → is_next next w ≡ true → length ready < receive_window
    → Ordered limit next ready (w ∷ l) → Ordered limit (plus next 1) (ready ++ (waiting_part w ∷ [])) l
ordered_step limit next ready w l e r o =
    let f = ascending_first (waiting_offset next) 0 limit w l o.1 in
    let none = eqb-true (minus w.number next) 0 e in (
      omega arith,
      ascending_moved (waiting_offset next) (waiting_offset (plus next 1)) 1 (λ x g. offset_plus next 1 x.number o.0 g) 1
          limit limit l (omega arith) (omega arith) (rw none at f.later),
    )

-- they stay in order, from the new number on
pub advance_ordered : (limit next : ℕ) (ready : List Held) (waiting : List Waiting) → Ordered limit next ready waiting
    → Holding (Ordered limit) (advance next ready waiting)
advance_ordered limit = advance_preserves (Ordered limit) (ordered_step limit)

-- each segment stays held, in the same order
pub advance_held : (next : ℕ) (ready : List Held) (waiting : List Waiting)
    → Holding (λ n r w. r ++ map waiting_part w ≡ ready ++ map waiting_part waiting) (advance next ready waiting)
advance_held next ready waiting =
    advance_preserves (λ n r w. r ++ map waiting_part w ≡ ready ++ map waiting_part waiting) (λ n r w l e f p. rw append_snoc p) next ready
    waiting refl

-- at most 128 are ready
pub advance_ready : (next : ℕ) (ready : List Held) (waiting : List Waiting) → length ready ≤ receive_window
    → length (advance next ready waiting).ready ≤ receive_window
advance_ready = advance_preserves (λ n r w. length r ≤ receive_window) (λ n r w l e f p. simp length-append (omega arith))

-- and nothing waits that could be ready
pub advance_settled : (next : ℕ) (ready : List Held) (waiting : List Waiting)
    → Holding (λ n r w. (starts_at n w && ltb (length r) receive_window) ≡ false) (advance next ready waiting)
unfolding advance starts_at
advance_settled next ready [] = refl
advance_settled next ready (w ∷ l) =
    go (is_next next w && ltb (length ready) receive_window) refl (advance_settled (plus next 1) (ready ++ (waiting_part w ∷ [])) l)
  where
    go : (t : Bool) → (is_next next w && ltb (length ready) receive_window) ≡ t
        → Holding (λ n r w. (starts_at n w && ltb (length r) receive_window) ≡ false)
        (advance (plus next 1) (ready ++ (waiting_part w ∷ [])) l)
        → Holding (λ n r w. (starts_at n w && ltb (length r) receive_window) ≡ false)
        (cond t (advance (plus next 1) (ready ++ (waiting_part w ∷ [])) l) (record { next = next; ready = ready; waiting = w ∷ l }))
    go true e ih = ih
    go false e ih = e
