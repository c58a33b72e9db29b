-- The segments of a message are freed: the half that is left is the one after reading.
-- Assumes nothing.
use mathlib.Core.Path.{◌≡◌, refl, sym, ap, ◌∙◌}
use mathlib.Core.Bool.{◌&&◌, ◌||◌}
use mathlib.Core.List.{List, map}
use Prim.Native.Nat.{ℕ, ◌-◌, ◌≤◌}
use native.Mathlib.Omega.{arith}
use lib.Dec.{eqb, ltb}
use lib.ListN.{length, take, drop}
use Rattle.lists.specs.Views.{held_of, waiting_of}
use Rattle.lists.specs.Receiving.{advance, ReceivingIs}
use Rattle.session.specs.State.{Ack}
use Rattle.session.specs.Reading.{front_count, after_read}
use Rattle.words.specs.Words.{unpack, held_in, waiting_in, Front}
use Rattle.control.specs.Views.{is_set, receiving_of}
use Rattle.control.specs.declared.Arrival.{Arrival}
use Rattle.arriving.specs.Arrivals.{ready_list, waiting_list, lists_of, Advanced}
use Rattle.std.proofs.lemmas.List.{drop-map}
use Rattle.arriving.proofs.Views.{held_length, ready_view, waiting_view}

-- the first k are dropped, and those that wait move up
pub freed_reads : (a : Arrival) (r w ns r' : List ℕ) (k : ℕ) → length r ≡ 128 → a.ready ≤ 128
    → Front 128 r' (a.ready - k) (drop k (take a.ready r))
    → (left moved : Arrival) (r'' w'' ns'' : List ℕ)
    → Advanced left a.expected (held_of (ready_list r' (a.ready - k))) (waiting_of (waiting_list w ns a.waiting)) moved r'' w'' ns''
    → (t : ℕ) → is_set t ≡ (is_set a.tell || (eqb a.ready 128 && ltb moved.ready 128))
    → (acks : List Ack) → front_count (held_in r a.ready) ≡ k
    → receiving_of (record { expected = moved.expected; tell = t; ready = moved.ready; waiting = moved.waiting; acks = moved.acks }) r''
    w'' ns'' acks ≡ after_read (receiving_of a r w ns acks)
unfolding after_read
freed_reads a r w ns r' k e few front left moved r'' w'' ns'' ad t wanted acks q =
    let n : ℕ = a.ready in
    let dropped : held_of (ready_list r' (n - k)) ≡ drop k (held_in r n) =
    ready_view r' (n - k) ∙ ap (map unpack) front.list ∙ sym (drop-map unpack k (take n r)) in
    let i : ReceivingIs (lists_of moved r'' w'' ns'') (advance a.expected (drop k (held_in r n)) (waiting_in w ns a.waiting)) =
    rw (dropped, waiting_view w ns a.waiting) at ad.is in
    let ready = sym (ready_view r'' moved.ready) ∙ i.ready.list in
    let waits = sym (waiting_view w'' ns'' moved.waiting) ∙ i.waiting.list in
    let after = held_length r'' moved.ready (omega (arith, ad.whole.whole_ready, i.ready.fits)) in
    rw (q, held_length r n (omega arith), ← i.next, ← ready, ← waits, after, wanted) refl
