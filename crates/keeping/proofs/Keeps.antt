-- What is asked where a push is kept, and what keeping it leaves.
-- Assumes nothing.
use mathlib.Core.Path.{◌≡◌, refl, sym, ap, ◌∙◌}
use mathlib.Core.Bool.{Bool, true, false, not, ◌&&◌, ◌||◌}
use mathlib.Core.List.{List, [], ◌∷◌, ◌++◌, map, map-append}
use Prim.Native.Nat.{ℕ, ◌+◌, ◌≤◌, ◌<◌, ◌^◌}
use native.Mathlib.Omega.{arith}
use borrow.Author.Tests.{ltb-true, eqb-true, not-true}
use lib.Dec.{ltb, eqb}
use lib.ListN.{length, take, length-take, length-map}
use lib.Seq.{length-take-le}
use Rattle.protocol.specs.Serial.{plus, minus, is_before}
use Rattle.wire.specs.declared.Header.{Header}
use Rattle.lists.specs.declared.Held.{Held}
use Rattle.lists.specs.declared.Waiting.{Waiting}
use Rattle.lists.specs.declared.Receiving.{Receiving}
use Rattle.lists.specs.Views.{held_of, waiting_of, waiting_part, WaitingIs}
use Rattle.lists.specs.Orders.{waiting_offset, is_held, insert}
use Rattle.lists.specs.OrderLaws.{Between, insert_between}
use Rattle.lists.specs.Receiving.{advance, ReceivingIs}
use Rattle.lists.specs.ReceivingLaws.{advance_held}
use Rattle.slots.specs.Slots.{slots_of, is_used}
use Rattle.session.specs.Decides.{and_parts}
use Rattle.keeping.specs.Pushing.{is_in_window, is_kept, used_by, slot_for, held_at, entry_of}
use Rattle.keeping.proofs.Orders.{advance_none, settled_insert, both, next_new, next_raised}
use Rattle.keeping.proofs.Places.{new_free, new_fits}
use Rattle.words.specs.Words.{is_at, unpack, waiting_at, waiting_in, paired, Front, Sides, Placed}
use Rattle.words.proofs.Pairs.{paired_take, insert_fits}
use Rattle.control.specs.declared.Arrival.{Arrival}
use Rattle.arriving.specs.Arrivals.{ready_list, waiting_list, lists_of, WholeLists, Advanced}
use Rattle.std.proofs.lemmas.List.{take-map}
use Rattle.keeping.specs.Keeping.{Storable, Stored, Keepable, Kept}
use Rattle.marks.proofs.Frees.{free_lowest, free_low, free_next}

-- ---- the slots held, with one more

split_slots : (i : ℕ) (r : List Held) (f : List Waiting) (a : Waiting) (b : List Waiting)
    → is_used i (slots_of (r ++ map waiting_part (f ++ (a ∷ b)))) ≡ is_used i (a.held.slot ∷ slots_of (r ++ map waiting_part (f ++ b)))
unfolding is_used
split_slots i [] [] a b = refl
split_slots i [] (x ∷ f) a b = rw (split_slots i [] f a b) (swap (eqb x.held.slot i) (eqb a.held.slot i) _)
  where
    swap : (p q r : Bool) → (p || (q || r)) ≡ (q || (p || r))
    swap true true r = refl
    swap true false r = refl
    swap false true r = refl
    swap false false r = refl
split_slots i (x ∷ r) f a b = rw (split_slots i r f a b) (swap (eqb x.slot i) (eqb a.held.slot i) _)
  where
    swap : (p q r : Bool) → (p || (q || r)) ≡ (q || (p || r))
    swap true true r = refl
    swap true false r = refl
    swap false true r = refl
    swap false false r = refl

used_between : (i : ℕ) (r : List Held) (a : Waiting) (w v : List Waiting) → Between a w v
    → is_used i (slots_of (r ++ map waiting_part v)) ≡ is_used i (a.held.slot ∷ slots_of (r ++ map waiting_part w))
used_between i r a w v b =
    ap (λ (x : List Waiting). is_used i (slots_of (r ++ map waiting_part x))) b.is ∙ split_slots i r b.front a b.back
    ∙ ap (λ (x : List Waiting). is_used i (a.held.slot ∷ slots_of (r ++ map waiting_part x))) (sym b.was)

-- ---- a push

module _ (l : Receiving) (marks : List ℕ) (k m : ℕ) (s : List ℕ) (start : ℕ) (h : Header) (pool : List ℕ)
    (p : Keepable l marks k m s start h pool) (next_low : l.next < 2 ^ 32) (sn_low : h.sn < 2 ^ 32) where
  -- it is the one expected next, and fewer than 128 are ready
  module _ (b : Bool) (f : b ≡ (eqb (minus h.sn l.next) 0 && ltb l.ready.count 128)) (t : b ≡ true) where
    tests : (eqb (minus h.sn l.next) 0 ≡ true) × (ltb l.ready.count 128 ≡ true)
    tests = both (eqb (minus h.sn l.next) 0) (ltb l.ready.count 128) (sym f ∙ t)

    z : minus h.sn l.next ≡ 0
    z = eqb-true _ _ tests.0

    pub few : l.ready.count < 128
    few = ltb-true _ _ tests.1

    fewer : length (held_of l.ready) < 128
    fewer = omega (arith, few, length-take l.ready.count l.ready.at)

    pub next_kept : is_kept l h ≡ true
    next_kept = next_new l.next h.sn (held_of l.ready) (waiting_of l.waiting) next_low sn_low z fewer p.settled p.ascends

    raised : (held : Held) → advance l.next (held_of l.ready)
        (insert (waiting_offset l.next) (entry_of h held) (waiting_of l.waiting))
        ≡ advance (plus l.next 1) (held_of l.ready ++ (held ∷ [])) (waiting_of l.waiting)
    raised = next_raised l.next h.sn (held_of l.ready) (waiting_of l.waiting) next_low sn_low z fewer p.settled p.ascends

  -- it is not kept
  pub kept_not : is_kept l h ≡ false → (a : Arrival) → Kept a l m s start h pool marks a l pool k
  kept_not e a =
      record {
        is = rw (e, advance_none l.next (held_of l.ready) (waiting_of l.waiting) p.settled)
            (record { next = refl; ready = record { fits = p.ready; list = refl }; waiting = record { fits = p.waiting; list = refl } });
        stored = rw e refl;
        free = p.free;
        same_acks = refl;
        same_tell = refl;
      }

  -- it is kept
  module _ (e : is_kept l h ≡ true) where
    pub storable : Storable marks k m s start h pool
    storable = record {
      whole = p.marked;
      within = p.free.within;
      free = free_low p.free (new_free l.next h.sn l.ready l.waiting next_low sn_low p.ready p.ascends e);
      inside = p.inside;
      fits = p.fits;
      slots = p.slots;
    }

    pub room : (held : Held) → length (insert (waiting_offset l.next) (entry_of h held) (waiting_of l.waiting)) ≤ 128
    room = new_fits l.next h.sn l.ready l.waiting next_low sn_low p.ready p.ascends e

    -- where it waits
    pub index_room : (a : Arrival) (r w ns : List ℕ) → l ≡ lists_of a r w ns → WholeLists r w ns → (i : ℕ)
        → Placed a.expected (minus h.sn a.expected) ns a.waiting i
        → is_at ns a.waiting i a.expected (minus h.sn a.expected) ≡ false → a.waiting < 128
    index_room a r w ns eq whole i place at =
        insert_fits w ns a.waiting i a.expected 0 h.sn whole.whole_waiting whole.whole_numbers (rw eq at p.waiting) place
        at (rw (paired_take waiting_at a.waiting w ns) (rw eq at (room (unpack 0))))

    lacks : is_held (waiting_offset l.next) (minus h.sn l.next) (waiting_of l.waiting) ≡ false
    lacks = not-true _ (and_parts (not (is_before h.sn l.next)) _ (and_parts (is_in_window l.next h.sn) _ e).1).1

    module _ (slot : ℕ) (pool' : List ℕ) (st : Stored marks k m s start h pool slot pool') where
      slot_is : slot ≡ slot_for l.ready l.waiting
      slot_is = st.is ∙ free_lowest p.free

      abbrev then : List Waiting
      then = insert (waiting_offset l.next) (entry_of h (held_at slot h)) (waiting_of l.waiting)

      kept_is : (a r : Arrival) (moved : Receiving) → ReceivingIs moved (advance l.next (held_of l.ready) then) → r.acks ≡ a.acks
          → r.tell ≡ a.tell
          → Kept a l m s start h pool marks r moved pool' (slot + 1)
      kept_is a r moved up d t =
          let held : held_of moved.ready ++ map waiting_part (waiting_of moved.waiting) ≡ held_of l.ready ++ map waiting_part then =
          rw (up.ready.list, up.waiting.list) (advance_held l.next (held_of l.ready) then) in
          record {
            is = rw (e, ← slot_is) up;
            stored = rw (e, ← slot_is) st.pool_after;
            free = free_next p.free slot st.is st.low (used_by moved.ready moved.waiting)
                (λ i. ap (λ (x : List Held). is_used i (slots_of x)) held ∙ used_between i (held_of l.ready) (entry_of h (held_at slot h))
                (waiting_of l.waiting) then (insert_between (waiting_offset l.next) (entry_of h (held_at slot h)) (waiting_of l.waiting)
                lacks));
            same_acks = d;
            same_tell = t;
          }

      -- the arrays
      module _ (a : Arrival) (r w ns : List ℕ) (word : ℕ) (held : unpack word ≡ held_at slot h) where
        -- it is ready at once, with those that wait for it
        pub kept_next : l ≡ lists_of a r w ns → (b : Bool) → b ≡ (eqb (minus h.sn l.next) 0 && ltb l.ready.count 128) → b ≡ true
            → (r₁ : List ℕ) → Front 128 r₁ (a.ready + 1) (take a.ready r ++ (word ∷ [])) → (up : Arrival) → up.acks ≡ a.acks
            → up.tell ≡ a.tell → (next : ℕ) → next ≡ plus a.expected 1
            → (moved : Arrival) (r₂ w₂ ns₂ : List ℕ)
            → Advanced up next (held_of (ready_list r₁ (a.ready + 1))) (waiting_of (waiting_list w ns a.waiting)) moved r₂ w₂ ns₂
            → Kept a l m s start h pool marks moved (lists_of moved r₂ w₂ ns₂) pool' (slot + 1)
        kept_next eq b f t r₁ front up d d' next n moved r₂ w₂ ns₂ ad =
            let list : take (a.ready + 1) (map unpack r₁) ≡ take a.ready (map unpack r) ++ (held_at slot h ∷ []) =
            take-map unpack (a.ready + 1) r₁ ∙ ap (map unpack) front.list ∙ map-append unpack (take a.ready r) (word ∷ []) ∙ rw
            (take-map unpack a.ready r, held) refl in
            kept_is a moved (lists_of moved r₂ w₂ ns₂) (rw (raised b f t (held_at slot h), eq) (rw (list, n) at ad.is)) (ad.same_acks ∙ d)
            (ad.same_tell ∙ d')

        -- it waits
        pub kept_waits : l ≡ lists_of a r w ns → WholeLists r w ns → (b : Bool)
            → b ≡ (eqb (minus h.sn l.next) 0 && ltb l.ready.count 128) → b ≡ false
            → (w₁ ns₁ : List ℕ) → Sides waiting_at 128 w₁ ns₁ (a.waiting + 1)
            (insert (waiting_offset a.expected) (waiting_at word h.sn) (waiting_in w ns a.waiting))
            → (up : Arrival) → up ≡ record {
              expected = a.expected;
              tell = a.tell;
              ready = a.ready;
              waiting = a.waiting + 1;
              acks = a.acks;
            }
            → Kept a l m s start h pool marks up (lists_of up r w₁ ns₁) pool' (slot + 1)
        kept_waits eq whole b f t w₁ ns₁ sides up u =
            let size : length (held_of l.ready) ≡ l.ready.count =
            rw eq (length-take-le a.ready (map unpack r) (rw (length-map r unpack, whole.whole_ready) (rw eq at p.ready))) in
            let full : (eqb (minus h.sn l.next) 0 && ltb (length (held_of l.ready)) 128) ≡ false = rw size (sym f ∙ t) in
            let settled = settled_insert l.next (entry_of h (held_at slot h)) (ltb (length (held_of l.ready)) 128)
            (waiting_of l.waiting) full p.settled in
            let waits : WaitingIs (waiting_list w₁ ns₁ (a.waiting + 1))
            (insert (waiting_offset a.expected) (entry_of h (held_at slot h)) (take a.waiting (paired waiting_at w ns))) =
            record {
              fits = sides.fits;
              list = sym (paired_take waiting_at (a.waiting + 1) w₁ ns₁) ∙ sides.list ∙ rw
                  (paired_take waiting_at a.waiting w ns, held) refl;
            } in
            kept_is a up (lists_of up r w₁ ns₁)
            (rw (advance_none l.next (held_of l.ready) then settled, eq, u)
            (record { next = refl; ready = record { fits = rw eq at p.ready; list = refl }; waiting = waits }))
            (rw u refl) (rw u refl)
