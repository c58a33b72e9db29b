-- Two arrays side by side, as one list: reads, stores and insertion.
-- Assumes nothing.
use mathlib.Core.Path.{◌≡◌, refl, sym, ap, ◌∙◌}
use mathlib.Core.Bool.{Bool, true, false, ◌&&◌}
use mathlib.Core.List.{List, [], ◌∷◌, ◌++◌}
use Prim.Native.Nat.{ℕ, zero, suc, ◌+◌, ◌≤◌, ◌<◌}
use native.Mathlib.Nat.{not-suc-le-zero, le_of_suc-le-suc}
use native.Mathlib.Decide.{dec_lt}
use native.Mathlib.Omega.{arith}
use borrow.Author.Tests.{lt-ltb, le-ltb, eq-eqb, ne_eqb, ltb-true, eqb-true}
use lib.Dec.{ltb, eqb}
use lib.ListN.{length, take, drop, get_or, set}
use lib.Seq.{get_or-take, length-take-le}
use Rattle.protocol.specs.Serial.{minus}
use Rattle.lists.specs.declared.Waiting.{Waiting}
use Rattle.lists.specs.Orders.{insert, waiting_offset}
use Rattle.lists.proofs.Searches.{insert_end, insert_same, insert_here, insert_room}
use Rattle.session.specs.Decides.{and_parts}
use Rattle.words.specs.Words.{Front, Sides, Placed, is_at, paired, waiting_at, waiting_in}

-- ---- laws of `paired`

module _ {A : Type 0} (entry : ℕ → ℕ → A) where
  pub paired_take : (n : ℕ) (ws ns : List ℕ) → paired entry (take n ws) (take n ns) ≡ take n (paired entry ws ns)
  unfolding paired
  paired_take zero ws ns = refl
  paired_take (suc n) [] ns = refl
  paired_take (suc n) (w ∷ ws) [] = refl
  paired_take (suc n) (w ∷ ws) (m ∷ ns) = ap (λ (l : List A). entry w m ∷ l) (paired_take n ws ns)

  pub paired_length : (ws ns : List ℕ) (k : ℕ) → length ws ≡ k → length ns ≡ k → length (paired entry ws ns) ≡ k
  unfolding paired
  paired_length [] ns k e f = e
  paired_length (w ∷ ws) [] k e f = absurd (omega arith)
  paired_length (w ∷ ws) (m ∷ ns) k e f = ap suc (paired_length ws ns (length ws) refl (omega arith)) ∙ e

  pub paired_set : (ws ns : List ℕ) (j w m : ℕ) → set (paired entry ws ns) j (entry w m) ≡ paired entry (set ws j w) (set ns j m)
  unfolding paired
  paired_set [] ns j w m = refl
  paired_set (v ∷ ws) [] zero w m = refl
  paired_set (v ∷ ws) [] (suc j) w m = refl
  paired_set (v ∷ ws) (k ∷ ns) zero w m = refl
  paired_set (v ∷ ws) (k ∷ ns) (suc j) w m = ap (λ (l : List A). entry v k ∷ l) (paired_set ws ns j w m)

  pub paired_get : (ws ns : List ℕ) (i : ℕ) (d : A) → i < length ws → i < length ns
      → get_or (paired entry ws ns) i d ≡ entry (get_or ws i 0) (get_or ns i 0)
  unfolding paired
  paired_get [] ns i d h g = absurd (not-suc-le-zero h)
  paired_get (w ∷ ws) [] i d h g = absurd (not-suc-le-zero g)
  paired_get (w ∷ ws) (m ∷ ns) zero d h g = refl
  paired_get (w ∷ ws) (m ∷ ns) (suc i) d h g = paired_get ws ns i d (le_of_suc-le-suc h) (le_of_suc-le-suc g)

  -- one more of each at index i
  pub paired_insert : (i : ℕ) (ws ns : List ℕ) (w m : ℕ) → length ws ≡ length ns
      → paired entry (take i ws ++ (w ∷ drop i ws)) (take i ns ++ (m ∷ drop i ns)) ≡ take i (paired entry ws ns)
      ++ (entry w m ∷ drop i (paired entry ws ns))
  unfolding paired
  paired_insert zero ws ns w m e = refl
  paired_insert (suc i) [] [] w m e = refl
  paired_insert (suc i) [] (k ∷ ns) w m e = absurd (omega arith)
  paired_insert (suc i) (v ∷ ws) [] w m e = absurd (omega arith)
  paired_insert (suc i) (v ∷ ws) (k ∷ ns) w m e = ap (λ (l : List A). entry v k ∷ l) (paired_insert i ws ns w m (omega arith))

  pub paired_drop : (n : ℕ) (ws ns : List ℕ) → paired entry (drop n ws) (drop n ns) ≡ drop n (paired entry ws ns)
  unfolding paired
  paired_drop zero ws ns = refl
  paired_drop (suc n) [] ns = refl
  paired_drop (suc n) (w ∷ ws) [] = empty (drop n ws)
    where
      empty : (l : List ℕ) → paired entry l [] ≡ []
      empty [] = refl
      empty (x ∷ l) = refl
  paired_drop (suc n) (w ∷ ws) (m ∷ ns) = paired_drop n ws ns

-- what stands past the arrays
abbrev pub blank : Waiting
blank = waiting_at 0 0

-- ---- insertion
placed : {A : Type 0} (offset : A → ℕ) (a : A) (l : List A) (i : ℕ) (d : A) → i ≤ length l
    → ((j : ℕ) → j < i → offset (get_or l j d) < offset a) → insert offset a l ≡ take i l ++ insert offset a (drop i l)
unfolding insert
placed offset a l zero d h b = refl
placed offset a [] (suc i) d h b = absurd (not-suc-le-zero h)
placed offset a (x ∷ l) (suc i) d h b =
    let less : offset x < offset a = b 0 (omega arith) in
    rw (ne_eqb (offset x) (offset a) (λ q. omega arith), le-ltb (offset a) (offset x) (omega arith))
    (ap (λ (r : List _). x ∷ r) (placed offset a l i d (le_of_suc-le-suc h) (λ j g. b (suc j) (omega arith))))

module _ (ws ns : List ℕ) (n i base word number : ℕ) (e : length ws ≡ 128) (f : length ns ≡ 128) (g : n ≤ 128)
    (p : Placed base (minus number base) ns n i) where
  abbrev whole : List Waiting
  whole = paired waiting_at ws ns

  abbrev goes : List Waiting
  goes = insert (waiting_offset base) (waiting_at word number) (waiting_in ws ns n)

  long : n ≤ length whole
  long = rw (paired_length waiting_at ws ns 128 e f) g

  at : (j : ℕ) → j < n → waiting_offset base (get_or whole j blank) ≡ minus (get_or ns j 0) base
  at j h = rw (paired_get waiting_at ws ns j blank (omega arith) (omega arith)) refl

  front : insert (waiting_offset base) (waiting_at word number) (take n whole) ≡ take i (take n whole)
      ++ insert (waiting_offset base) (waiting_at word number) (drop i (take n whole))
  front = placed (waiting_offset base) (waiting_at word number) (take n whole) i blank (rw (length-take-le n whole long) p.within)
      (λ j h. rw (get_or-take n whole j blank (omega (arith, p.within)), at j (omega (arith, p.within))) (p.below j h))

  pub insert_held : (ltb i n && eqb (minus (get_or ns i 0) base) (minus number base)) ≡ true → Sides waiting_at 128 ws ns n goes
  insert_held h =
      let parts = and_parts (ltb i n) (eqb (minus (get_or ns i 0) base) (minus number base)) h in
      let less : i < n = ltb-true i n parts.0 in
      record {
        whole = e;
        wholes = f;
        fits = g;
        list = sym (rw (paired_take waiting_at n ws ns)
            (insert_same (waiting_offset base) (waiting_at word number) whole n i long front blank _ _ less (sym (at i less)) refl
            (eqb-true _ _ parts.1)));
      }

  goes_in : (ltb i n && eqb (minus (get_or ns i 0) base) (minus number base)) ≡ false
      → insert (waiting_offset base) (waiting_at word number) (take n whole) ≡ take i (take n whole)
      ++ (waiting_at word number ∷ drop i (take n whole))
  goes_in h = go (dec_lt i n)
    where
      differ : i < n → minus (get_or ns i 0) base ≡ minus number base → ⊥
      differ l q = let z : ◌≡◌ {A = Bool} true false = sym (rw (lt-ltb i n l, eq-eqb _ _ q)) ∙ h in let w : ◌≡◌ {A = ℕ} 0 1 = cc in
          omega arith

      go : Dec (i < n) → insert (waiting_offset base) (waiting_at word number) (take n whole) ≡ take i (take n whole)
          ++ (waiting_at word number ∷ drop i (take n whole))
      go (yes l) = insert_here (waiting_offset base) (waiting_at word number) whole n i long front blank _ _ l (sym (at i l)) refl (differ l)
          (let w = differ l in omega (arith, p.here l, w))
      go (no l) = insert_end (waiting_offset base) (waiting_at word number) whole n i long front (omega arith)

  -- there is room
  pub insert_fits : (ltb i n && eqb (minus (get_or ns i 0) base) (minus number base)) ≡ false → length goes ≤ 128 → n < 128
  insert_fits h l = insert_room (waiting_offset base) (waiting_at word number) whole n i long front 128
      (rw (← paired_take waiting_at n ws ns) l) (goes_in h)

  pub insert_new : (ws' ns' : List ℕ) → (ltb i n && eqb (minus (get_or ns i 0) base) (minus number base)) ≡ false
      → Front 128 ws' (n + 1) (take i (take n ws) ++ (word ∷ drop i (take n ws)))
      → Front 128 ns' (n + 1) (take i (take n ns) ++ (number ∷ drop i (take n ns))) → Sides waiting_at 128 ws' ns' (n + 1) goes
  insert_new ws' ns' h a b =
      record {
        whole = a.whole;
        wholes = b.whole;
        fits = a.fits;
        list = rw (a.list, b.list) (paired_insert waiting_at i (take n ws) (take n ns) word number
            (length-take-le n ws (omega arith) ∙ sym (length-take-le n ns (omega arith))) ∙ rw (paired_take waiting_at n ws ns)
            (sym (goes_in h)));
      }

-- ---- the search for a place
-- what the search of the first n numbers tells, k being the offset of the number
pub searched : (base number n i k : ℕ) (ns : List ℕ) (b : Bool) → n ≤ length ns → k ≡ minus number base
    → Placed base k (take n ns) (length (take n ns)) i × (is_at (take n ns) (length (take n ns)) i base k ≡ b)
    → Placed base (minus number base) ns n i × (is_at ns n i base (minus number base) ≡ b)
searched base number n i k ns b h e p =
    let q : length (take n ns) ≡ n = length-take-le n ns h in
    let w : i ≤ n = omega (arith, p.0.within) in
    rw (← e) (
      record {
        within = w;
        below = λ j l. rw (get_or-take n ns j 0 (omega arith)) at (p.0.below j l);
        here = λ l. rw (get_or-take n ns i 0 l) at (p.0.here (omega arith));
      },
      go (dec_lt i n),
    )
  where
    go : Dec (i < n) → is_at ns n i base k ≡ b
    go (yes l) = rw (lt-ltb i n l) (rw (length-take-le n ns h, lt-ltb i n l, get_or-take n ns i 0 l) at p.1)
    go (no l) = rw (le-ltb i n (omega arith)) (rw (length-take-le n ns h, le-ltb i n (omega arith)) at p.1)
