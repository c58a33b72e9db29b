-- In any order, or twice, and two lists as one: for every rule that tests each number by itself, from the one fact that removing by one
-- test and then by another is removing by both (`staying_both`). The una rule of document 01 and that of request 2026-02 are two such
-- rules.
-- Assumes nothing.
use Rattle.std.specs.Prelude.{◌≡◌, Bool, true, false, ◌&&◌, ℕ}
use Rattle.std.proofs.Math.Path.{refl, sym, ap}
use Rattle.std.proofs.Common.{◌∙◌, ⊎_elim}
use Rattle.std.proofs.Math.Bool.{and-true, and_assoc}
use mathlib.Core.List.Memᴰ
use mathlib.Core.List.{List, [], ◌∷◌, ◌++◌, Memᴰ}
use Rattle.lists.specs.declared.Sent.{Sent}
use Rattle.lists.specs.declared.Acknowledges.{Acknowledges}
use Rattle.lists.specs.Acknowledging.{select, filter, first_number_or}
use Rattle.lists.proofs.AcknowledgingLaws.{select_same, filter_both}
use Rattle.session.specs.Decides.{and_parts}
use Rattle.any_order.specs.Removing.{InFlight, Rule, every_before, unless_ahead, staying, passes_all, takes, SameMembers, AnyOrder}

-- ---- the one fact

-- to remove by one test and then by another is to remove by both
pub staying_both : (f g : ℕ → Bool) (s : InFlight) → staying g (staying f s) ≡ staying (λ n. f n && g n) s
staying_both f g s = rw (filter_both f g s.outstanding)

-- two tests that agree on every number leave the same
staying_same : (f g : ℕ → Bool) (s : InFlight) → ((n : ℕ) → f n ≡ g n) → staying f s ≡ staying g s
staying_same f g s e =
    let number : Sent → ℕ = λ x. x.record.number in
    rw (select_same (λ (x : Sent). f (number x)) (λ (x : Sent). g (number x)) (λ x. e (number x)) s.outstanding)

filter_all : (l : List Sent) → filter (λ n. true) l ≡ l
unfolding select
filter_all [] = refl
filter_all (x ∷ l) = ap (λ (r : List Sent). x ∷ r) (filter_all l)

module _ (rule : Rule) where
  -- all that arrives removes by one test
  takes_staying : (l : List Acknowledges) (f : ℕ → Bool) (s : InFlight)
      → takes rule (staying f s) l ≡ staying (λ n. f n && passes_all rule s.next l n) s
  unfolding takes
  takes_staying [] f s = staying_same f (λ n. f n && true) s (λ n. sym (and-true (f n)))
  takes_staying (a ∷ l) f s =
      ap (λ (x : InFlight). takes rule x l) (staying_both f (rule s.next a) s)
      ∙ takes_staying l (λ n. f n && rule s.next a n) s
      ∙ staying_same _ _ s (λ n. and_assoc (f n) (rule s.next a n) (passes_all rule s.next l n))

  -- ---- that test depends only on which numbers arrive

  stays_each : (next n : ℕ) (a : Acknowledges) (l : List Acknowledges) → passes_all rule next l n ≡ true → Memᴰ a l
      → rule next a n ≡ true
  stays_each next n a [] h m = elim m [ ]
  stays_each next n a (x ∷ l) h (Memᴰ.head e) =
      ap (λ (y : Acknowledges). rule next y n) e ∙ (and_parts (rule next x n) (passes_all rule next l n) h).0
  stays_each next n a (x ∷ l) h (Memᴰ.tail m) = stays_each next n a l (and_parts (rule next x n) (passes_all rule next l n) h).1 m

  stays_fewer : (next n : ℕ) (xs ys : List Acknowledges) → ((a : Acknowledges) → Memᴰ a xs → Memᴰ a ys)
      → passes_all rule next ys n ≡ true → passes_all rule next xs n ≡ true
  stays_fewer next n [] ys i h = refl
  stays_fewer next n (x ∷ xs) ys i h =
      rw (stays_each next n x ys h (i x (Memᴰ.head refl)), stays_fewer next n xs ys (λ a m. i a (Memᴰ.tail m)) h)

  stays_same : (next n : ℕ) (xs ys : List Acknowledges) → SameMembers xs ys → passes_all rule next xs n ≡ passes_all rule next ys n
  stays_same next n xs ys i = go (passes_all rule next xs n) refl (passes_all rule next ys n) refl
    where
      go : (a : Bool) → passes_all rule next xs n ≡ a → (b : Bool) → passes_all rule next ys n ≡ b → a ≡ b
      go true p true q = refl
      go true p false q = sym (stays_fewer next n ys xs (λ a. (i a).1) p) ∙ q
      go false p true q = sym p ∙ stays_fewer next n xs ys (λ a. (i a).0) q
      go false p false q = refl

  -- ---- the claims

  takes_at_once : (s : InFlight) (a : Acknowledges) (l : List Acknowledges)
      → takes rule s (a ∷ l) ≡ staying (passes_all rule s.next (a ∷ l)) s
  unfolding takes
  takes_at_once s a l = takes_staying l (rule s.next a) s

  -- what is outstanding then, also where nothing arrives
  pub takes_outstanding : (s : InFlight) (l : List Acknowledges)
      → (takes rule s l).outstanding ≡ filter (passes_all rule s.next l) s.outstanding
  unfolding takes
  takes_outstanding s [] = sym (filter_all s.outstanding)
  takes_outstanding s (a ∷ l) = ap (λ (x : InFlight). x.outstanding) (takes_at_once s a l)

  -- and snd_una, where something arrives
  pub takes_una : (s : InFlight) (a : Acknowledges) (l : List Acknowledges) → Memᴰ a l
      → (takes rule s l).una ≡ first_number_or (takes rule s l).outstanding s.next
  takes_una s a [] m = absurd (Memᴰ.not-nil m)
  takes_una s a (x ∷ l) m = rw (takes_at_once s x l)

  pub takes_same : (s : InFlight) (xs ys : List Acknowledges) → SameMembers xs ys → takes rule s xs ≡ takes rule s ys
  unfolding takes
  takes_same s [] [] i = refl
  takes_same s [] (y ∷ ys) i = absurd (Memᴰ.not-nil ((i y).1 (Memᴰ.head refl)))
  takes_same s (x ∷ xs) [] i = absurd (Memᴰ.not-nil ((i x).0 (Memᴰ.head refl)))
  takes_same s (x ∷ xs) (y ∷ ys) i =
      takes_at_once s x xs ∙ staying_same _ _ s (λ n. stays_same s.next n (x ∷ xs) (y ∷ ys) i) ∙ sym (takes_at_once s y ys)

  pub takes_joined : (s : InFlight) (xs ys : List Acknowledges) → takes rule (takes rule s xs) ys ≡ takes rule s (xs ++ ys)
  unfolding takes
  takes_joined s [] ys = refl
  takes_joined s (x ∷ xs) ys = takes_joined (staying (rule s.next x) s) xs ys

  pub takes_next : (s : InFlight) (xs : List Acknowledges) → (takes rule s xs).next ≡ s.next
  unfolding takes
  takes_next s [] = refl
  takes_next s (x ∷ xs) = takes_next (staying (rule s.next x) s) xs

  once : (xs : List Acknowledges) → SameMembers (xs ++ xs) xs
  once xs a = (λ m. ⊎_elim (λ d. d) (λ d. d) (Memᴰ.append_cases xs m), λ m. Memᴰ.append_left xs m)

  -- every rule that tests each number by itself
  pub each_number : AnyOrder rule
  each_number = record {
    at_once = takes_at_once;
    any_order = takes_same;
    twice = λ s xs. takes_same s (xs ++ xs) xs (once xs);
    joined = takes_joined;
    next_stays = takes_next;
  }

-- ---- the two una rules

pub by_document_01 : AnyOrder every_before
by_document_01 = each_number every_before

pub by_request_02 : AnyOrder unless_ahead
by_request_02 = each_number unless_ahead
