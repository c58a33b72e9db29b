-- An entry put somewhere into a list: what holds of the list then. And lists of what entries stand for, in the same order.
-- Assumes nothing.
use Rattle.std.specs.Prelude.{◌≡◌, Bool, not, ℕ, suc, ◌+◌, ltb, eqb, length}
use Rattle.std.proofs.Math.Path.{refl, ap}
use Rattle.std.proofs.Common.{sym, ◌∙◌, arith, length-append}
use Rattle.std.proofs.Math.Bool.{true, false, cond}
use mathlib.Core.List.{List, [], ◌∷◌, ◌++◌, map, append_assoc, map-append}
use Rattle.std.proofs.lemmas.Bool.{not-true}
use Rattle.lists.specs.Orders.{ascending, is_held, insert}
use Rattle.lists.specs.OrderLaws.{Between}
use Rattle.session.specs.Slots.{occurs}
use Rattle.session.specs.Valid.{once}
use Rattle.session.specs.Decides.{All, and_parts}
use Rattle.delivery.specs.FreeSlots.{not_first, not_later}
use Rattle.delivery.specs.SearchLaws.{occurs_between}

-- ---- one entry more

pub between_length : {A : Type 0} {a : A} {l m : List A} → Between a l m → length m ≡ suc (length l)
between_length b = omega (arith, simp length-append at (ap length b.was), simp length-append at (ap length b.is))

pub between_behind : {A : Type 0} {a : A} (k : List A) {l m : List A} → Between a l m → Between a (k ++ l) (k ++ m)
between_behind {A} {a} k b = record {
  front = k ++ b.front;
  back = b.back;
  was = ap (λ (r : List A). k ++ r) b.was ∙ sym (append_assoc k b.front b.back);
  is = ap (λ (r : List A). k ++ r) b.is ∙ sym (append_assoc k b.front (a ∷ b.back));
}

pub between_map : {A B : Type 0} (f : A → B) {a : A} {l m : List A} → Between a l m → Between (f a) (map f l) (map f m)
between_map f {a} b = record {
  front = map f b.front;
  back = map f b.back;
  was = ap (map f) b.was ∙ map-append f b.front b.back;
  is = ap (map f) b.is ∙ map-append f b.front (a ∷ b.back);
}

-- what holds of each
all_mid : {A : Type 0} (P : A → Type 0) (x : A) (l r : List A) → All P (l ++ r) → P x → All P (l ++ x ∷ r)
all_mid P x [] r h p = (p, h)
all_mid P x (y ∷ l) r h p = (h.0, all_mid P x l r h.1 p)

pub all_between : {A : Type 0} (P : A → Type 0) {a : A} {l m : List A} → Between a l m → All P l → P a → All P m
all_between P {a} b h p = rw b.is (all_mid P a b.front b.back (rw b.was at h) p)

-- none stands twice
once_mid : (n : ℕ) (a b : List ℕ) → once (a ++ b) ≡ true → occurs n (a ++ b) ≡ false → once (a ++ n ∷ b) ≡ true
once_mid n [] b o e = rw (e, o)
once_mid n (z ∷ a) b o e =
    let p = and_parts (not (occurs z (a ++ b))) (once (a ++ b)) o in
    rw (
      occurs_between z n a b (λ i. not_first n z (a ++ b) e (sym i)),
      not-true (occurs z (a ++ b)) p.0,
      once_mid n a b p.1 (not_later n z (a ++ b) e),
    )

pub once_between : {n : ℕ} {l m : List ℕ} → Between n l m → once l ≡ true → occurs n l ≡ false → once m ≡ true
once_between {n} b o e = rw b.is (once_mid n b.front b.back (rw b.was at o) (rw b.was at e))

-- ---- what the entries stand for, where it has the same offsets

module _ {A B : Type 0} (f : A → B) (offset : A → ℕ) (shown : B → ℕ) (same : (x : A) → shown (f x) ≡ offset x) where
  pub map_ascending : (least limit : ℕ) (l : List A) → ascending shown least limit (map f l) ≡ ascending offset least limit l
  unfolding ascending
  map_ascending least limit [] = refl
  map_ascending least limit (x ∷ l) = rw (same x, map_ascending (offset x + 1) limit l)

  pub map_held : (k : ℕ) (l : List A) → is_held shown k (map f l) ≡ is_held offset k l
  unfolding is_held
  map_held k [] = refl
  map_held k (x ∷ l) = rw (same x, map_held k l)

  pub map_insert : (a : A) (l : List A) → map f (insert offset a l) ≡ insert shown (f a) (map f l)
  unfolding insert
  map_insert a [] = refl
  map_insert a (x ∷ l) = rw (same x, same a) (go (eqb (offset x) (offset a)) (ltb (offset a) (offset x)) (map_insert a l))
    where
      go : (b t : Bool) → map f (insert offset a l) ≡ insert shown (f a) (map f l)
          → map f (cond b (x ∷ l) (cond t (a ∷ x ∷ l) (x ∷ insert offset a l)))
          ≡ cond b (f x ∷ map f l) (cond t (f a ∷ f x ∷ map f l) (f x ∷ insert shown (f a) (map f l)))
      go true t i = refl
      go false true i = refl
      go false false i = ap {B = List B} (λ r. f x ∷ r) i
