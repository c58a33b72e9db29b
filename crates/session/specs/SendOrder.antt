-- The numbers of outstanding segments: they ascend still when some are acknowledged, when snd_una moves on, and when new ones are numbered.
-- Assumes nothing.
use Rattle.std.specs.Prelude.{◌≡◌, refl, Bool, cond, ℕ, ◌+◌, ◌^◌, ◌≤◌, ◌<◌, length}
use Rattle.std.proofs.Math.Bool.{true, false}
use mathlib.Core.List.{List, [], ◌∷◌, ◌++◌, map}
use Rattle.std.proofs.Common.{arith}
use Rattle.protocol.specs.Protocol.{send_window}
use Rattle.protocol.specs.Serial.{plus, minus}
use Rattle.lists.specs.declared.Held.{Held}
use Rattle.lists.specs.declared.Sent.{Sent}
use Rattle.lists.specs.Orders.{sent_offset}
use Rattle.lists.specs.Acknowledging.{select, first_number_or}
use Rattle.session.specs.Flushing.{numbered}
use Rattle.session.specs.Decides.{All}
use Rattle.session.specs.Ascending.{Ascends}

-- ---- by any offset

module _ {A : Type 0} (offset : A → ℕ) where
  from_lower : (least other limit : ℕ) (l : List A) → least ≤ other → Ascends offset other limit l → Ascends offset least limit l
  from_lower least other limit [] h a = tt
  from_lower least other limit (x ∷ l) h a = (omega (arith, a.0), a.1, a.2)

  pub ascends_select : (test : A → Bool) (least limit : ℕ) (l : List A) → Ascends offset least limit l
      → Ascends offset least limit (select test l)
  unfolding select
  ascends_select test least limit [] a = tt
  ascends_select test least limit (x ∷ l) a = go (test x) (ascends_select test (offset x + 1) limit l a.2)
    where
      go : (b : Bool) → Ascends offset (offset x + 1) limit (select test l)
          → Ascends offset least limit (cond b (x ∷ select test l) (select test l))
      go true i = (a.0, a.1, i)
      go false i = from_lower least (offset x + 1) limit (select test l) (omega (arith, a.0)) i

  pub ascends_mapped : (f : A → A) →
      ((x : A) → offset (f x) ≡ offset x) →
      (least limit : ℕ) (l : List A) →
      Ascends offset least limit l →
      Ascends offset least limit (map f l)
  ascends_mapped f same least limit [] a = tt
  ascends_mapped f same least limit (x ∷ l) a = rw (same x) (a.0, a.1, ascends_mapped f same (offset x + 1) limit l a.2)

  -- those up to a seam, and those behind it
  pub ascends_append : (least seam limit : ℕ) (a b : List A) →
      least ≤ seam →
      seam ≤ limit →
      Ascends offset least seam a →
      Ascends offset seam limit b →
      Ascends offset least limit (a ++ b)
  ascends_append least seam limit [] b h k p q = from_lower least seam limit b h q
  ascends_append least seam limit (x ∷ a) b h k p q =
      (p.0, omega (arith, p.1), ascends_append (offset x + 1) seam limit a b (omega (arith, p.1)) k p.2 q)

  -- there are no more than the span has numbers
  pub ascends_length : (least limit : ℕ) (l : List A) → least ≤ limit → Ascends offset least limit l → least + length l ≤ limit
  ascends_length least limit [] h a = omega arith
  ascends_length least limit (x ∷ l) h a = omega (arith, a.0, ascends_length (offset x + 1) limit l (omega (arith, a.1)) a.2)

-- ---- by the offset from snd_una

abbrev pub NumberFits : Sent → Type 0
NumberFits x = x.record.number < 2 ^ 32

-- counted from a later number
rebased : (n una later : ℕ) →
    n < 2 ^ 32 →
    una < 2 ^ 32 →
    later < 2 ^ 32 →
    minus later una ≤ minus n una →
    minus n una ≤ send_window →
    minus n later + minus later una ≡ minus n una
rebased n una later hn hu hl h c = omega arith

module _ (una later next : ℕ) (una32 : una < 2 ^ 32) (later32 : later < 2 ^ 32) (next32 : next < 2 ^ 32)
    (apart : minus next una ≤ send_window) (inside : minus later una ≤ minus next una) where
  ascends_rebased : (least least' : ℕ) (l : List Sent) →
      least' + minus later una ≤ least →
      All NumberFits l →
      Ascends (sent_offset una) least (minus next una) l →
      Ascends (sent_offset later) least' (minus next later) l
  ascends_rebased least least' [] h fit a = tt
  ascends_rebased least least' (x ∷ l) h fit a =
      let p = rebased x.record.number una later fit.0 una32 later32 (omega (arith, a.0)) (omega (arith, a.1)) in
      let q = rebased next una later next32 una32 later32 inside apart in (
        omega (arith, p, a.0),
        omega (arith, p, q, a.1),
        ascends_rebased (sent_offset una x + 1) (sent_offset later x + 1) l (omega (arith, p)) fit.1 a.2,
      )

  still_apart : minus next later ≤ send_window
  still_apart = omega (arith, rebased next una later next32 una32 later32 inside apart)

-- the numbers of a half: they ascend from snd_una up to snd_nxt, at most 32 apart, the first being snd_una
pub record Numbers (una next : ℕ) (l : List Sent) : Type 0 where
  pub ascends : Ascends (sent_offset una) 0 (minus next una) l
  pub apart : minus next una ≤ send_window
  pub first : first_number_or l next ≡ una

-- some taken out, snd_una being then the first left, else snd_nxt
pub numbers_select : (test : Sent → Bool) (una next : ℕ) (l : List Sent) →
    una < 2 ^ 32 →
    next < 2 ^ 32 →
    All NumberFits (select test l) →
    Numbers una next l →
    Numbers (first_number_or (select test l) next) next (select test l)
unfolding first_number_or
numbers_select test una next l una32 next32 fit n =
    go (select test l) fit (ascends_select (sent_offset una) test 0 (minus next una) l n.ascends)
  where
    go : (left : List Sent) → All NumberFits left → Ascends (sent_offset una) 0 (minus next una) left
        → Numbers (first_number_or left next) next left
    go [] fit a = record { ascends = tt; apart = omega arith; first = refl }
    go (x ∷ left) fit a = record {
      ascends = ascends_rebased una x.record.number next una32 fit.0 next32 n.apart (omega (arith, a.1)) (sent_offset una x) 0
          (x ∷ left)
          (omega arith)
          fit
          (omega arith, a.1, a.2);
      apart = still_apart una x.record.number next una32 fit.0 next32 n.apart (omega (arith, a.1));
      first = refl;
    }

-- the same numbers
pub numbers_mapped : (f : Sent → Sent) →
    ((x : Sent) → (f x).record.number ≡ x.record.number) →
    (una next : ℕ) (l : List Sent) →
    Numbers una next l →
    Numbers una next (map f l)
unfolding first_number_or
numbers_mapped f same una next l n = record {
  ascends = ascends_mapped (sent_offset una) f (λ x. rw (same x)) 0 (minus next una) l n.ascends;
  apart = n.apart;
  first = go l n.first;
}
  where
    go : (l : List Sent) → first_number_or l next ≡ una → first_number_or (map f l) next ≡ una
    go [] e = e
    go (x ∷ l) e = rw (same x) e

-- ---- new numbers

ascends_numbered : (una limit n : ℕ) (q : List Held) →
    n < 2 ^ 32 →
    una < 2 ^ 32 →
    limit ≤ send_window →
    minus n una + length q ≤ limit →
    Ascends (sent_offset una) (minus n una) limit (numbered n q)
unfolding numbered
ascends_numbered una limit n [] hn hu hl h = tt
ascends_numbered una limit n (x ∷ q) hn hu hl h =
    let e : minus (plus n 1) una ≡ minus n una + 1 = omega arith in
    (omega arith, omega arith, rw e at (ascends_numbered una limit (plus n 1) q (omega arith) hu hl (omega (arith, e))))

pub numbered_fit : (n : ℕ) (q : List Held) → n < 2 ^ 32 → All NumberFits (numbered n q)
unfolding numbered
numbered_fit n [] h = tt
numbered_fit n (x ∷ q) h = (h, numbered_fit (plus n 1) q (omega arith))

-- q numbered behind those that are outstanding
pub numbers_more : (una next : ℕ) (l : List Sent) (q : List Held) →
    una < 2 ^ 32 →
    next < 2 ^ 32 →
    minus next una + length q ≤ send_window →
    Numbers una next l →
    Numbers una (plus next (length q)) (l ++ numbered next q)
unfolding first_number_or numbered
numbers_more una next l q una32 next32 h n = record {
  ascends = rw end (ascends_append (sent_offset una) 0 (minus next una) (minus next una + length q) l (numbered next q) (omega arith)
      (omega arith) n.ascends
      (ascends_numbered una (minus next una + length q) next q next32 una32 h (omega arith)));
  apart = omega (arith, end);
  first = go l q n.first;
}
  where
    end : minus (plus next (length q)) una ≡ minus next una + length q
    end = omega arith

    go : (l : List Sent) (q : List Held) → first_number_or l next ≡ una → first_number_or (l ++ numbered next q) (plus next (length q)) ≡ una
    go (x ∷ l) q e = e
    go [] (x ∷ q) e = e
    go [] [] e = omega (arith, e)
