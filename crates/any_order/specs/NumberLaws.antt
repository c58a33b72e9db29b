-- What a datagram does to the outstanding segments and to snd_una is what its una and ack numbers do, taken one after the other by the rule
-- of request 2026-02. So datagrams that carry the same numbers, in whatever order, leave the same.
-- Assumes nothing.
use Rattle.std.specs.Prelude.{◌≡◌, Bool, not, ◌&&◌, ℕ, eqb}
use Rattle.std.proofs.Math.Path.{refl, sym, ap}
use Rattle.std.proofs.Common.{◌∙◌, subst}
use Rattle.std.proofs.Math.Logic.{⊎_elim}
use Rattle.std.proofs.Math.Bool.{true, false, cond}
use mathlib.Core.List.Memᴰ
use mathlib.Core.List.{List, [], ◌∷◌, map, Memᴰ}
use Rattle.protocol.specs.Protocol.{ack}
use Rattle.protocol.specs.Serial.{is_before}
use Rattle.protocol.specs.declared.Settings.{Settings}
use Rattle.wire.specs.declared.Header.{Header}
use Rattle.datagram.specs.Datagrams.{Segment}
use Rattle.lists.specs.declared.Sent.{Sent}
use Rattle.lists.specs.declared.Acknowledges.{Acknowledges}
use Rattle.lists.specs.declared.Acknowledges.TheVariants as by
use Rattle.lists.specs.Acknowledging.{select, filter, first_number_or, one_skip, skip_before}
use Rattle.session.specs.State.{State, Sending, with_window, with_outstanding}
use Rattle.session.specs.Input.{acknowledged, sampled_by, heard_by_sending, all_by_sending, applied}
use Rattle.session.specs.Input.{ack_numbers, furthest, skipped, skipped_by_all}
use Rattle.any_order.specs.Removing.{InFlight, unless_ahead, staying, takes, SameMembers}
use Rattle.any_order.specs.RemovingLaws.{takes_joined}
use Rattle.any_order.specs.Numbers.{numbers_of, of_all, numbers_in, seen_by, unskipped}

-- ---- the same members have the same numbers

module _ {A : Type 0} (numbers : A → List Acknowledges) where
  -- a number of a list is one of a member
  of_some : (a : Acknowledges) (l : List A) → Memᴰ a (of_all numbers l) → (x : A) × Memᴰ x l × Memᴰ a (numbers x)
  unfolding of_all
  of_some a [] m = absurd (Memᴰ.not-nil m)
  of_some a (x ∷ l) m =
      ⊎_elim (λ d. (x, Memᴰ.head refl, d)) (λ d. let r = of_some a l d in (r.0, Memᴰ.tail r.1, r.2))
      (Memᴰ.append_cases (numbers x) m)

  of_member : (a : Acknowledges) (x : A) (l : List A) → Memᴰ x l → Memᴰ a (numbers x) → Memᴰ a (of_all numbers l)
  unfolding of_all
  of_member a x [] i m = elim i [ ]
  of_member a x (y ∷ l) (Memᴰ.head e) m = Memᴰ.append_left (of_all numbers l) (subst (λ (z : A). Memᴰ a (numbers z)) e m)
  of_member a x (y ∷ l) (Memᴰ.tail i) m = Memᴰ.append_right (numbers y) (of_member a x l i m)

  pub same_of_all : (xs ys : List A) → SameMembers xs ys → SameMembers (of_all numbers xs) (of_all numbers ys)
  same_of_all xs ys i a = (
    λ m. let r = of_some a xs m in of_member a r.0 ys ((i r.0).0 r.1) r.2,
    λ m. let r = of_some a ys m in of_member a r.0 xs ((i r.0).1 r.1) r.2,
  )

-- ---- what is seen of a segment

-- its number is, its skip count is not
pub record Sees (see : Sent → Sent) : Type 0 where
  pub number : (x : Sent) → (see x).record.number ≡ x.record.number
  pub skips : (n : ℕ) (x : Sent) → see (skip_before n x) ≡ see x

pub sees_unskipped : Sees unskipped
unfolding skip_before
sees_unskipped = record { number = λ x. refl; skips = λ n x. go x (is_before x.record.number n) }
  where
    go : (x : Sent) (b : Bool) → unskipped (cond b (one_skip x) x) ≡ unskipped x
    go x true = refl
    go x false = refl

module _ (see : Sent → Sent) (sees : Sees see) where
  -- ---- one number

  filter_seen : (test : ℕ → Bool) (l : List Sent) → map see (filter test l) ≡ filter test (map see l)
  unfolding select
  filter_seen test [] = refl
  filter_seen test (x ∷ l) = go (test x.record.number) (test (see x).record.number) (ap test (sees.number x)) (filter_seen test l)
    where
      go : (a b : Bool) → b ≡ a → map see (filter test l) ≡ filter test (map see l)
          → map see (cond a (x ∷ filter test l) (filter test l)) ≡ cond b (see x ∷ filter test (map see l)) (filter test (map see l))
      go true b p e = rw p (ap (λ (y : List Sent). see x ∷ y) e)
      go false b p e = rw p e

  pub first_seen : (l : List Sent) (other : ℕ) → first_number_or l other ≡ first_number_or (map see l) other
  unfolding first_number_or
  first_seen [] other = refl
  first_seen (x ∷ l) other = sym (sees.number x)

  -- the link takes a number by the rule of request 2026-02
  own_rule : (a : Acknowledges) (s : Sending) → seen_by see (acknowledged a s) ≡ staying (unless_ahead s.next a) (seen_by see s)
  unfolding acknowledged
  own_rule a s =
      let stays = unless_ahead s.next a in
      let left = filter stays s.outstanding in
      let e : map see left ≡ filter stays (map see s.outstanding) = filter_seen stays s.outstanding in
      λ i. record {
        una = (first_seen left s.next ∙ ap (λ (l : List Sent). first_number_or l s.next) e) i;
        next = s.next;
        outstanding = e i;
      }

  -- ---- a segment, a datagram

  heard_takes : (c : Settings) (current : ℕ) (s : Sending) (h : Header)
      → seen_by see (heard_by_sending c current s h) ≡ takes unless_ahead (seen_by see s) (numbers_of h)
  unfolding heard_by_sending sampled_by takes
  heard_takes c current s h = go (eqb h.cmd ack)
    where
      passed : Sending
      passed = acknowledged (by.Una h.una) (with_window h.wnd s)

      by_una_lem : seen_by see passed ≡ staying (unless_ahead s.next (by.Una h.una)) (seen_by see s)
      by_una_lem = own_rule (by.Una h.una) (with_window h.wnd s)

      go : (b : Bool) → seen_by see (cond b (acknowledged (by.Ack h.sn) (sampled_by c current h.ts passed)) passed)
          ≡ takes unless_ahead (seen_by see s) (by.Una h.una ∷ cond b (by.Ack h.sn ∷ []) [])
      go true =
          own_rule (by.Ack h.sn) (sampled_by c current h.ts passed)
          ∙ ap (λ (x : InFlight). staying (unless_ahead x.next (by.Ack h.sn)) x) by_una_lem
      go false = by_una_lem

  all_takes : (c : Settings) (current : ℕ) (gs : List Segment) (s : Sending)
      → seen_by see (all_by_sending c current s gs) ≡ takes unless_ahead (seen_by see s) (numbers_in gs)
  unfolding all_by_sending of_all takes
  all_takes c current [] s = refl
  all_takes c current (g ∷ gs) s =
      all_takes c current gs (heard_by_sending c current s g.header)
      ∙ ap (λ (x : InFlight). takes unless_ahead x (numbers_in gs)) (heard_takes c current s g.header)
      ∙ takes_joined unless_ahead (seen_by see s) (numbers_of g.header) (numbers_in gs)

  -- skips are not seen
  map_skips : (n : ℕ) (l : List Sent) → map see (map (skip_before n) l) ≡ map see l
  map_skips n [] = refl
  map_skips n (x ∷ l) = rw (sees.skips n x, map_skips n l)

  skips_unseen : (s : Sending) (l : List ℕ) → seen_by see (skipped_by_all s l) ≡ seen_by see s
  unfolding skipped
  skips_unseen s [] = refl
  skips_unseen s (k ∷ l) = go (not (is_before (furthest k l) s.una) && is_before (furthest k l) s.next)
    where
      go : (b : Bool) → seen_by see (cond b (with_outstanding s s.una (map (skip_before (furthest k l)) s.outstanding)) s) ≡ seen_by see s
      go true = rw (map_skips (furthest k l) s.outstanding)
      go false = refl

  pub applied_takes : (s : State) (pool : List ℕ) (gs : List Segment)
      → seen_by see (applied s pool gs).state.sending ≡ takes unless_ahead (seen_by see s.sending) (numbers_in gs)
  unfolding applied
  applied_takes s pool gs =
      skips_unseen (all_by_sending s.settings s.current s.sending gs) (ack_numbers gs)
      ∙ all_takes s.settings s.current gs s.sending
