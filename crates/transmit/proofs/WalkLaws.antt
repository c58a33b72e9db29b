-- The walk over the outstanding segments: the turns of its loop.
-- Assumes nothing.
use mathlib.Core.Path.{◌≡◌, refl, sym, ap, subst, ◌∙◌}
use mathlib.Core.Bool.{Bool, true, false, cond, ◌&&◌, ◌||◌, or_assoc, or-true, or-false}
use mathlib.Core.List.{List, [], ◌∷◌, ◌++◌, map, map-append}
use Prim.Native.Nat.{ℕ, zero, suc, ◌+◌, ◌*◌, ◌≤◌, ◌<◌}
use native.Mathlib.Nat.{mul-le-mul_right}
use native.Mathlib.Omega.{arith}
use lib.Dec.{eqb}
use lib.ListN.{length, take, drop, get_or, set, length-set}
use lib.Seq.{take-add, take-take, set-get_or}
use Rattle.timing.specs.declared.Record.{Record}
use Rattle.retransmission.specs.declared.Transmission.{Transmission}
use Rattle.retransmission.specs.Transmissions.{is_sent, is_late, is_fast}
use Rattle.retransmission.specs.TransmissionLaws.{transmission_not_sent}
use Rattle.lists.specs.declared.Sent.{Sent}
use Rattle.lists.specs.Joining.{with_record}
use Rattle.lists.specs.Views.{Holds}
use Rattle.lists.proofs.Loops.{Packed, holds_as, packed_start, packed_put, packed_next, packed_done, view_end}
use Rattle.datagram.specs.Datagrams.{Segment}
use Rattle.session.specs.Decides.{All}
use Rattle.session.specs.Flushing.{after_rule, transmitted, some, some_dead, wished}
use Rattle.session.specs.RuleLaws.{sent_append}
use Rattle.packing.specs.declared.Writer.{Writer}
use Rattle.packing.specs.Packers.{Fills}
use Rattle.packing.specs.Writers.{Same, HasRoom, AddsTo}
use Rattle.packing.specs.PackerLaws.{adds_none, adds_append, adds_as, room_left}
use Rattle.words.specs.Words.{unpack, outstanding_at}
use Rattle.numbering.specs.Sents.{sent_in}
use Rattle.numbering.proofs.SentLaws.{sents, sents_take, sents_set, sents_get, sents_length, sents_front}
use Rattle.transmit.specs.declared.Flush.{Flush}
use Rattle.transmit.specs.declared.Told.{Told}
use Rattle.transmit.proofs.ControlLaws.{wished_none, same_on}
use Rattle.transmit.specs.Writing.{rule_of, left_by, sent_by, late_by, fast_by, sends_by, data_of, InSlot, AllInSlots, sent_as, WritesFor, Walks}

-- ---- lists

prefix_more : {A : Type 0} (l r : List A) (i : ℕ) (y : A) → drop i l ≡ y ∷ r → take (i + 1) l ≡ take i l ++ (y ∷ [])
prefix_more l r i y e = take-add i 1 l ∙ rw e

all_next : {A : Type 0} (P : A → Type 0) (l r : List A) (i : ℕ) (y : A) → drop i l ≡ y ∷ r → All P l → P y
all_next P l r i y e a = (rw e at (all_drop l i a)).0
  where
    all_drop : (l : List _) (i : ℕ) → All P l → All P (drop i l)
    all_drop l zero a = a
    all_drop [] (suc i) a = a
    all_drop (x ∷ l) (suc i) a = all_drop l i a.1

some_append : {A : Type 0} (test : A → Bool) (l m : List A) → some test (l ++ m) ≡ (some test l || some test m)
some_append test [] m = refl
some_append test (x ∷ l) m = rw (some_append test l m) (sym (or_assoc (test x) (some test l) (some test m)))

some_more : {A : Type 0} (test : A → Bool) (l : List A) (y : A) → some test (l ++ (y ∷ [])) ≡ (some test l || test y)
some_more test l y = rw (some_append test l (y ∷ []), or-false)

-- ---- those that are sent

-- the rule for the last one decides whether it is sent, and whether the link is dead by it
module _ (f : Flush) (y x : Sent) (sends : Bool) (p : sends ≡ is_sent (rule_of f y).rule) (q : x ≡ after_rule (rule_of f y)) where
  one_sent_lem : sent_by f (y ∷ []) ≡ cond sends (x ∷ []) []
  unfolding transmitted
  one_sent_lem = rw (p, q)

  sent_data : (pool : List ℕ) (l : List Sent) → map (data_of f pool) (sent_by f (l ++ (y ∷ []))) ≡ map (data_of f pool) (sent_by f l)
      ++ wished sends (data_of f pool x)
  sent_data pool l = rw (sent_append, one_sent_lem, map-append)
      (ap (λ (r : List Segment). map (data_of f pool) (sent_by f l) ++ r) (by_rule sends))
    where
      by_rule : (b : Bool) → map (data_of f pool) (cond b (x ∷ []) []) ≡ wished b (data_of f pool x)
      by_rule true = refl
      by_rule false = refl

  sent_dead : (l : List Sent) → some_dead (sent_by f (l ++ (y ∷ []))) ≡ (some_dead (sent_by f l) || (sends && eqb x.transmissions 20))
  sent_dead l = rw (sent_append, one_sent_lem, some_append) (ap (λ (b : Bool). some_dead (sent_by f l) || b) (by_rule sends))
    where
      by_rule : (b : Bool) → some_dead (cond b (x ∷ []) []) ≡ (b && eqb x.transmissions 20)
      by_rule true = or-false (eqb x.transmissions 20)
      by_rule false = refl

-- ---- the loop

-- The first i of the n segments have been handled.
pub record Walking (f : Flush) (n : ℕ) (pool : List ℕ) (o : Writer) (l₀ : List Sent)
    (ws ts : List ℕ) (rs : List Record) (v : Writer) (t : Told) (i : ℕ) : Type 0 where
  pub same : Same o v
  pub suits : WritesFor f v
  pub wholes : length ts ≡ 32
  pub whole_records : length rs ≡ 32
  pub list : Packed 32 n l₀ (sents ws ts rs) (left_by f (drop i (take n l₀))) (left_by f (take n l₀)) i i
  pub adds : AddsTo (map (data_of f pool) (sent_by f (take i (take n l₀)))) (i * f.settings.mtu) i o v
  pub dead : t.dead ≡ some_dead (sent_by f (take i (take n l₀)))
  pub late : t.late ≡ late_by f (take i (take n l₀))
  pub fast : t.fast ≡ fast_by f (take i (take n l₀))
  pub sends : t.sent ≡ sends_by f (take i (take n l₀))

pub walking_start : (f : Flush) (n : ℕ) (pool : List ℕ) (o : Writer) (ws ts : List ℕ) (rs : List Record)
    → WritesFor f o → n ≤ 32 → length ws ≡ 32 → length ts ≡ 32 → length rs ≡ 32 → Fills o.mtu o.packer
    → Walking f n pool o (sents ws ts rs) ws ts rs o (record { dead = false; late = false; fast = false; sent = false }) 0
unfolding transmitted
walking_start f n pool o ws ts rs u h ew et er q =
    record {
      same = record { mtu = refl; carried = refl; out = refl; lengths = refl };
      suits = u;
      wholes = et;
      whole_records = er;
      list = packed_start _ 0 0 (omega arith) (omega arith) h (sents_length ws ts rs ew et er);
      adds = adds_as (adds_none o.mtu o.packer o.out.now o.lengths.now q) refl (omega arith) (omega arith);
      dead = refl;
      late = refl;
      fast = refl;
      sends = refl;
    }

module _ (f : Flush) (n : ℕ) (pool : List ℕ) (o : Writer) (l₀ : List Sent) (ws ts : List ℕ) (rs : List Record)
    (v : Writer) (t : Told) (i : ℕ) (w : Walking f n pool o l₀ ws ts rs v t i) where
  module _ (h : i < n) where
    -- there is room for the next one
    pub walking_room : HasRoom (32 * f.settings.mtu) 32 o → HasRoom f.settings.mtu 1 v
    walking_room a =
        let below : suc i ≤ 32 = omega (arith, w.list.room) in
        rw w.same.mtu (room_left w.adds a (omega (arith, mul-le-mul_right f.settings.mtu below)) (omega arith))

    module _ (whole : length ws ≡ 32) (r : Record) where
      -- what is read next
      abbrev read : Sent
      read = with_record (outstanding_at (get_or ws i 0) (get_or ts i 0)) (get_or rs i r)

      here : get_or (sents ws ts rs) i (with_record (outstanding_at 0 0) r) ≡ read
      here = sents_get ws ts rs i r (omega (arith, w.list.room)) (omega (arith, w.list.room, w.wholes))
          (omega (arith, w.list.room, w.list.written.whole))

      next : drop i (take n l₀) ≡ read ∷ drop (i + 1) (take n l₀)
      next = rw here at (packed_next (with_record (outstanding_at 0 0) r) h w.list)

      -- it is in its slot
      pub walking_inside : (m : ℕ) → AllInSlots m (take n l₀) → InSlot m (unpack (get_or ws i 0))
      walking_inside m a = all_next (λ (y : Sent). InSlot m y.held) (take n l₀) (drop (i + 1) (take n l₀)) i read next a

      module _ (x : Transmission) (e : x ≡ (rule_of f read).rule) where
        after : sent_as (get_or ws i 0) x ≡ after_rule (rule_of f read)
        after = rw e

        -- a turn
        turn : (ts' : List ℕ) (rs' : List Record) (v' : Writer) (b : Bool)
            → length ts' ≡ 32 → length rs' ≡ 32
            → set (sents ws ts rs) i (sent_as (get_or ws i 0) x) ≡ sents ws ts' rs' → Same v v'
            → AddsTo (wished (is_sent x) (data_of f pool (sent_as (get_or ws i 0) x))) f.settings.mtu 1 v v'
            → b ≡ (is_sent x && eqb x.transmissions 20)
            → Walking f n pool o l₀ ws ts' rs' v' (record {
              dead = t.dead || b;
              late = t.late || is_late x;
              fast = t.fast || is_fast x;
              sent = t.sent || is_sent x;
            }) (i + 1)
        turn ts' rs' v' b l m s keeps a d =
            let more = prefix_more (take n l₀) (drop (i + 1) (take n l₀)) i read next in
            let sends = ap (λ (y : Transmission). is_sent y) e in
            record {
              same = same_on w.same keeps;
              suits = record { mtu = keeps.mtu ∙ w.suits.mtu; carried = keeps.carried ∙ w.suits.carried };
              wholes = l;
              whole_records = m;
              list = rw (← s, after) (packed_put h (rw next at w.list));
              adds = rw (more, sent_data f read (sent_as (get_or ws i 0) x) (is_sent x) sends after)
                  (adds_as (adds_append w.adds (rw w.same.mtu at a)) refl (omega arith) (omega arith));
              dead = rw (more, sent_dead f read (sent_as (get_or ws i 0) x) (is_sent x) sends after, ← w.dead, ← d);
              late = rw (more, map-append, some_more, ← w.late, ← e);
              fast = rw (more, map-append, some_more, ← w.fast, ← e);
              sends = rw (more, map-append, some_more, ← w.sends, ← e);
            }

        -- it is sent
        pub walking_sent : (v' : Writer) → is_sent x ≡ true → Same v v'
            → AddsTo (data_of f pool (sent_as (get_or ws i 0) x) ∷ []) f.settings.mtu 1 v v'
            → Walking f n pool o l₀ ws (set ts i x.transmissions) (set rs i x.updated) v' (record {
              dead = t.dead || eqb x.transmissions 20;
              late = t.late || is_late x;
              fast = t.fast || is_fast x;
              sent = true;
            }) (i + 1)
        walking_sent v' s keeps a =
            rw (s, or-true t.sent) at (turn (set ts i x.transmissions) (set rs i x.updated) v' (eqb x.transmissions 20)
            (length-set ts i x.transmissions ∙ w.wholes) (length-set rs i x.updated ∙ w.whole_records)
            (sents_set ws ts rs i (get_or ws i 0) x.transmissions x.updated ∙ rw (set-get_or ws i 0))
            keeps
            (rw s a)
            (rw s))

        -- it is not sent, and stays
        pub walking_unchanged : is_sent x ≡ false → Walking f n pool o l₀ ws ts rs v t (i + 1)
        walking_unchanged s =
            let same = e ∙ transmission_not_sent f.settings f.timeout f.t (get_or ts i 0) (get_or rs i r)
            (sym (ap (λ (y : Transmission). is_sent y) e) ∙ s) in
            let on-time : is_late x ≡ false = ap (λ (y : Transmission). is_late y) same in
            let in-turn : is_fast x ≡ false = ap (λ (y : Transmission). is_fast y) same in
            rw (on-time, in-turn, s, or-false t.dead, or-false t.late, or-false t.fast, or-false t.sent) at (turn ts rs v false
            w.wholes w.whole_records
            (ap (λ (y : Sent). set (sents ws ts rs) i y) (ap (sent_as (get_or ws i 0)) same ∙ sym here)
            ∙ set-get_or (sents ws ts rs) i (with_record (outstanding_at 0 0) r))
            (record { mtu = refl; carried = refl; out = refl; lengths = refl })
            (wished_none _ _ _ _ v.packer v.out.now v.lengths.now (is_sent x) s (rw w.same.mtu w.adds.fills))
            (rw s))

  -- all are handled
  pub walking_done : (ts₀ : List ℕ) (rs₀ : List Record) → l₀ ≡ sents ws ts₀ rs₀ → length ws ≡ 32 → n ≤ i
      → Walks f (sent_in ws ts₀ rs₀ n) ws n pool o t ts rs v
  walking_done ts₀ rs₀ q whole h =
      let all : i ≡ n = omega (arith, w.list.upto) in
      let here : take n l₀ ≡ sent_in ws ts₀ rs₀ n = rw q (sym (sents_take ws ts₀ rs₀ n)) in
      let front : take i (take n l₀) ≡ sent_in ws ts₀ rs₀ n = rw all (take-take n n l₀ (omega arith) ∙ here) in
      let below : i ≤ 32 = omega (arith, w.list.room) in
      record {
        adds = adds_as w.adds (rw front) (mul-le-mul_right f.settings.mtu below) below;
        sent = sents_front ws ts rs n _ whole w.wholes w.whole_records
            (subst (λ (m : ℕ). Holds 32 (sents ws ts rs) m (left_by f (sent_in ws ts₀ rs₀ n))) all
            (holds_as (packed_done (rw (view_end l₀ n i h)) w.list) (ap (left_by f) here)));
        dead = rw front at w.dead;
        late = rw front at w.late;
        fast = rw front at w.fast;
        sends = rw front at w.sends;
      }
