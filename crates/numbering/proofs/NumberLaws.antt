-- What is numbered of a block's arrays is what its sending half numbers.
-- Assumes nothing.
use mathlib.Core.Path.{◌≡◌, refl, sym, ap, ◌∙◌}
use mathlib.Core.Bool.{true}
use mathlib.Core.List.{List, [], ◌∷◌, ◌++◌, map, append-nil}
use Prim.Native.Nat.{ℕ, ◌+◌, ◌-◌, ◌≤◌, ◌<◌, ◌^◌}
use native.Mathlib.Omega.{arith}
use borrow.Author.Tests.{leb-true, ltb-true}
use lib.ListN.{length, take, drop, get_or, set, length-map, length-set}
use lib.Seq.{length-take-le, take-take}
use Rattle.protocol.specs.Protocol.{send_window}
use Rattle.protocol.specs.Serial.{plus, minus}
use Rattle.timing.specs.declared.Record.{Record}
use Rattle.lists.specs.declared.Held.{Held}
use Rattle.lists.specs.Orders.{sent_offset, ascending}
use Rattle.lists.proofs.Loops.{Written, written_start, written_put, written_done, view_next, view_end}
use Rattle.session.specs.State.{Sending}
use Rattle.session.specs.Decides.{and_parts}
use Rattle.session.specs.Valid.{numbers_fit}
use Rattle.session.specs.Flushing.{numbered, numbered_count, with_numbered}
use Rattle.session.specs.MapLaws.{map_take, map_drop}
use Rattle.words.specs.Words.{unpack, held_in, Front}
use Rattle.control.specs.declared.Flight.{Flight}
use Rattle.control.specs.Views.{sending_of}
use Rattle.numbering.specs.Sents.{sent_in, SentFront}
use Rattle.numbering.specs.Numbering.{count_of, Numberable, Numbers}
use Rattle.numbering.proofs.SentLaws.{sents, sents_take, sents_set, sents_length, sents_front, front_length}

-- ---- the loop

-- i of the k queued segments stand behind the n outstanding ones
pub record Numbering (queued : List ℕ) (k n next : ℕ) (ws₀ ts₀ : List ℕ) (rs₀ : List Record) (ws ts : List ℕ) (rs : List Record)
    (number i j : ℕ) : Type 0 where
  pub within : i ≤ k
  pub place : j ≡ n + i
  pub whole : length ws ≡ 32
  pub wholes : length ts ≡ 32
  pub whole_records : length rs ≡ 32
  pub written : Written 32 (sents ws ts rs) (numbered number (map unpack (drop i (take k queued))))
      (sent_in ws₀ ts₀ rs₀ n ++ numbered next (held_in queued k)) j

module _ (queued : List ℕ) (k n next : ℕ) (ws₀ ts₀ : List ℕ) (rs₀ : List Record) where
  pub numbering_start : n + k ≤ 32 → length ws₀ ≡ 32 → length ts₀ ≡ 32 → length rs₀ ≡ 32
      → Numbering queued k n next ws₀ ts₀ rs₀ ws₀ ts₀ rs₀ next 0 n
  numbering_start h e f g =
      record {
        within = omega arith;
        place = omega arith;
        whole = e;
        wholes = f;
        whole_records = g;
        written = rw (sents_take ws₀ ts₀ rs₀ n)
            (written_start _ n (sents_length ws₀ ts₀ rs₀ e f g) (omega arith));
      }

  module _ (ws ts : List ℕ) (rs : List Record) (number i j : ℕ) (w : Numbering queued k n next ws₀ ts₀ rs₀ ws ts rs number i j) where
    -- the next one is numbered
    pub numbering_more : (r : Record) (number' : ℕ) → length queued ≡ 128 → n + k ≤ 32 → i < k
        → r ≡ record { number = number; due = 0; timeout = 0; skips = 0 }
        → number' ≡ plus number 1
        → Numbering queued k n next ws₀ ts₀ rs₀ (set ws j (get_or queued i 0)) (set ts j 0) (set rs j r) number' (i + 1) (j + 1)
    unfolding numbered
    numbering_more r number' q b h e f =
        record {
          within = omega arith;
          place = omega (arith, w.place);
          whole = length-set ws j (get_or queued i 0) ∙ w.whole;
          wholes = length-set ts j 0 ∙ w.wholes;
          whole_records = length-set rs j r ∙ w.whole_records;
          written = rw (← (sents_set ws ts rs j (get_or queued i 0) 0 r), e, f)
              (written_put (omega (arith, w.place)) (rw (view_next queued k i 0 h (omega arith)) at w.written));
        }

    -- the same, counted another way
    pub numbering_as : (j' : ℕ) → j' ≡ j → Numbering queued k n next ws₀ ts₀ rs₀ ws ts rs number i j'
    numbering_as j' e = rw e w

    -- all are
    pub numbering_done : k ≤ i → SentFront ws ts rs (n + k) (sent_in ws₀ ts₀ rs₀ n ++ numbered next (held_in queued k))
    unfolding numbered
    numbering_done h =
        let all : n + k ≡ j = omega (arith, w.place, w.within) in
        rw all (sents_front ws ts rs j _ w.whole w.wholes w.whole_records (written_done (rw (view_end queued k i h)) w.written))

-- ---- how many

-- a list in number order is no longer than the span of its offsets
ascending_short : {A : Type 0} (offset : A → ℕ) (least limit : ℕ) (l : List A) → ascending offset least limit l ≡ true
    → length l ≤ limit - least
unfolding ascending
ascending_short offset least limit [] e = omega arith
ascending_short offset least limit (x ∷ l) e =
    let a = and_parts _ _ e in
    let b = and_parts _ _ a.0 in
    omega (arith, ascending_short offset (offset x + 1) limit l a.1, leb-true least (offset x) b.0, ltb-true (offset x) limit b.1)

-- with those that are numbered now there are at most 32
valid_few : (w : ℕ) (s : Sending) → w ≤ send_window → numbers_fit s ≡ true → length s.outstanding + numbered_count w s ≤ 32
unfolding numbers_fit numbered_count
valid_few w s h e =
    let a = and_parts _ _ (and_parts _ _ e).0 in
    let apart = minus s.next s.una in
    omega (arith, ascending_short (sent_offset s.una) 0 apart s.outstanding a.0, leb-true apart send_window a.1)

-- the count of a sending half is that of its numbers
count_of_lem : (w : ℕ) (s : Sending) → numbered_count w s ≡ count_of (length s.queued) w s.next s.una
unfolding numbered_count
count_of_lem w s = refl

module _ (f : Flight) (window : ℕ) (queued outstanding transmissions : List ℕ) (records : List Record) (k : ℕ)
    (n : Numberable f window queued outstanding transmissions records) (e : k ≡ count_of f.queued window f.next f.una) where
  abbrev half : Sending
  half = sending_of f queued outstanding transmissions records

  held : length (held_in queued f.queued) ≡ f.queued
  held = length-map (take f.queued queued) unpack ∙ length-take-le f.queued queued (omega (arith, n.queued_fits, n.queued_whole))

  counted : k ≡ numbered_count window half
  counted = e ∙ ap (λ (m : ℕ). count_of m window f.next f.una) (sym held) ∙ sym (count_of_lem window half)

  -- there are so many, and there is room for them
  pub enough : k ≤ f.queued
  enough = omega arith

  pub few : f.outstanding + k ≤ 32
  few = omega (
    arith,
    valid_few window half n.window_fits n.numbers,
    counted,
    front_length outstanding transmissions records n.outstanding_whole n.transmissions_whole
        n.records_whole f.outstanding n.outstanding_fits,
  )

  -- ---- what is left

  -- the numbers then, with this number as the next
  abbrev flown : ℕ → Flight
  flown next =
      record {
        una = f.una;
        next = next;
        rtt = f.rtt;
        window = f.window;
        congestion = f.congestion;
        queued = f.queued - k;
        outstanding = f.outstanding + k;
      }

  -- some are numbered
  pub numbers_some : (next : ℕ) (queued' outstanding' transmissions' : List ℕ) (records' : List Record)
      → SentFront outstanding' transmissions' records' (f.outstanding + k)
      (sent_in outstanding transmissions records f.outstanding ++ numbered f.next (held_in queued k))
      → Front 128 queued' (f.queued - k) (drop k (take f.queued queued))
      → next ≡ plus f.next k
      → Numbers f window queued outstanding transmissions records (flown next) queued' outstanding' transmissions' records'
  unfolding with_numbered
  numbers_some next queued' outstanding' transmissions' records' s r p =
      record {
        sent = record {
          whole = s.whole;
          wholes = s.wholes;
          whole_records = s.whole_records;
          fits = s.fits;
          list = s.list ∙ ap (λ (q : List Held). half.outstanding ++ numbered f.next q) first ∙ ap (with_numbered half) counted;
        };
        queued_whole = r.whole;
        queued_fits = r.fits;
        left = ap (map unpack) r.list ∙ map_drop unpack k (take f.queued queued) ∙ ap (λ (m : ℕ). drop m (held_in queued f.queued))
            counted;
        rest = with_next (p ∙ ap (plus f.next) counted);
      }
    where
      first : held_in queued k ≡ take k (held_in queued f.queued)
      first = ap (map unpack) (sym (take-take k f.queued queued enough)) ∙ map_take unpack k (take f.queued queued)

      with_next : {m : ℕ} → next ≡ m → flown next ≡ flown m
      with_next q = rw q

  -- none is
  pub numbers_none : k ≡ 0 → f.next < 2 ^ 32
      → Numbers f window queued outstanding transmissions records f queued outstanding transmissions records
  unfolding with_numbered numbered
  numbers_none z h =
      let none : numbered_count window half ≡ 0 = sym counted ∙ z in
      let same : plus f.next 0 ≡ f.next = omega arith in
      record {
        sent = record {
          whole = n.outstanding_whole;
          wholes = n.transmissions_whole;
          whole_records = n.records_whole;
          fits = n.outstanding_fits;
          list = sym (ap (with_numbered half) none ∙ append-nil _);
        };
        queued_whole = n.queued_whole;
        queued_fits = n.queued_fits;
        left = sym (ap (λ (m : ℕ). drop m (held_in queued f.queued)) none);
        rest = rw (none, same);
      }
