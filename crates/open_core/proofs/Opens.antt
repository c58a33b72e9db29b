-- The checks of 12 and 7, as what opening leaves of a block.
-- Assumes nothing.
use mathlib.Core.Path.{◌≡◌, refl, sym, ◌∙◌}
use mathlib.Core.Bool.{Bool, true, false, not}
use mathlib.Core.List.{List}
use Prim.Native.Nat.{ℕ}
use Rattle.protocol.specs.Ranges.{in_range, mss}
use Rattle.protocol.specs.declared.Settings.{Settings}
use Rattle.protocol.specs.declared.Refusal.TheVariants.{SettingOutOfRange, ShortPart}
use Rattle.congestion.specs.Congestions.{initial}
use Rattle.timing.specs.declared.Record.{Record}
use Rattle.lists.specs.Joining.{joined}
use Rattle.sizes.specs.Sizes.{enough}
use Rattle.sizes.specs.declared.Lengths.{Lengths}
use Rattle.session.specs.Opening.{opening, opened}
use Rattle.words.specs.Words.{paired}
use Rattle.control.specs.declared.Arrival.{Arrival}
use Rattle.control.specs.declared.Clock.{Clock}
use Rattle.control.specs.declared.Link.{Link}
use Rattle.congestion.specs.declared.Congestion.{Congestion}
use Rattle.control.specs.Views.{Arrays, link_of, pairs, state_of, counts_fit}
use Rattle.promises.specs.Cores.{OpenCore}
use Rattle.open_core.specs.Fresh.{IsFresh}
use Rattle.std.specs.Prelude.{Err, Ok}

-- a block with these numbers
abbrev pub made : Settings → Arrays → Link
made c x =
    link_of c
    (record {
      una = 0;
      next = 0;
      rtt = record { smoothed = 0; variation = 0; timeout = 200 };
      window = 128;
      congestion = initial;
      queued = 0;
      outstanding = 0;
    })
    (record { expected = 0; tell = 0; ready = 0; waiting = 0; acks = 0 })
    (record { probe = record { wait = 0; due = 0 }; current = 0; next_flush = 0; ask = 0; dead = 0; updated = 0 })
    x

-- every number of a half that is just opened is 0
arrival_zero : (a : Arrival) → (a.expected ≡ 0) × ((a.tell ≡ 0) × ((a.ready ≡ 0) × ((a.waiting ≡ 0) × (a.acks ≡ 0))))
    → a ≡ record { expected = 0; tell = 0; ready = 0; waiting = 0; acks = 0 }
arrival_zero a z = go a.expected a.tell a.ready a.waiting a.acks z.0 z.1.0 z.1.1.0 z.1.1.1.0 z.1.1.1.1
  where
    go : (e t r w k : ℕ) → e ≡ 0 → t ≡ 0 → r ≡ 0 → w ≡ 0 → k ≡ 0
        → ◌≡◌ {A = Arrival} (record { expected = e; tell = t; ready = r; waiting = w; acks = k })
        (record { expected = 0; tell = 0; ready = 0; waiting = 0; acks = 0 })
    go e t r w k p1 p2 p3 p4 p5 = cc

clock_zero : (k : Clock)
    → ((k.probe.wait ≡ 0) × (k.probe.due ≡ 0))
    × ((k.current ≡ 0) × ((k.next_flush ≡ 0) × ((k.ask ≡ 0) × ((k.dead ≡ 0) × (k.updated ≡ 0)))))
    → k ≡ record { probe = record { wait = 0; due = 0 }; current = 0; next_flush = 0; ask = 0; dead = 0; updated = 0 }
clock_zero k z = go k.probe.wait k.probe.due k.current k.next_flush k.ask k.dead k.updated z.0.0 z.0.1 z.1.0 z.1.1.0 z.1.1.1.0 z.1.1.1.1.0 z.1.1.1.1.1
  where
    go : (w d c n a b u : ℕ) → w ≡ 0 → d ≡ 0 → c ≡ 0 → n ≡ 0 → a ≡ 0 → b ≡ 0 → u ≡ 0
        → ◌≡◌ {A = Clock} (record { probe = record { wait = w; due = d }; current = c; next_flush = n; ask = a; dead = b; updated = u })
        (record { probe = record { wait = 0; due = 0 }; current = 0; next_flush = 0; ask = 0; dead = 0; updated = 0 })
    go w d c n a b u p1 p2 p3 p4 p5 p6 p7 = cc

-- the block, field by field
pub made_of : (c : Settings) (x : Arrays) (una next smoothed variation queued outstanding : ℕ) (g : Congestion) (a : Arrival) (k : Clock)
    → una ≡ 0 → next ≡ 0 → smoothed ≡ 0 → variation ≡ 0 → queued ≡ 0 → outstanding ≡ 0 → g ≡ initial
    → (a.expected ≡ 0) × ((a.tell ≡ 0) × ((a.ready ≡ 0) × ((a.waiting ≡ 0) × (a.acks ≡ 0))))
    → ((k.probe.wait ≡ 0) × (k.probe.due ≡ 0))
    × ((k.current ≡ 0) × ((k.next_flush ≡ 0) × ((k.ask ≡ 0) × ((k.dead ≡ 0) × (k.updated ≡ 0)))))
    → link_of c
    (record {
      una = una;
      next = next;
      rtt = record { smoothed = smoothed; variation = variation; timeout = 200 };
      window = 128;
      congestion = g;
      queued = queued;
      outstanding = outstanding;
    })
    a k x
    ≡ made c x
made_of c x una next smoothed variation queued outstanding g a k e1 e2 e3 e4 e5 e6 e7 za zk =
    rw (e1, e2, e3, e4, e5, e6, e7, arrival_zero a za, clock_zero k zk)

module _ (c : Settings) (x : Arrays) where
  counted : counts_fit (made c x) ≡ true
  unfolding counts_fit
  counted = refl

  fresh_state : (records : List Record) (acks : List ℕ) → state_of (made c x) records acks ≡ opened c
  unfolding state_of opened pairs joined paired
  fresh_state records acks = refl

  pub is_fresh_lem : {l : Link} → l ≡ made c x → IsFresh c l
  is_fresh_lem e = rw e (record { counts = counted; state = fresh_state })

passed : (b : Bool) → not b ≡ false → b ≡ true
passed true q = refl
passed false q = sym q

failed : (b : Bool) → not b ≡ true → b ≡ false
failed true q = sym q
failed false q = refl

module _ (c : Settings) (n : Lengths) (l : Link) (fit : Bool) (e : fit ≡ in_range c) where
  module _ (long : Bool) (f : long ≡ enough (mss c) n) (t : not fit ≡ false) where
    in_range_lem : in_range c ≡ true
    in_range_lem = sym e ∙ passed fit t

    pub accepts : not long ≡ false → (l' : Link) → IsFresh c l' → OpenCore (opening c n) l (Ok tt) l'
    unfolding opening
    accepts u l' i = rw (in_range_lem, sym f ∙ passed long u) (record { answer = refl; counts = i.counts; state = i.state })

    pub short : not long ≡ true → OpenCore (opening c n) l (Err ShortPart) l
    unfolding opening
    short u = rw (in_range_lem, sym f ∙ failed long u) (refl, refl)

  pub out_of_range : not fit ≡ true → OpenCore (opening c n) l (Err SettingOutOfRange) l
  unfolding opening
  out_of_range t = rw (sym e ∙ failed fit t) (refl, refl)
