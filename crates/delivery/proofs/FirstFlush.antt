-- The first flush since opening, with the congestion setting on, sends no data.
-- Assumes nothing.
use Rattle.std.specs.Prelude.{◌≡◌, Bool, not, ◌&&◌, ℕ, eqb}
use Rattle.std.proofs.Math.Path.{refl}
use Rattle.std.proofs.Common.{sym, ◌∙◌, arith}
use Rattle.std.proofs.Math.Bool.{true, false}
use mathlib.Core.List.{List, [], ◌∷◌}
use Rattle.protocol.specs.Protocol.{ack}
use Rattle.protocol.specs.Ranges.{mss, controls_congestion}
use Rattle.protocol.specs.Serial.{is_before}
use Rattle.protocol.specs.declared.Settings.{Settings}
use Rattle.wire.specs.declared.Header.{Header}
use Rattle.datagram.specs.Datagrams.{Segment}
use Rattle.timing.specs.Choices.{either_way}
use Rattle.congestion.specs.CongestionLaws.{datagram_stays, used_none}
use Rattle.lists.specs.Acknowledging.{select, first_number_or}
use Rattle.lists.specs.declared.Acknowledges.{Acknowledges}
use Rattle.lists.specs.declared.Acknowledges.TheVariants as by
use Rattle.session.specs.State.{State, Sending, with_window, admitted}
use Rattle.session.specs.Valid.{valid}
use Rattle.session.specs.Opening.{opened}
use Rattle.session.specs.Flushing.{window_of, numbered_count, with_numbered, numbered, transmitted, flushing}
use Rattle.session.specs.Input.{applied, acknowledged, sampled_by, heard_by_sending, all_by_sending, ack_numbers, furthest, skipped, skipped_by_all}
use Rattle.session.specs.Calls.{Station, Call, Stepped, refused_step, own, long_enough, step, Event, history, after}
use Rattle.session.specs.Decides.{All}
use Rattle.delivery.specs.Stations.{Opened}
use Rattle.delivery.specs.CallCases.{own_cases}
use Rattle.delivery.specs.FirstFlush.{Unsent, NoFlush, without_data}

-- the same of the sending half, which a datagram leaves so
record Idle (next : ℕ) (s : Sending) : Type 0 where
  none : s.outstanding ≡ []
  una : s.una ≡ next
  same : s.next ≡ next

module _ (n : ℕ) where
  idle_acknowledged : (arrival : Acknowledges) (s : Sending) → Idle n s → Idle n (acknowledged arrival s)
  unfolding acknowledged select first_number_or
  idle_acknowledged arrival s i = record { none = rw i.none; una = rw i.none i.same; same = i.same }

  idle_heard : (c : Settings) (current : ℕ) (s : Sending) (h : Header) → Idle n s → Idle n (heard_by_sending c current s h)
  unfolding heard_by_sending sampled_by
  idle_heard c current s h i =
      let w : Idle n (with_window h.wnd s) = record { none = i.none; una = i.una; same = i.same } in
      let p = idle_acknowledged (by.Una h.una) (with_window h.wnd s) w in
      let q : Idle n (sampled_by c current h.ts (acknowledged (by.Una h.una) (with_window h.wnd s))) =
      record { none = p.none; una = p.una; same = p.same } in
      either_way (Idle n) (eqb h.cmd ack) (idle_acknowledged (by.Ack h.sn) _ q) p

  idle_all : (c : Settings) (current : ℕ) (s : Sending) (gs : List Segment) → Idle n s → Idle n (all_by_sending c current s gs)
  unfolding all_by_sending
  idle_all c current s [] i = i
  idle_all c current s (g ∷ gs) i = idle_all c current (heard_by_sending c current s g.header) gs (idle_heard c current s g.header i)

  idle_skips : (s : Sending) (l : List ℕ) → Idle n s → Idle n (skipped_by_all s l)
  unfolding skipped
  idle_skips s [] i = i
  idle_skips s (k ∷ l) i =
      either_way (Idle n) (not (is_before (furthest k l) s.una) && is_before (furthest k l) s.next)
      (record { none = rw i.none; una = i.una; same = i.same })
      i

-- what is not yet sent is not acknowledged: a datagram leaves it so, and the three values with it
unsent_applied : (c : Settings) (s : State) (pool : List ℕ) (gs : List Segment) → Unsent c s → Unsent c (applied s pool gs).state
unfolding applied
unsent_applied c s pool gs u =
    let d = s.sending in
    let i = idle_skips d.next (all_by_sending s.settings s.current d gs) (ack_numbers gs)
    (idle_all d.next s.settings s.current d gs (record { none = u.none; una = u.equal; same = refl })) in
    record {
      settings = u.settings;
      none = i.none;
      equal = i.una ∙ sym i.same;
      values = datagram_stays (mss s.settings) d.una _ _ s.congestion (u.equal ∙ sym i.una) ∙ u.values;
    }

module _ (c : Settings) where
  unsent_own : (s : Station) → Unsent c s.state → (x : Call) → NoFlush (own s x).answer → Unsent c (own s x).station.state
  unsent_own s u =
      own_cases (λ (x : Call) (y : Stepped). NoFlush y.answer → Unsent c y.station.state) s
      (λ x r q. u)
      (λ m ok q. record { settings = u.settings; none = u.none; equal = u.equal; values = u.values })
      (λ d gs e q. unsent_applied c s.state s.receive_pool gs u)
      (λ t q. absurd q)
      (λ room q. record { settings = u.settings; none = u.none; equal = u.equal; values = u.values })
      (λ t q. absurd q)
      (λ t q. record { settings = u.settings; none = u.none; equal = u.equal; values = u.values })
      (λ t q. u)

  unsent_step : (s : Station) → Unsent c s.state → (x : Call) → NoFlush (step s x).answer → Unsent c (step s x).station.state
  unfolding step
  unsent_step s u x = go (long_enough s x) (valid s.state)
    where
      go : (a b : Bool) → NoFlush (admitted (refused_step s) a b (own s x)).answer
          → Unsent c (admitted (refused_step s) a b (own s x)).station.state
      go true true q = unsent_own s u x q
      go true false q = u
      go false b q = u

  -- after an opening, and calls none of which flushed
  unsent_after : (s : Station) (xs : List Call) → Unsent c s.state → All (λ (e : Event). NoFlush e.answer) (history s xs)
      → Unsent c (after s xs).state
  unfolding history after
  unsent_after s [] u q = u
  unsent_after s (x ∷ xs) u q = unsent_after (step s x).station xs (unsent_step s u x q.0) q.1

  unsent_opened : (s : Station) → Opened c s → Unsent c s.state
  unfolding opened
  unsent_opened s o = rw o.state (record { settings = refl; none = refl; equal = refl; values = refl })

module _ (c : Settings) (on : controls_congestion c ≡ true) where
  none_counted : (s : State) → Unsent c s → numbered_count (window_of s) s.sending ≡ 0
  unfolding numbered_count
  none_counted s u = let z = used_none s.sending.window in rw (u.settings, on, u.values, z) (omega arith)

  first_writes : (s : State) → Unsent c s → (t : ℕ) (pool : List ℕ) → (flushing s t pool).datagrams ≡ without_data s t pool
  unfolding flushing with_numbered numbered transmitted
  first_writes s u t pool = rw (none_counted s u, u.none)

  -- after any calls since opening of which none has flushed, a flush sends no data
  pub first_flush : (s : Station) → Opened c s → (xs : List Call) → All (λ (e : Event). NoFlush e.answer) (history s xs) → (t : ℕ)
      → (flushing (after s xs).state t (after s xs).send_pool).datagrams ≡ without_data (after s xs).state t (after s xs).send_pool
  first_flush s o xs q t = first_writes (after s xs).state (unsent_after c s xs (unsent_opened c s o) q) t (after s xs).send_pool
