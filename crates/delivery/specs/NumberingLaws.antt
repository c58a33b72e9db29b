-- Over all calls and both modes, whatever the sender takes in: what it has numbered is what its datagrams show, and numbered and queued
-- segments together are the bytes accepted.
-- Assumes nothing.
use Rattle.std.specs.Prelude.{◌≡◌, refl, true, length, take, drop}
use Rattle.std.proofs.Math.Path.{sym, ap}
use Rattle.std.proofs.Common.{◌∙◌, subst, arith, length-append, length-take, take-append-drop}
use mathlib.Core.List.{List, [], ◌∷◌, ◌++◌, map, append_assoc, append-nil, flatten}
use Prim.Native.Nat.{ℕ, ◌%◌, ◌^◌, ◌<◌}
use Rattle.std.proofs.Math.ListN.{length-map}
use Rattle.protocol.specs.Ranges.{mss, is_stream}
use Rattle.protocol.specs.declared.Settings.{Settings}
use Rattle.protocol.specs.declared.Refusal.{Refusal}
use Rattle.datagram.specs.Datagrams.{Segment}
use Rattle.lists.specs.declared.Held.{Held}
use Rattle.schedule.specs.declared.Schedule.{Schedule}
use Rattle.session.specs.State.{State, Sending, Outcome, with_receiving, with_times, with_schedule}
use Rattle.session.specs.Valid.{valid}
use Rattle.session.specs.Input.{applied, ack_numbers}
use Rattle.session.specs.Flushing.{window_of, numbered_count, flushing}
use Rattle.session.specs.Reading.{after_read}
use Rattle.session.specs.Calls.{
  Station,
  Call,
  Reply,
  Stepped,
  after_send,
  after_take_in,
  after_flush,
  own,
  history,
  after,
  accepted_by,
  accepted_list,
  datagrams_in,
  datagrams_by,
}
use Rattle.session.specs.Decides.{All}
use Rattle.delivery.specs.Accepted.{numbered_in_all}
use Rattle.delivery.specs.Hearing.{Taken, CallFits}
use Rattle.delivery.specs.Stations.{Opened}
use Rattle.delivery.specs.Pieces.{Piece, pieces_of}
use Rattle.delivery.specs.Passing.{Passing}
use Rattle.delivery.specs.PassingLaws.{history_first, after_first}
use Rattle.delivery.specs.CallCases.{Sendable, sent_by, scheduled_at, rescheduled, valid_rescheduled, own_cases}
use Rattle.delivery.specs.StateRange.{CarryFits}
use Rattle.delivery.specs.SizeLaws.{mtu_in_range}
use Rattle.session.specs.MapLaws.{map-append}
use Rattle.delivery.specs.SendPool.{piece_in}
use Rattle.delivery.specs.SendingHalf.{Half}
use Rattle.delivery.specs.SendingFlushes.{count_few}
use Rattle.delivery.specs.SendingStays.{SendingInOrder, half_in, sending_stays, opened_in_order}
use Rattle.delivery.specs.FlushLaws.{valid_parts}
use Rattle.delivery.specs.CarryLaws.{carry_stays}
use Rattle.delivery.specs.SenderModel.{taken_same}
use Rattle.delivery.specs.Numbering.{numbered_now, pieces_numbered, payloads}
use Rattle.delivery.specs.FlushNumbers.{all_append_numbered, flush_numbers}
use Rattle.delivery.specs.CutBytes.{CutFrom, cut_more}
use Rattle.session.specs.Opening.{opened}
use Rattle.delivery.specs.ReceiverModel.{joined}
use Rattle.delivery.specs.SentGenuine.{opened_carry}

-- ---- one call

-- with the pieces numbered before, and what was accepted before
pub record Numbers (c : Settings) (before : List Piece) (accepted : List (List ℕ)) (s : Station) : Type 0 where
  -- snd_nxt is their count, modulo 2^32
  pub next : s.state.sending.next ≡ length before % 2 ^ 32
  pub cuts : CutFrom (is_stream c) (mss c) (before ++ map (piece_in (mss c) s.send_pool) s.state.sending.queued) accepted

record Steps (c : Settings) (before : List Piece) (accepted : List (List ℕ)) (s : Station) (x : Call) (y : Stepped) : Type 0 where
  then : Numbers c (before ++ numbered_now s y.answer) (accepted ++ accepted_by x y.answer) y.station
  wrote : numbered_in_all c (payloads before) (datagrams_in y.answer) ≡ payloads (before ++ numbered_now s y.answer)

module _ (s : Station) (before : List Piece) (accepted : List (List ℕ)) (made : valid s.state ≡ true)
    (conv32 : s.state.settings.conv < 2 ^ 32)
    (o : SendingInOrder s.state.settings s) (carry : CarryFits s.state.receiving)
    (n : Numbers s.state.settings before accepted s) where
  abbrev c : Settings
  c = s.state.settings

  abbrev d : Sending
  d = s.state.sending

  half : Half c d
  half = half_in c s o

  -- a call that accepts and numbers nothing
  still : Numbers c (before ++ []) (accepted ++ []) s
  still = rw (append-nil before, append-nil accepted) n

  nothing : numbered_in_all c (payloads before) [] ≡ payloads (before ++ [])
  unfolding numbered_in_all
  nothing = ap payloads (sym (append-nil before))

  refused_step_lem : (x : Call) (r : Refusal) → Steps c before accepted s x (record { station = s; answer = Reply.refused r })
  refused_step_lem (Call.send m) r = record { then = still; wrote = nothing }
  refused_step_lem (Call.take_in b) r = record { then = still; wrote = nothing }
  refused_step_lem (Call.flush t) r = record { then = still; wrote = nothing }
  refused_step_lem (Call.update t) r = record { then = still; wrote = nothing }
  refused_step_lem (Call.check t) r = record { then = still; wrote = nothing }
  refused_step_lem (Call.read room) r = record { then = still; wrote = nothing }

  send_step : (m : List ℕ) → Sendable s.state s.send_pool m →
      Steps c before accepted s (Call.send m) (after_send s (Outcome.done (sent_by s.state s.send_pool m)))
  send_step m ok = record {
    then = rw (append-nil before) (record {
      next = n.next;
      cuts = cut_more c d s.send_pool m half (omega (arith, (mtu_in_range c (valid_parts s.state made).range).least)) o.long
          ok.room before accepted n.cuts;
    });
    wrote = nothing;
  }

  take_step : (b : List ℕ) (gs : List Segment) →
      Steps c before accepted s (Call.take_in b) (after_take_in s (Outcome.done (applied s.state s.receive_pool gs)))
  unfolding applied
  take_step b gs =
      let k = taken_same c s.state.current d gs (ack_numbers gs) in
      record {
        then = rw (append-nil before, append-nil accepted) (record { next = k.0 ∙ n.next; cuts = rw k.1 n.cuts });
        wrote =
            nothing;
      }

  flush_step : (t : ℕ) → t < 2 ^ 32 → Steps c before accepted s (Call.flush t) (after_flush s (flushing s.state t s.send_pool))
  unfolding flushing
  flush_step t time = record {
    then = rw (append-nil accepted) (record {
      next = simp (length-append, length-map, length-take) (omega (arith, n.next, count_few (window_of s.state) d));
      cuts = rw whole n.cuts;
    });
    wrote =
        flush_numbers s made conv32 o carry t time (payloads before) (rw (length-map before (λ (q : Piece). q.payload)) n.next)
        ∙ sym (map-append (λ (q : Piece). q.payload) before (map (piece_in (mss c) s.send_pool) (take k d.queued)));
  }
    where
      k : ℕ
      k = numbered_count (window_of s.state) d

      f : Held → Piece
      f x = piece_in (mss c) s.send_pool x

      -- numbered and queued together stay as they were
      whole : (before ++ map (piece_in (mss c) s.send_pool) (take (numbered_count (window_of s.state) d) d.queued))
          ++ map (piece_in (mss c) s.send_pool) (drop (numbered_count (window_of s.state) d) d.queued)
          ≡ before ++ map (piece_in (mss c) s.send_pool) d.queued
      whole =
          append_assoc before (map f (take k d.queued)) (map f (drop k d.queued))
          ∙ ap (λ (r : List Piece). before ++ r)
          (sym (map-append f (take k d.queued) (drop k d.queued)) ∙ ap (map f) (take-append-drop k d.queued))

-- an update that flushes: the flush of the station with the schedule moved on
module _ (s : Station) (before : List Piece) (accepted : List (List ℕ)) (made : valid s.state ≡ true)
    (conv32 : s.state.settings.conv < 2 ^ 32)
    (o : SendingInOrder s.state.settings s) (carry : CarryFits s.state.receiving)
    (n : Numbers s.state.settings before accepted s) where
  abbrev settings : Settings
  settings = s.state.settings

  update_step : (t : ℕ) (k : Schedule) → t < 2 ^ 32
      → Steps settings before accepted s (Call.update t) (after_flush s (flushing (with_schedule s.state k) t s.send_pool))
  update_step t k time =
      let order : SendingInOrder settings (rescheduled s k) =
      record { settings = o.settings; long = o.long; valid = o.valid; fits = o.fits; probe = o.probe } in
      let moved : Numbers settings before accepted (rescheduled s k) = record { next = n.next; cuts = n.cuts } in
      let w = flush_step (rescheduled s k) before accepted (valid_rescheduled s.state k ∙ made) conv32 order carry moved t time in
      record { then = record { next = w.then.next; cuts = w.then.cuts }; wrote = w.wrote }

  -- a call that changes neither queue nor numbers
  others_step : (state : State) → state.sending ≡ s.state.sending
      → Numbers settings (before ++ []) (accepted ++ [])
      (record { state = state; send_pool = s.send_pool; receive_pool = s.receive_pool; lent = s.lent })
  others_step state e =
      rw (append-nil before, append-nil accepted)
      (record {
        next = ap (λ (x : Sending). x.next) e ∙ n.next;
        cuts = rw e n.cuts;
      })

  steps : (x : Call) → CallFits x → Steps settings before accepted s x (own s x)
  steps =
      own_cases (λ (x : Call) (y : Stepped). CallFits x → Steps settings before accepted s x y) s
      (λ x r k. refused_step_lem s before accepted made conv32 o carry n x r)
      (λ m ok k. send_step s before accepted made conv32 o carry n m ok)
      (λ b gs e k. take_step s before accepted made conv32 o carry n b gs)
      (λ t k. flush_step s before accepted made conv32 o carry n t k)
      (λ room k. record {
        then = others_step (with_receiving s.state (after_read s.state.receiving)) refl;
        wrote = nothing s before accepted made conv32 o carry n;
      })
      (λ t k. update_step t (scheduled_at s.state t) k)
      (λ t k. record {
        then = others_step (with_times s.state t (scheduled_at s.state t)) refl;
        wrote = nothing s before accepted made conv32 o carry n;
      })
      (λ t k. record { then = still s before accepted made conv32 o carry n; wrote = nothing s before accepted made conv32 o carry n })

-- by any name of the settings
steps_by : (c : Settings) (s : Station) (before : List Piece) (accepted : List (List ℕ)) (x : Call) →
    valid s.state ≡ true →
    c.conv < 2 ^ 32 →
    SendingInOrder c s →
    CarryFits s.state.receiving →
    Numbers c before accepted s →
    CallFits x →
    Steps c before accepted s x (own s x)
steps_by c s before accepted x made conv32 o carry n k =
    subst (λ (c : Settings). c.conv < 2 ^ 32 → SendingInOrder c s → Numbers c before accepted s → Steps c before accepted s x (own s x))
    o.settings
    (λ conv32 o n. steps s before accepted made conv32 o carry n x k)
    conv32 o n

-- ---- lists of calls

pub record Run (c : Settings) (before : List Piece) (accepted : List (List ℕ)) (s : Station) (calls : List Call) : Type 0 where
  pub then : Numbers c (before ++ pieces_numbered s calls) (accepted ++ accepted_list (history s calls)) (after s calls)
  pub wrote : numbered_in_all c (payloads before) (datagrams_by (history s calls)) ≡ payloads (before ++ pieces_numbered s calls)

-- the first call, and the others
first_run : (c : Settings) (s : Station) (x : Call) (xs : List Call) → Passing s (x ∷ xs) →
    (before : List Piece) (accepted : List (List ℕ)) →
    Run c (before ++ numbered_now s (own s x).answer) (accepted ++ accepted_by x (own s x).answer) (own s x).station xs →
    numbered_in_all c (payloads before) (datagrams_in (own s x).answer) ≡ payloads (before ++ numbered_now s (own s x).answer) →
    Run c before accepted s (x ∷ xs)
unfolding pieces_numbered accepted_list datagrams_by
first_run c s x xs p before accepted r e = record {
  then =
      rw (
        after_first s x xs p,
        history_first s x xs p,
        ← append_assoc before now (pieces_numbered (own s x).station xs),
        ← append_assoc
            accepted new (accepted_list (history (own s x).station xs)),
      )
      r.then;
  wrote =
      rw (history_first s x xs p, ← append_assoc before now (pieces_numbered (own s x).station xs))
      (all_append_numbered c (payloads before) (datagrams_in (own s x).answer) (datagrams_by (history (own s x).station xs))
      ∙ ap (λ (l : List (List ℕ)). numbered_in_all c l (datagrams_by (history (own s x).station xs))) e
      ∙ r.wrote);
}
  where
    now : List Piece
    now = numbered_now s (own s x).answer

    new : List (List ℕ)
    new = accepted_by x (own s x).answer

run : (c : Settings) → Taken c → (calls : List Call) (s : Station) (before : List Piece) (accepted : List (List ℕ)) →
    SendingInOrder c s →
    CarryFits s.state.receiving →
    Numbers c before accepted s →
    All CallFits calls →
    Passing s calls →
    Run c before accepted s calls
unfolding pieces_numbered history after accepted_list datagrams_by numbered_in_all
run c taken [] s before accepted o carry n k p =
    record { then = rw (append-nil before, append-nil accepted) n; wrote = ap payloads (sym (append-nil before)) }
run c taken (x ∷ xs) s before accepted o carry n k p =
    let t = steps_by c s before accepted x p.1 taken.conv o carry n k.0 in
    first_run c s x xs p before accepted
    (run c taken xs (own s x).station (before ++ numbered_now s (own s x).answer) (accepted ++ accepted_by x (own s x).answer)
    (sending_stays c taken.range s x k.0 o)
    (carry_stays s x k.0 carry)
    t.then
    k.1
    p.2)
    t.wrote

-- ---- since opening

opened_numbers : (c : Settings) (s : Station) → Opened c s → Numbers c [] [] s
unfolding opened joined flatten pieces_of
opened_numbers c s p = rw p.state (record { next = refl; cuts = record { bytes = refl; messages = λ e. refl; singles = λ e. tt } })

pub opened_run : (c : Settings) → Taken c → (s : Station) → Opened c s → (calls : List Call) → All CallFits calls → Passing s calls →
    Run c [] [] s calls
opened_run c taken s p calls k q =
    run c taken calls s [] [] (opened_in_order c s p) (rw p.state (opened_carry c)) (opened_numbers c s p) k q
