-- The numbers of the receiving half that a flush writes, rcv_nxt and the noted acks, stay in range through every call.
-- Assumes nothing.
use Rattle.std.proofs.Common.{subst, arith}
use Rattle.std.specs.Prelude.{Bool, true, false, cond, ◌&&◌, List, [], ◌∷◌, ◌++◌, ℕ, ◌^◌, ◌<◌, eqb, ltb, length}
use Rattle.protocol.specs.Protocol.{push, window_ask, receive_window, acks_most}
use Rattle.protocol.specs.Ranges.{mss}
use Rattle.protocol.specs.Serial.{plus}
use Rattle.datagram.specs.Datagrams.{Segment}
use Rattle.lists.specs.declared.Held.{Held}
use Rattle.lists.specs.declared.Waiting.{Waiting}
use Rattle.lists.specs.Receiving.{is_next, advance}
use Rattle.session.specs.State.{Receiving}
use Rattle.session.specs.Input.{
  Receiver,
  in_window,
  noted,
  is_new,
  kept,
  moved_up,
  moved_up_in,
  with_acks,
  pushed,
  asked,
  heard_by_receiving,
  all_by_receiving,
  applied,
}
use Rattle.session.specs.Flushing.{flushing}
use Rattle.session.specs.Reading.{after_read}
use Rattle.session.specs.Calls.{Station, Call, Stepped, own}
use Rattle.session.specs.Decides.{All}
use Rattle.session.specs.AllLaws.{all_append}
use Rattle.delivery.specs.Hearing.{CallFits}
use Rattle.delivery.specs.HeaderRange.{HeaderFits, Each, parse_fits}
use Rattle.delivery.specs.CallCases.{own_cases}
use Rattle.delivery.specs.StateRange.{AckFits, CarryFits}

advance_fits : (next : ℕ) (ready : List Held) (l : List Waiting) → next < 2 ^ 32 → (advance next ready l).next < 2 ^ 32
unfolding advance
advance_fits next ready [] h = h
advance_fits next ready (w ∷ l) h =
    go (is_next next w && ltb (length ready) receive_window) (advance_fits (plus next 1) (ready ++ (w.held ∷ [])) l (omega arith))
  where
    go : (b : Bool) →
        (advance (plus next 1) (ready ++ (w.held ∷ [])) l).next < 2 ^ 32 →
        (cond b (advance (plus next 1) (ready ++ (w.held ∷ [])) l) (record { next = next; ready = ready; waiting = w ∷ l })).next < 2 ^ 32
    go true i = i
    go false i = h

moved_fits : (r : Receiving) → CarryFits r → CarryFits (moved_up r)
moved_fits r f = record { next = advance_fits r.next r.ready r.waiting f.next; acks = f.acks }

noted_fits : (r : Receiving) (g : Segment) → HeaderFits g → All AckFits r.acks → All AckFits (noted r g.header)
noted_fits r g h a = go (ltb (length r.acks) acks_most)
  where
    go : (b : Bool) → All AckFits (cond b (r.acks ++ (record { sn = g.header.sn; ts = g.header.ts } ∷ [])) r.acks)
    go true = all_append AckFits r.acks (record { sn = g.header.sn; ts = g.header.ts } ∷ []) a
        (record { sn = h.sn; ts = h.ts }, tt)
    go false = a

pushed_fits : (m : ℕ) (x : Receiver) (g : Segment) → HeaderFits g → CarryFits x.half → CarryFits (pushed m x g).half
unfolding pushed
pushed_fits m x g h f = go (in_window x.half g.header.sn) (is_new x.half g.header.sn)
  where
    y : Receiver
    y = with_acks (noted x.half g.header) x

    go : (a b : Bool) → CarryFits (moved_up_in (cond a (cond b (kept m y g) y) x)).half
    go true true = moved_fits (kept m y g).half (record { next = f.next; acks = noted_fits x.half g h f.acks })
    go true false = moved_fits y.half (record { next = f.next; acks = noted_fits x.half g h f.acks })
    go false b = moved_fits x.half f

heard_fits : (m : ℕ) (x : Receiver) (g : Segment) → HeaderFits g → CarryFits x.half → CarryFits (heard_by_receiving m x g).half
unfolding heard_by_receiving
heard_fits m x g h f = go (eqb g.header.cmd push) (eqb g.header.cmd window_ask)
  where
    go : (a b : Bool) → CarryFits (cond a (pushed m x g) (cond b (asked x) x)).half
    go true b = pushed_fits m x g h f
    go false true = record { next = f.next; acks = f.acks }
    go false false = f

all_fits : (m : ℕ) (x : Receiver) (gs : List Segment) → All HeaderFits gs → CarryFits x.half → CarryFits (all_by_receiving m x gs).half
unfolding all_by_receiving
all_fits m x [] a f = f
all_fits m x (g ∷ gs) a f = all_fits m (heard_by_receiving m x g) gs a.1 (heard_fits m x g a.0 f)

read_fits : (r : Receiving) → CarryFits r → CarryFits (after_read r)
unfolding after_read
read_fits r f = record { next = advance_fits r.next _ r.waiting f.next; acks = f.acks }

pub carry_stays : (s : Station) (x : Call) → CallFits x → CarryFits s.state.receiving → CarryFits (own s x).station.state.receiving
unfolding applied flushing
carry_stays s x k f =
    own_cases (λ (x : Call) (y : Stepped). CallFits x → CarryFits y.station.state.receiving) s
    (λ x r k. f)
    (λ m ok k. f)
    (λ d gs e k.
    all_fits (mss s.state.settings) (record { half = s.state.receiving; pool = s.receive_pool }) gs
    (subst (Each HeaderFits) e (parse_fits s.state.settings.conv (mss s.state.settings) d k))
    f)
    (λ t k. record { next = f.next; acks = tt })
    (λ room k. read_fits s.state.receiving f)
    (λ t k. record { next = f.next; acks = tt })
    (λ t k. f)
    (λ t k. f)
    x k
