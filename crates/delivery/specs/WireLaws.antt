-- The segments that a flush writes: a link of the same settings takes each of them, none is longer than mtu, and all together they
-- are at most 290 segments and 50,992 bytes.
-- Assumes nothing.
use Rattle.std.specs.Prelude.{◌≡◌, Ok, Bool, true, false, cond, List, [], ◌∷◌, ◌++◌, map, ℕ, ◌*◌, ◌^◌, ◌≤◌, ◌<◌, eqb, leb, length, take, drop}
use Rattle.std.proofs.Math.Path.{refl}
use Rattle.std.proofs.Common.{sym, zero-le, mul-le-mul_right, arith, eqb-true, eq-eqb, le-leb, length-take, length-drop, length-append}
use Rattle.std.proofs.lemmas.List.{length-map}
use Rattle.protocol.specs.Protocol.{
  push,
  ack,
  window_ask,
  window_tell,
  header_size,
  fragment_most,
  send_slots,
  send_window,
  acks_most,
  output_least,
  lengths_least,
  mtu_most,
}
use Rattle.protocol.specs.Ranges.{in_range, mss}
use Rattle.wire.specs.Headers.{encode}
use Rattle.wire.specs.declared.Header.{Header}
use Rattle.datagram.specs.Datagrams.{Segment, of_push, verdict}
use Rattle.datagram.specs.WalkLaws.{Passed}
use Rattle.datagram.specs.Joined.{Valid}
use Rattle.lists.specs.declared.Sent.{Sent}
use Rattle.session.specs.State.{State, Ack}
use Rattle.session.specs.Flushing.{Carried, carried, control, ack_segment, data_segment, wished, written, bytes_of_segment, bytes_of_segments}
use Rattle.session.specs.Decides.{All}
use Rattle.session.specs.AllLaws.{all_any, all_append, all_right, all_mapped, all_unmapped, all_weaker}
use Rattle.delivery.specs.StateRange.{AckFits, CarryFits}
use Rattle.delivery.specs.SizeLaws.{MtuInRange, mtu_in_range}
use Rattle.delivery.specs.PackingLaws.{length_segment, length_bytes_append}

-- ---- a header that passes

of_push_lem : (h : Header) (b : Bool) → (h.cmd ≡ push → b ≡ true) → of_push h b ≡ true
of_push_lem h b f = go (eqb h.cmd push) refl
  where
    go : (t : Bool) → eqb h.cmd push ≡ t → cond t b true ≡ true
    go true e = f (eqb-true h.cmd push e)
    go false e = refl

pub passes : (conv m room : ℕ) (h : Header) → Passed conv m room h → verdict conv m room h ≡ Ok tt
unfolding verdict
passes conv m room h p =
    rw (
      eq-eqb h.conv conv p.conversation,
      le-leb h.len room p.inside,
      le-leb push h.cmd p.command_least,
      le-leb h.cmd window_tell p.command_most,
      of_push_lem h (leb h.len m) (λ e. le-leb h.len m (p.payload e)),
      of_push_lem h (leb h.frg fragment_most) (λ e. le-leb h.frg fragment_most (p.fragment e)),
    )

-- ---- the segments of a flush

-- what all segments of a flush carry fits its fields
pub record CarriedFits (c : Carried) : Type 0 where
  pub conv : c.conv < 2 ^ 32
  pub wnd : c.wnd < 2 ^ 16
  pub una : c.una < 2 ^ 32

-- an outstanding segment that can be written
pub record DataFits (m : ℕ) (x : Sent) : Type 0 where
  pub len : x.held.len ≤ m
  pub fragment : x.held.fragment ≤ fragment_most
  pub slot : x.held.slot < send_slots
  pub number : x.record.number < 2 ^ 32

control_valid : (c : Carried) (m cmd sn ts : ℕ) →
    CarriedFits c →
    push < cmd →
    cmd ≤ window_tell →
    sn < 2 ^ 32 →
    ts < 2 ^ 32 →
    Valid c.conv m (control c cmd sn ts)
control_valid c m cmd sn ts f low high n k = record {
  fits = record { conv = f.conv; cmd = omega arith; frg = omega arith; wnd = f.wnd; ts = k; sn = n; una = f.una; len = omega arith };
  len = refl;
  passes = passes c.conv m 0 (control c cmd sn ts).header
      (record {
        conversation = refl;
        inside = zero-le;
        command_least = omega arith;
        command_most = high;
        payload = λ e. zero-le;
        fragment = λ e. zero-le;
      });
}

data_length : (m : ℕ) (pool : List ℕ) (x : Sent) →
    DataFits m x →
    send_slots * m ≤ length pool →
    length (take x.held.len (drop (x.held.slot * m) pool)) ≡ x.held.len
data_length m pool x f long = simp (length-take, length-drop) (omega (arith, f.len, mul-le-mul_right m f.slot))

data_valid : (c : Carried) (m t : ℕ) (pool : List ℕ) (x : Sent) →
    CarriedFits c →
    m < 2 ^ 32 →
    t < 2 ^ 32 →
    send_slots * m ≤ length pool →
    DataFits m x →
    Valid c.conv m (data_segment c m t pool x)
data_valid c m t pool x f k j long d = record {
  fits = record {
    conv = f.conv;
    cmd = omega arith;
    frg = omega (arith, d.fragment);
    wnd = f.wnd;
    ts = j;
    sn = d.number;
    una = f.una;
    len = omega (arith, d.len);
  };
  len = sym (data_length m pool x d long);
  passes = passes c.conv m x.held.len (data_segment c m t pool x).header
      (record {
        conversation = refl;
        inside = omega arith;
        command_least = omega arith;
        command_most = omega arith;
        payload = λ e. d.len;
        fragment = λ e. d.fragment;
      });
}

-- ---- what is written: all acks, an ask, a tell, data

module _ (s : State) (t : ℕ) (pool : List ℕ) (ask : Bool) (sent : List Sent) where
  abbrev acks_of : List Segment
  acks_of = map (ack_segment (carried s)) s.receiving.acks

  abbrev ask_of : List Segment
  ask_of = wished ask (control (carried s) window_ask 0 0)

  abbrev tell_of : List Segment
  tell_of = wished s.receiving.tell (control (carried s) window_tell 0 0)

  abbrev data_of : List Segment
  data_of = map (data_segment (carried s) (mss s.settings) t pool) sent

  pub written_parts : written s t pool ask sent ≡ acks_of ++ (ask_of ++ (tell_of ++ data_of))
  unfolding written
  written_parts = refl

  module _ (P : Segment → Type 0) where
    all_wished : (b : Bool) (g : Segment) → P g → All P (wished b g)
    all_wished true g h = (h, tt)
    all_wished false g h = tt

    -- of each segment, by its kind
    pub all_written :
        All (λ (a : Ack). P (ack_segment (carried s) a)) s.receiving.acks →
        P (control (carried s) window_ask 0 0) →
        P (control (carried s) window_tell 0 0) →
        All (λ (x : Sent). P (data_segment (carried s) (mss s.settings) t pool x)) sent →
        All P (written s t pool ask sent)
    all_written acks asks tells pushes =
        rw written_parts
        (all_append P acks_of (ask_of ++ (tell_of ++ data_of)) (all_mapped P (ack_segment (carried s)) s.receiving.acks acks)
        (all_append P ask_of (tell_of ++ data_of) (all_wished ask (control (carried s) window_ask 0 0) asks)
        (all_append P tell_of data_of (all_wished s.receiving.tell (control (carried s) window_tell 0 0) tells)
        (all_mapped P (data_segment (carried s) (mss s.settings) t pool) sent pushes))))

    -- and of the data alone
    pub data_written : All P (written s t pool ask sent) → All (λ (x : Sent). P (data_segment (carried s) (mss s.settings) t pool x)) sent
    data_written a =
        all_unmapped P (data_segment (carried s) (mss s.settings) t pool) sent
        (all_right P tell_of data_of (all_right P ask_of (tell_of ++ data_of)
        (all_right P acks_of (ask_of ++ (tell_of ++ data_of)) (rw written_parts at a))))

-- segments of at most n bytes each
bytes_most : (n : ℕ) (gs : List Segment) → All (λ (g : Segment). length (bytes_of_segment g) ≤ n) gs
    → length (bytes_of_segments gs) ≤ n * length gs
unfolding bytes_of_segments
bytes_most n [] a = zero-le
bytes_most n (g ∷ gs) a = simp length-append (omega (arith, a.0, bytes_most n gs a.1, length-append (encode g.header) g.payload))

wished_few : (b : Bool) (g : Segment) → length (wished b g) ≤ 1
wished_few true g = omega arith
wished_few false g = omega arith

module _ (s : State) (t : ℕ) (pool : List ℕ) (ask : Bool) (sent : List Sent) (range : in_range s.settings ≡ true) where
  abbrev c : Carried
  c = carried s

  abbrev m : ℕ
  m = mss s.settings

  mtu : MtuInRange s.settings
  mtu = mtu_in_range s.settings range

  module _ (conv32 : s.settings.conv < 2 ^ 32) (w : CarryFits s.receiving) (time : t < 2 ^ 32)
      (long : send_slots * mss s.settings ≤ length pool) (fit : All (DataFits (mss s.settings)) sent) where
    carried_fits : CarriedFits (carried s)
    carried_fits = record { conv = conv32; wnd = omega arith; una = w.next }

    pub written_valid : All (Valid s.settings.conv (mss s.settings)) (written s t pool ask sent)
    written_valid =
        all_written s t pool ask sent (Valid s.settings.conv m)
        (all_weaker AckFits (λ (a : Ack). Valid s.settings.conv m (ack_segment c a))
        (λ a f. control_valid c m ack a.sn a.ts carried_fits (omega arith) (omega arith) f.sn f.ts)
        s.receiving.acks
        w.acks)
        (control_valid c m window_ask 0 0 carried_fits (omega arith) (omega arith) (omega arith) (omega arith))
        (control_valid c m window_tell 0 0 carried_fits (omega arith) (omega arith) (omega arith) (omega arith))
        (all_weaker (DataFits m) (λ (x : Sent). Valid s.settings.conv m (data_segment c m t pool x))
        (λ x f. data_valid c m t pool x carried_fits (omega (arith, mtu.most)) time long f)
        sent
        fit)

  -- how many they are, and how long, whatever numbers they carry
  module _ (few_acks : length s.receiving.acks ≤ acks_most) (short : All (λ (x : Sent). x.held.len ≤ mss s.settings) sent)
      (few : length sent ≤ send_window) where
    control_short : (cmd sn ts : ℕ) → length (bytes_of_segment (control c cmd sn ts)) ≤ header_size
    control_short cmd sn ts = omega (arith, length_segment (control c cmd sn ts))

    data_short : All (λ (x : Sent). length (bytes_of_segment (data_segment c m t pool x)) ≤ s.settings.mtu) sent
    data_short =
        all_weaker (λ (x : Sent). x.held.len ≤ m) (λ (x : Sent). length (bytes_of_segment (data_segment c m t pool x)) ≤ s.settings.mtu)
        (λ x f. omega (
          arith,
          length_segment (data_segment c m t pool x),
          length-take x.held.len (drop (x.held.slot * m) pool),
          mtu.least,
        )) sent short

    -- no segment is longer than mtu
    pub written_short : All (λ (g : Segment). length (bytes_of_segment g) ≤ s.settings.mtu) (written s t pool ask sent)
    written_short =
        all_written s t pool ask sent (λ (g : Segment). length (bytes_of_segment g) ≤ s.settings.mtu)
        (all_any (λ (a : Ack). length (bytes_of_segment (ack_segment c a)) ≤ s.settings.mtu)
        (λ a. omega (arith, control_short ack a.sn a.ts, mtu.least)) s.receiving.acks)
        (omega (arith, control_short window_ask 0 0, mtu.least))
        (omega (arith, control_short window_tell 0 0, mtu.least))
        data_short

    -- 256 acks, an ask, a tell and 32 data segments at most
    pub written_few : length (written s t pool ask sent) ≤ lengths_least
    written_few =
        rw (written_parts s t pool ask sent)
        (simp (length-append, length-map)
        (omega (arith, wished_few ask (control c window_ask 0 0), wished_few s.receiving.tell (control c window_tell 0 0))))

    pub written_bytes : length (bytes_of_segments (written s t pool ask sent)) ≤ output_least
    written_bytes =
        rw (
          written_parts s t pool ask sent,
          length_bytes_append acks (asks ++ (tells ++ pushes)),
          length_bytes_append asks (tells ++ pushes),
          length_bytes_append tells pushes,
        )
        (omega (
          arith,
          bytes_most header_size acks
              (all_mapped Control (ack_segment c) s.receiving.acks
              (all_any (λ (a : Ack). Control (ack_segment c a)) (λ a. control_short ack a.sn a.ts) s.receiving.acks)),
          bytes_most header_size asks (all_wished s t pool ask sent Control ask (control c window_ask 0 0) (control_short window_ask 0 0)),
          bytes_most header_size tells (all_wished s t pool ask sent Control s.receiving.tell (control c window_tell 0 0)
              (control_short window_tell 0 0)),
          bytes_most mtu_most pushes
              (all_mapped (λ (g : Segment). length (bytes_of_segment g) ≤ mtu_most) (data_segment c m t pool) sent
              (all_weaker
              (λ (x : Sent). length (bytes_of_segment (data_segment c m t pool x)) ≤ s.settings.mtu)
              (λ (x : Sent). length (bytes_of_segment (data_segment c m t pool x)) ≤ mtu_most)
              (λ x k. omega (arith, mtu.most))
              sent
              data_short)),
          length-map s.receiving.acks (ack_segment c),
          length-map sent (data_segment c m t pool),
          wished_few ask (control c window_ask 0 0),
          wished_few s.receiving.tell (control c window_tell 0 0),
        ))
      where
        Control : Segment → Type 0
        Control g = length (bytes_of_segment g) ≤ header_size

        acks : List Segment
        acks = acks_of s t pool ask sent

        asks : List Segment
        asks = ask_of s t pool ask sent

        tells : List Segment
        tells = tell_of s t pool ask sent

        pushes : List Segment
        pushes = data_of s t pool ask sent
