-- Request 2026-05, once over both modes and all calls since opening: queued payloads joined are the bytes accepted and not yet numbered.
-- And every push is the segment of its number of demand 3's accepted list, in both modes.
-- Assumes nothing.
use Rattle.std.specs.Prelude.{◌≡◌, Bool, cond, ℕ, ◌+◌, ◌-◌, ◌/◌, ◌≤◌, ◌<◌, ◌%◌, ◌^◌, length, drop}
use Rattle.std.proofs.Math.Path.{refl, subst}
use Rattle.std.proofs.Common.{sym, ap, ap₂, ◌∙◌, div-lt_iff_lt-mul, arith, drop_at, take_all}
use Rattle.std.proofs.Math.Bool.{true, false}
use mathlib.Core.List.{List, [], ◌∷◌, ◌++◌, map, flatten}
use Rattle.std.proofs.lemmas.List.{length-map}
use Rattle.protocol.specs.Ranges.{mss, is_stream}
use Rattle.protocol.specs.declared.Settings.{Settings}
use Rattle.lists.specs.declared.Held.{Held}
use Rattle.session.specs.Cutting.{fragment_count, pieces, cut}
use Rattle.session.specs.Reading.{joined_in}
use Rattle.session.specs.Calls.{Station, Call, Event, history, after, accepted_list, datagrams_by}
use Rattle.session.specs.Decides.{All}
use Rattle.session.specs.AllLaws.{all_left}
use Rattle.delivery.specs.Accepted.{numbered_by, accepted_for}
use Rattle.delivery.specs.Hearing.{Taken, CallFits, FewPushes}
use Rattle.delivery.specs.Stations.{Opened}
use Rattle.delivery.specs.Passing.{Passing}
use Rattle.delivery.specs.Pieces.{Piece, fragmented, falling, pieces_of, GenuineDatagram}
use Rattle.delivery.specs.SizeLaws.{mtu_in_range}
use Rattle.delivery.specs.SendPool.{piece_in}
use Rattle.delivery.specs.ReceiverModel.{joined}
use Rattle.delivery.specs.Filling.{Single, joined_append}
use Rattle.delivery.specs.Numbering.{pieces_numbered, payloads}
use Rattle.delivery.specs.SentGenuine.{sent_genuine, more_datagrams}
use Rattle.delivery.specs.NumberingLaws.{Run, opened_run}

-- ---- payloads joined

joined_held : (m : ℕ) (pool : List ℕ) (q : List Held) → joined (map (piece_in m pool) q) ≡ joined_in m pool q
unfolding joined joined_in
joined_held m pool [] = refl
joined_held m pool (h ∷ q) = rw (joined_held m pool q)

joined_payloads : (l : List Piece) → flatten (payloads l) ≡ joined l
unfolding joined flatten
joined_payloads [] = refl
joined_payloads (q ∷ l) = rw (joined_payloads l)

-- ---- a payload of at most mss bytes is a message of one segment

one_fragment : (m n : ℕ) → 0 < m → n ≤ m → fragment_count m n ≡ 1
unfolding fragment_count
one_fragment m n h k = let q : (n + (m - 1)) / m < 2 = (div-lt_iff_lt-mul h).1 (omega arith) in omega arith

one_piece : (m : ℕ) (q : Piece) → 0 < m → Single m q → falling (cut m q.payload) ≡ q ∷ []
unfolding fragmented cut pieces
one_piece m q h s =
    rw (one_fragment m (length q.payload) h s.short)
    (ap₂ {C = List Piece} (λ (n : ℕ) (b : List ℕ). record { fragment = n; payload = b } ∷ []) (sym s.fragment)
    (take_all m q.payload s.short))

single_pieces : (m : ℕ) (l : List Piece) → 0 < m → All (Single m) l → pieces_of m (payloads l) ≡ l
unfolding pieces_of
single_pieces m [] h a = refl
single_pieces m (q ∷ l) h a = rw (one_piece m q h a.0, single_pieces m l h a.1)

module _ (c : Settings) (taken : Taken c) (s : Station) (p : Opened c s) (calls : List Call) (k : All CallFits calls)
    (q : Passing s calls) where
  abbrev events : List Event
  events = history s calls

  abbrev queued : List Piece
  queued = map (piece_in (mss c) (after s calls).send_pool) (after s calls).state.sending.queued

  whole : Run c [] [] s calls
  whole = opened_run c taken s p calls k q

  some : 0 < mss c
  some = omega (arith, (mtu_in_range c taken.range).least)

  -- what its datagrams show to be numbered is what its flushes numbered
  pub numbered_are : numbered_by c events ≡ payloads (pieces_numbered s calls)
  unfolding numbered_by
  numbered_are = whole.wrote

  -- snd_nxt is their count, modulo 2^32
  pub numbered_count_lem : (after s calls).state.sending.next ≡ length (numbered_by c events) % 2 ^ 32
  numbered_count_lem = whole.then.next
      ∙ ap (λ (n : ℕ). n % 2 ^ 32) (sym (ap length numbered_are ∙ length-map (pieces_numbered s calls) (λ (q : Piece). q.payload)))

  -- the bytes numbered, and behind them those queued, are the bytes accepted
  pub accepted_bytes : flatten (numbered_by c events) ++ joined_in (mss c) (after s calls).send_pool
      (after s calls).state.sending.queued ≡ flatten (accepted_list events)
  accepted_bytes =
      ap₂ {C = List ℕ} (λ (a b : List ℕ). a ++ b) (ap flatten numbered_are ∙ joined_payloads (pieces_numbered s calls))
      (sym (joined_held (mss c) (after s calls).send_pool (after s calls).state.sending.queued))
      ∙ sym (joined_append (pieces_numbered s calls) queued)
      ∙ whole.then.cuts.bytes

  -- QUEUED PAYLOADS JOINED ARE THE BYTES ACCEPTED AND NOT YET NUMBERED
  pub queued_bytes_lem : joined_in (mss c) (after s calls).send_pool (after s calls).state.sending.queued ≡ drop
      (length (flatten (numbered_by c events))) (flatten (accepted_list events))
  queued_bytes_lem =
      sym (drop_at (flatten (numbered_by c events)) (joined_in (mss c) (after s calls).send_pool (after s calls).state.sending.queued)
      (length (flatten (numbered_by c events))) refl)
      ∙ ap (drop (length (flatten (numbered_by c events)))) accepted_bytes

  -- every push is the segment of its number of the accepted list
  pub accepted_genuine : FewPushes c (datagrams_by (history s calls)) →
      All (GenuineDatagram c (pieces_of (mss c) (accepted_for c (history s calls)))) (datagrams_by (history s calls))
  unfolding accepted_for
  accepted_genuine few = go (is_stream c) refl (sent_genuine c taken s p calls k q few)
    where
      go : (b : Bool) → is_stream c ≡ b → All (GenuineDatagram c (pieces_numbered s calls)) (datagrams_by events) →
          All (GenuineDatagram c (pieces_of (mss c) (cond b (numbered_by c events) (accepted_list events)))) (datagrams_by events)
      go true e g =
          subst (λ (l : List Piece). All (GenuineDatagram c l) (datagrams_by events))
          (sym (ap (pieces_of (mss c)) numbered_are
          ∙ single_pieces (mss c) (pieces_numbered s calls) some
          (all_left (Single (mss c)) (pieces_numbered s calls) queued (whole.then.cuts.singles e))))
          g
      go false e g =
          subst (λ (l : List Piece). All (GenuineDatagram c l) (datagrams_by events)) (whole.then.cuts.messages e)
          (more_datagrams c (pieces_numbered s calls) queued (datagrams_by events) g)
