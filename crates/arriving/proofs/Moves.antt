-- Words and numbers side by side, moved from the waiting to the ready.
-- Assumes nothing.
use mathlib.Core.Path.{◌≡◌, refl, sym, ap, ap₂, ◌∙◌}
use mathlib.Core.List.{List, ◌++◌, map, map-append, append-nil}
use Prim.Native.Nat.{ℕ, ◌+◌, ◌-◌, ◌≤◌, ◌<◌, ◌^◌, min}
use native.Mathlib.Omega.{arith}
use lib.ListN.{length, take, drop, get_or, length-map}
use lib.Seq.{take-take}
use Rattle.protocol.specs.Serial.{plus, minus}
use Rattle.lists.specs.Views.{waiting_part, HeldIs, WaitingIs}
use Rattle.lists.specs.Receiving.{run_of, advance, ReceivingIs}
use Rattle.lists.proofs.Searches.{run_more, run_stop, run_end}
use Rattle.lists.proofs.Advances.{advanced}
use Rattle.words.specs.Words.{unpack, paired, waiting_at, Front}
use Rattle.words.proofs.Pairs.{paired_take, paired_length, paired_get, paired_drop, blank}
use Rattle.arriving.specs.Arrivals.{ready_list, waiting_list, WholeLists}
use Rattle.std.proofs.lemmas.List.{take-map}
use Rattle.arriving.proofs.Views.{waiting_parts}

-- ---- the run of numbers, with any words beside them

module _ (ws ns : List ℕ) (n i k total : ℕ) (e : length ws ≡ 128) (f : length ns ≡ 128) (g : n ≤ 128)
    (inv : total ≡ i + run_of k (drop i (take n (paired waiting_at ws ns)))) where
  long : n ≤ length (paired waiting_at ws ns)
  long = rw (paired_length waiting_at ws ns 128 e f) g

  pub runs_end : n ≤ i → total ≡ i
  runs_end = run_end (paired waiting_at ws ns) n i k total inv

  module _ (o : ℕ) (h : i < n) (d : o ≡ minus (get_or ns i 0) k) where
    here : o ≡ minus (get_or (paired waiting_at ws ns) i blank).number k
    here = rw (paired_get waiting_at ws ns i blank (omega arith) (omega arith)) d

    pub runs_stop : (o ≡ 0 → ⊥) → total ≡ i
    runs_stop = run_stop (paired waiting_at ws ns) n i k total inv blank o h long here

    pub runs_more : (k' : ℕ) → k' ≡ plus k 1 → o ≡ 0 → total ≡ i + 1 + run_of k' (drop (i + 1) (take n (paired waiting_at ws ns)))
    runs_more = run_more (paired waiting_at ws ns) n i k total inv blank o h long here

-- ---- the whole

module _ (r w ns r' w' ns' : List ℕ) (i j k : ℕ) (whole : WholeLists r w ns) (few : j ≤ 128) (within : k ≤ j)
    (up : Front 128 r' (i + k) (take i r ++ take k w)) (left : Front 128 w' (j - k) (drop k (take j w)))
    (numbers : Front 128 ns' (j - k) (drop k (take j ns))) where
  held_up : HeldIs (ready_list r' (i + k)) (take i (map unpack r) ++ map waiting_part (take k (take j (paired waiting_at w ns))))
  held_up =
      let front = waiting_parts w ns k whole.whole_waiting whole.whole_numbers (omega arith) in
      record {
        fits = up.fits;
        list = take-map unpack (i + k) r' ∙ ap (map unpack) up.list ∙ map-append unpack (take i r)
            (take k w) ∙ rw (take-map unpack i r, take-take k j (paired waiting_at w ns) within, front);
      }

  waits_left : WaitingIs (waiting_list w' ns' (j - k)) (drop k (take j (paired waiting_at w ns)))
  waits_left =
      record {
        fits = left.fits;
        list =
            sym (paired_take waiting_at (j - k) w' ns') ∙ ap₂ (paired waiting_at) left.list numbers.list
            ∙ paired_drop waiting_at k (take j w) (take j ns)
            ∙ ap (drop k) (paired_take waiting_at j w ns);
      }

  pub moved_up : (next n next' : ℕ) → next < 2 ^ 32 → i ≤ 128 → n ≡ min (128 - i) j → k ≡ run_of next (take n (paired waiting_at w ns))
      → next' ≡ plus next k
      → ReceivingIs (record { next = next'; ready = ready_list r' (i + k); waiting = waiting_list w' ns' (j - k) })
      (advance next (take i (map unpack r)) (take j (paired waiting_at w ns)))
  moved_up next n next' low g e f q =
      advanced next i j n k next' (map unpack r) (paired waiting_at w ns) (ready_list r' (i + k)) (waiting_list w' ns' (j - k)) low
      (rw (length-map r unpack, whole.whole_ready) g) e f q held_up waits_left

-- none moves
pub none_up : (r w ns : List ℕ) (i j n next : ℕ) → WholeLists r w ns → next < 2 ^ 32 → i ≤ 128 → j ≤ 128 → n ≡ min (128 - i) j
    → 0 ≡ run_of next (take n (paired waiting_at w ns))
    → ReceivingIs (record { next = next; ready = ready_list r i; waiting = waiting_list w ns j })
    (advance next (take i (map unpack r)) (take j (paired waiting_at w ns)))
none_up r w ns i j n next whole low g h e f =
    advanced next i j n 0 next (map unpack r) (paired waiting_at w ns) (ready_list r i) (waiting_list w ns j) low
    (rw (length-map r unpack, whole.whole_ready) g) e f (omega arith)
    (record { fits = g; list = sym (append-nil (take i (map unpack r))) }) (record { fits = h; list = refl })
