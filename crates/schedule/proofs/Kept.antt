-- Laws that nothing here cites, kept since they stood.
-- Assumes nothing.
use mathlib.Core.Path.{◌≡◌}
use mathlib.Core.List.{List}
use Prim.Native.Nat.{ℕ, ◌+◌, ◌≤◌, ◌<◌, min}
use lib.ListN.{length, take, drop, get_or}
use Rattle.timing.specs.declared.Record.{Record}
use Rattle.lists.proofs.Loops.{view_next, view_end}
use Rattle.schedule.specs.Schedules.{ahead, dues_of, earliest}

-- the least distance over the front of an array: what is read next, and at its end
module _ (now most n i : ℕ) (l : List Record) where
  -- with w, the least so far of `most` and the distance a of the next one
  pub earliest_next : (d : Record) (a w : ℕ) → i < n → n ≤ length l → a ≡ ahead now (get_or l i d).due → w ≡ min most a
      → earliest now most (dues_of (drop i (take n l))) ≡ earliest now w (dues_of (drop (i + 1) (take n l)))
  unfolding earliest
  earliest_next d a w h g e f = rw (view_next l n i d h g, f, e)

  pub earliest_end : n ≤ i → earliest now most (dues_of (drop i (take n l))) ≡ most
  unfolding earliest
  earliest_end h = rw (view_end l n i h)
