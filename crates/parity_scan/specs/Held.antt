-- What is held of a group: for each place, where the shard of its first frame lies among the packed frames, if there is one.
-- Definitions.
-- Assumes nothing.
use Rattle.std.specs.Prelude.{◌≡◌, Bool, true, false, cond, Option, None, Some, Result, MatchResult, List, ℕ, ◌+◌, ◌≤◌, ltb, length, slice_index_or, take, drop, set}
use Rattle.frames.specs.declared.Refusal.{Refusal}
use Rattle.frames.specs.declared.Refusal.TheVariants.{NotAGroup}
use Rattle.frames.specs.Lists.{parts, every}
use Rattle.frames.specs.Reading.{frame_ok, held_shard}
use Rattle.parity_scan.specs.declared.held.Span.{Span}
use Rattle.parity_scan.specs.declared.scan.Scanned.{Scanned}

abbrev pub Held : Type 0
Held = List (Option Span)

abbrev pub span_at : Option Span → ℕ
span_at None = 0
span_at (Some x) = x.at

abbrev pub span_size : Option Span → ℕ
span_size None = 0
span_size (Some x) = x.size

-- where the shard that is held for place p starts, and its size, 0 for none
abbrev pub at_in : Held → ℕ → ℕ
at_in h p = span_at (slice_index_or h p None)

abbrev pub size_in : Held → ℕ → ℕ
size_in h p = span_size (slice_index_or h p None)

-- the shard that is held for place p
unfoldable pub shard_in : List ℕ → Held → ℕ → List ℕ
shard_in s h p = take (size_in h p) (drop (at_in h p) s)

-- whether there is one
unfoldable pub sized : Held → ℕ → Bool
sized h p = ltb 0 (size_in h p)

-- each lies within the packed frames
pub record Inside (s : List ℕ) (h : Held) : Type 0 where
  pub inside : (p : ℕ) → at_in h p + size_in h p ≤ length s

-- a shard for place p, unless one is held already
unfoldable pub noted : Held → ℕ → Span → Held
noted h p x = cond (sized h p) h (set h p (Some x))

-- what is held is what the frames give
pub record Gathered (s ns : List ℕ) (k : ℕ) (h : Held) : Type 0 where
  pub inside : Inside s h
  pub shards : (p : ℕ) → shard_in s h p ≡ held_shard k (parts s ns) p

-- a scan of frames that are all to be of group n
pub record Found (s ns : List ℕ) (k mtu n : ℕ) (x : Scanned) : Type 0 where
  pub right : every (frame_ok k mtu n) (parts s ns) ≡ true
  pub group : x.group ≡ n
  pub places : length x.held ≡ 12
  pub held : Gathered s ns k x.held

abbrev pub Scans : List ℕ → List ℕ → ℕ → ℕ → ℕ → Result Scanned Refusal → Type 0
Scans s ns k mtu n r = MatchResult r (Found s ns k mtu n) (λ e. (every (frame_ok k mtu n) (parts s ns) ≡ false) × (e ≡ NotAGroup))
