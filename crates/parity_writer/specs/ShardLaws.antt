-- Steps of the parity shards: a data shard added to a row, and the row from the last place to the first.
-- Assumes nothing.
use Rattle.std.specs.Prelude.{◌≡◌, get_or, take, set}
use Rattle.std.proofs.Common.{sym, ◌∙◌, le-ltb}
use Rattle.std.proofs.Math.Path.{ap, ap₂}
use mathlib.Core.List.{List, []}
use Prim.Native.Nat.{ℕ, zero, suc, ◌+◌, ◌-◌, ◌/◌, ◌%◌, ◌≤◌, ◌<◌}
use native.Mathlib.Omega.{arith}
use Rattle.std.proofs.Math.ListN.{length, length-set}
use Rattle.std.proofs.Math.Seq.{get_or-set_same, get_or-set_other}
use Rattle.wire.specs.LittleEndian.{AllBytes}
use Rattle.galois.specs.Field.{plus, mul}
use Rattle.galois.specs.FieldLaws.{plus_zero}
use Rattle.rows.specs.Rows.{Row, behind, stepped}
use Rattle.frames.specs.Lists.{total, parts, lengths_of, add_up, largest}
use Rattle.frames.specs.Frames.{shard, longest, weight, parity_byte, parity_shard}
use Rattle.frames.specs.PartLaws.{add_up_next, length_parts, lengths_parts, parts_bytes}
use Rattle.frames.specs.FrameLaws.{shard_low, shard_high, shard_byte_lem, shard_bytes}
use Rattle.frames.specs.WeightLaws.{tail, row_listed, row_same, steps_none, steps_next, steps_done}

-- ---- a data shard added: its len in the first two bytes, the datagram behind them

module _ (was d : List ℕ) (n v w : ℕ) (size : length d ≡ n) (room : n + 2 ≤ length was) where
  -- the row once its first two bytes are stored
  headed : List ℕ
  headed = set (set was 0 v) 1 w

  first_two : v ≡ plus (get_or was 0 0) ((n + 2) % 256) → w ≡ plus (get_or (set was 0 v) 1 0) ((n + 2) / 256 % 256) →
      (x : ℕ) → plus (get_or headed x 0) (behind 2 d x) ≡ plus (get_or was x 0) (get_or (shard d) x 0)
  unfolding headed behind
  first_two e f zero =
      let l : 0 < length was = omega arith in
      plus_zero (get_or (set (set was 0 v) 1 w) 0 0)
      ∙ get_or-set_other (set was 0 v) 1 0 w 0 (λ q. omega arith) ∙ get_or-set_same was 0 v 0 l
      ∙ e ∙ ap (plus (get_or was 0 0)) (sym (shard_low d n size))
  first_two e f (suc zero) =
      let l : 1 < length (set was 0 v) = rw (length-set was 0 v) (omega arith) in
      plus_zero (get_or (set (set was 0 v) 1 w) 1 0)
      ∙ get_or-set_same (set was 0 v) 1 w 0 l
      ∙ f ∙ ap₂ plus (get_or-set_other was 0 1 v 0 (λ q. omega arith)) (sym (shard_high d n size))
  first_two e f (suc (suc x)) =
      rw (le-ltb (suc (suc x)) 2 (omega arith))
      (ap₂ plus
      (get_or-set_other (set was 0 v) 1 (suc (suc x)) w 0 (λ q. omega arith) ∙ get_or-set_other was 0 (suc (suc x)) v 0 (λ q. omega arith))
      (sym (shard_byte_lem d (suc (suc x)) (omega arith))))

  pub shard_added : (row : List ℕ) → v ≡ plus (get_or was 0 0) ((n + 2) % 256) → w ≡ plus (get_or (set was 0 v) 1 0) ((n + 2) / 256 % 256) →
      Row (λ x. plus (get_or (set (set was 0 v) 1 w) x 0) (behind 2 d x)) (length (set (set was 0 v) 1 w)) row →
      Row (λ x. plus (get_or was x 0) (get_or (shard d) x 0)) (length was) row
  unfolding headed
  shard_added row e f r =
      let z : length (set (set was 0 v) 1 w) ≡ length was = length-set (set was 0 v) 1 w ∙ length-set was 0 v in
      record { size = r.size ∙ z; byte = λ x l. r.byte x (rw z l) ∙ first_two e f x }

-- ---- the row from the last place to the first

pub add_up_back : (ns : List ℕ) (p from n : ℕ) → 0 < p → p ≤ length ns → from ≡ add_up (take p ns) → n ≡ get_or ns (p - 1) 0
    → (n ≤ from) × (from - n ≡ add_up (take (p - 1) ns))
add_up_back ns p from n h l ef en =
    let e : p ≡ p - 1 + 1 = omega arith in
    let a : add_up (take p ns) ≡ add_up (take (p - 1) ns) + get_or ns (p - 1) 0 =
    ap (λ (q : ℕ). add_up (take q ns)) e ∙ add_up_next ns (p - 1) (omega arith) in
    (omega arith, omega arith)

-- byte x of the data shard at place q
abbrev pub shard_byte : List ℕ → List ℕ → ℕ → ℕ → ℕ
shard_byte s ns x q = get_or (shard (get_or (parts s ns) q [])) x 0

module _ (w : ℕ) (s ns : List ℕ) (bytes : AllBytes s) where
  small : (x q : ℕ) → shard_byte s ns x q < 256
  small x q = shard_bytes (get_or (parts s ns) q []) (parts_bytes s ns bytes q) x

  pub parity_none : (m n : ℕ) (row : List ℕ) → m ≡ n → Row (λ x. 0) m row
      → Row (λ x. tail w (shard_byte s ns x) (length ns) (length ns)) n row
  parity_none = steps_none w (shard_byte s ns) small (length ns)

  pub parity_next :
      (p q size : ℕ) (d row row₁ row₂ : List ℕ) →
      p ≡ q + 1 →
      q < length ns →
      d ≡ get_or (parts s ns) q [] →
      Row (λ x. tail w (shard_byte s ns x) p (length ns)) size row →
      Row (λ x. stepped w (get_or row x 0)) (length row) row₁ →
      Row (λ x. plus (get_or row₁ x 0) (get_or (shard d) x 0)) (length row₁) row₂ →
      Row (λ x. tail w (shard_byte s ns x) q (length ns)) size row₂
  parity_next p q size d row row₁ row₂ ep l ed r r₁ r₂ =
      steps_next w (shard_byte s ns) small (length ns) p q size row row₁ row₂ ep l r r₁
      (row_same (λ x. plus (get_or row₁ x 0) (get_or (shard d) x 0)) (λ x. plus (get_or row₁ x 0) (shard_byte s ns x q))
      (length row₁) row₂ (λ x m. ap (λ (e : List ℕ). plus (get_or row₁ x 0) (get_or (shard e) x 0)) ed) r₂)

  pub parity_done : (p : ℕ) (row : List ℕ) → add_up ns ≤ length s → p ≤ 0
      → Row (λ x. tail w (shard_byte s ns x) p (length ns)) (largest ns + 2) row →
      row ≡ parity_shard w (parts s ns)
  unfolding parity_shard parity_byte longest
  parity_done p row h l r =
      row_listed (λ x. total (λ q. mul (weight w q) (shard_byte s ns x q)) (length (parts s ns))) (largest (lengths_of (parts s ns)) + 2) row
      (rw (length_parts s ns) (steps_done w (shard_byte s ns) small (length ns) p (largest ns + 2) (largest (lengths_of (parts s ns)) + 2) row
      l
      (ap (λ (m : List ℕ). largest m + 2) (sym (lengths_parts s ns h))) r))
