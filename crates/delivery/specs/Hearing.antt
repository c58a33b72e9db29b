-- What demand 3 asks of calls: which its sender and its two receivers make. Definitions.
-- Assumes nothing.
use Rattle.std.specs.Prelude.{◌≡◌, true, ℕ, ◌^◌, ◌<◌}
use mathlib.Core.List.{List, [], ◌∷◌, Memᴰ}
use Rattle.protocol.specs.Ranges.{in_range}
use Rattle.wire.specs.LittleEndian.{AllBytes}
use Rattle.protocol.specs.declared.Settings.{Settings}
use Rattle.session.specs.Decides.{All}
use Rattle.session.specs.Calls.{Call}
use Rattle.delivery.specs.PlainReceiver.{pushes_in}

-- settings that an opening takes, in 32 bits
pub record Taken (c : Settings) : Type 0 where
  pub range : in_range c ≡ true
  pub conv : c.conv < 2 ^ 32

-- a call's bytes are bytes, and its time has 32 bits
abbrev pub CallFits : Call → Type 0
CallFits (Call.send m) = AllBytes m
CallFits (Call.take_in d) = AllBytes d
CallFits (Call.flush t) = t < 2 ^ 32
CallFits (Call.update t) = t < 2 ^ 32
CallFits (Call.check t) = t < 2 ^ 32
CallFits (Call.read room) = Unit {0}

-- the sender's pushes carry numbers below 2^30
abbrev pub FewPushes : Settings → List (List ℕ) → Type 0
FewPushes c ds = All (λ (d : List ℕ). All (λ (sn : ℕ). sn < 2 ^ 30) (pushes_in c d)) ds

-- every datagram taken in is one of these: some of them, late, repeated or shuffled
abbrev pub FedWith : List (List ℕ) → List Call → Type 0
FedWith ds [] = Unit {0}
FedWith ds (Call.take_in d ∷ xs) = Memᴰ d ds × FedWith ds xs
FedWith ds (Call.send m ∷ xs) = FedWith ds xs
FedWith ds (Call.flush t ∷ xs) = FedWith ds xs
FedWith ds (Call.update t ∷ xs) = FedWith ds xs
FedWith ds (Call.check t ∷ xs) = FedWith ds xs
FedWith ds (Call.read room ∷ xs) = FedWith ds xs

-- the second has the first one's feeds and reads, in that order and with read buffers as long, and further feeds put in anywhere;
-- both send, flush, update and check at any point
pub data HearsMore : List Call → List Call → Type 0 where
  start : HearsMore [] []
  both_take : {d : List ℕ} {xs ys : List Call} → HearsMore xs ys → HearsMore (Call.take_in d ∷ xs) (Call.take_in d ∷ ys)
  both_read : {room : ℕ} {xs ys : List Call} → HearsMore xs ys → HearsMore (Call.read room ∷ xs) (Call.read room ∷ ys)
  takes_more : {d : List ℕ} {xs ys : List Call} → HearsMore xs ys → HearsMore xs (Call.take_in d ∷ ys)
  first_sends : {m : List ℕ} {xs ys : List Call} → HearsMore xs ys → HearsMore (Call.send m ∷ xs) ys
  first_flushes : {t : ℕ} {xs ys : List Call} → HearsMore xs ys → HearsMore (Call.flush t ∷ xs) ys
  first_updates : {t : ℕ} {xs ys : List Call} → HearsMore xs ys → HearsMore (Call.update t ∷ xs) ys
  first_checks : {t : ℕ} {xs ys : List Call} → HearsMore xs ys → HearsMore (Call.check t ∷ xs) ys
  second_sends : {m : List ℕ} {xs ys : List Call} → HearsMore xs ys → HearsMore xs (Call.send m ∷ ys)
  second_flushes : {t : ℕ} {xs ys : List Call} → HearsMore xs ys → HearsMore xs (Call.flush t ∷ ys)
  second_updates : {t : ℕ} {xs ys : List Call} → HearsMore xs ys → HearsMore xs (Call.update t ∷ ys)
  second_checks : {t : ℕ} {xs ys : List Call} → HearsMore xs ys → HearsMore xs (Call.check t ∷ ys)
