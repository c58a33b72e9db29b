-- Datagrams of the sender that come back from frames. Definitions.
-- Assumes nothing.
use Rattle.std.specs.Prelude.{◌⊎◌, Ok, ℕ, length, take}
use mathlib.Core.List.{List, [], ◌∷◌, Memᴰ}
use Rattle.wire.specs.LittleEndian.{AllBytes}
use Rattle.session.specs.Decides.{All}
use Rattle.session.specs.Calls.{Call}
use Rattle.frames.specs.Lists.{parts}
use Rattle.frames.specs.Outcomes.{Gives, write_of}
use Rattle.frames.specs.Reading.{read_of}

-- d is returned by the reader from frames of one group, as the writer made it from datagrams that were sent: a call of the writer that was
-- not refused, then one of the reader that was not, with the writer's k and mtu and some of its frames. Each call is what it promises, and
-- what it writes is seen as its bytes cut by its lengths, as many as it answers
pub record Recovered (sent : List (List ℕ)) (d : List ℕ) : Type 0 where
  pub group : ℕ
  pub k : ℕ
  pub mtu : ℕ
  -- the writer is lent datagrams that were sent
  pub datagrams : List ℕ
  pub lengths : List ℕ
  pub bytes : AllBytes datagrams
  pub theirs : All (λ (x : List ℕ). Memᴰ x sent) (parts datagrams lengths)
  pub out : List ℕ
  pub out_lengths : List ℕ
  pub count : ℕ
  pub out' : List ℕ
  pub out_lengths' : List ℕ
  pub writes : Gives (write_of group k mtu datagrams lengths (length out) (length out_lengths)) out out_lengths (Ok count) out'
      out_lengths'
  -- the reader is lent frames that it wrote
  pub frames : List ℕ
  pub frame_lengths : List ℕ
  pub given : All (λ (f : List ℕ). Memᴰ f (parts out' (take count out_lengths'))) (parts frames frame_lengths)
  pub back : List ℕ
  pub back_lengths : List ℕ
  pub back_count : ℕ
  pub back' : List ℕ
  pub back_lengths' : List ℕ
  pub reads : Gives (read_of k mtu frames frame_lengths (length back) (length back_lengths)) back back_lengths (Ok back_count) back'
      back_lengths'
  pub among : Memᴰ d (parts back' (take back_count back_lengths'))

-- every datagram taken in is one that was sent, as it came or by way of the reader
abbrev pub FedThrough : List (List ℕ) → List Call → Type 0
FedThrough sent [] = Unit {0}
FedThrough sent (Call.take_in d ∷ xs) = (Memᴰ d sent ⊎ Recovered sent d) × FedThrough sent xs
FedThrough sent (Call.send m ∷ xs) = FedThrough sent xs
FedThrough sent (Call.flush t ∷ xs) = FedThrough sent xs
FedThrough sent (Call.update t ∷ xs) = FedThrough sent xs
FedThrough sent (Call.check t ∷ xs) = FedThrough sent xs
FedThrough sent (Call.read room ∷ xs) = FedThrough sent xs
