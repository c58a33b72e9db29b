-- What a flush, or where it is paced an update, has left before its records are put back, and what it promises with them put back.
-- Definitions.
-- Assumes nothing.
use Rattle.std.specs.Prelude.{◌≡◌, Bool, true, false, ℕ}
use Rattle.control.specs.declared.Link.{Link}
use Rattle.promises.specs.Parts.{Parts, FlushParts}
use Rattle.promises.specs.Cores.{PutBack}
use Rattle.promises.specs.Promises.{FlushPromise, UpdatePromise}
use Rattle.from_cores.specs.Left.{FlushLeft, UpdateLeft}
use Rattle.flush_core.specs.Flushes.{update_of}
use Rattle.answers.specs.Answers.{Count, Update}

abbrev pub Left : Bool → ℕ → Link → Parts → FlushParts → Update → PutBack → Link → FlushParts → Type 0
Left false t l p f a b l' f' = (n : Count) × (a ≡ update_of n) × FlushLeft t l p f n b l' f'
Left true t l p f a b l' f' = UpdateLeft t l p f a b l' f'

abbrev pub WrittenOut : Bool → ℕ → Link → Parts → FlushParts → Update → Link → Parts → FlushParts → Type 0
WrittenOut false t l p f a l' p' f' = (n : Count) × (a ≡ update_of n) × FlushPromise t l p f n l' p' f'
WrittenOut true t l p f a l' p' f' = UpdatePromise t l p f a l' p' f'
